-- `blocks::xor_by_chunks` meets its contract: the bytes done so far are those of the XOR of the parts as they were at entry, which no chunk that is put touches.
use Prim.Native.Nat.{◌+◌, ◌-◌, ◌*◌}
use mathlib.Core.Path.{◌≡◌}
use Rattle.blocks.proofs.PartLaws.{xor_part, xor_done}
use native.Mathlib.Omega.{arith}
use Rattle.blocks.proofs.xor_by_chunks.Goals as goal

pub loop-chunk-preserved : goal.loop-chunk-preserved
loop-chunk-preserved c =
    let l = c.loop-chunk in
    let next : 64 * (l.chunk + 1) ≡ 64 * l.chunk + 64 = omega arith in
    rw (next, c.xor_chunk_at.ensures) (xor_part l.invariant (64 * l.chunk) 64 (omega arith) (omega arith) (omega arith))

pub returns-then-len-ne0 : goal.returns-then-len-ne0
returns-then-len-ne0 c =
    let len = c.args.len in
    rw c.xor_chunk_at-then-len-ne0.ensures (xor_done (xor_part c.loop-chunk.invariant (len - 64) 64 (omega arith) (omega arith) (omega arith)) (omega arith))

pub returns-else-len-ne0 : goal.returns-else-len-ne0
returns-else-len-ne0 c = xor_done c.loop-chunk.invariant (omega arith)
