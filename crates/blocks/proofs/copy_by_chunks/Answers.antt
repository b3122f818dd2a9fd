-- `blocks::copy_by_chunks` meets its contract: the bytes done so far are those of src, and each chunk, the last one too, takes them further.
use mathlib.Core.Path.{◌≡◌, ◌∙◌}
use Prim.Native.Nat.{◌+◌, ◌-◌, ◌*◌}
use native.Mathlib.Omega.{arith}
use lib.ListN.{length}
use Rattle.base.proofs.Fill.{fill_done}
use Rattle.blocks.proofs.PartLaws.{fill_part}
use Rattle.blocks.proofs.copy_by_chunks.Goals as goal

pub loop-chunk-preserved : goal.loop-chunk-preserved
loop-chunk-preserved c =
    let l = c.loop-chunk in
    let a = c.args in
    let next : 64 * (l.chunk + 1) ≡ 64 * l.chunk + 64 = omega arith in
    rw (next, c.copy_chunk_at.ensures, l.invariant) (fill_part a.src.now a.dst.now (64 * l.chunk) (64 * l.chunk) 64 (omega arith) (omega arith) (omega arith))

pub returns : goal.returns
returns c =
    let l = c.loop-chunk in
    let a = c.args in
    let at = length a.src.now - 64 in
    rw (c.copy_chunk_at-2.ensures, l.invariant)
    (fill_part a.src.now a.dst.now (64 * l.chunk) at 64 (omega arith) (omega arith) (omega arith)
    ∙ fill_done a.src.now a.dst.now (at + 64) (omega arith) (omega arith))
