-- `transposition::copy_strided` meets its contract: before turn i the buffer has neared each goal by the first i bytes.
use Prim.Native.Nat.{◌+◌, ◌*◌, ◌<◌}
use native.Mathlib.Omega.{arith}
use lib.ListN.{length}
use Rattle.transposition.proofs.NearLaws.{near_byte}
use Rattle.transposition.proofs.copy_strided.Goals as goal
use Rattle.transposition.proofs.copy_strided.Goals.{In-loop-i}

writes : (c : In-loop-i) → let g = c.args in g.to + c.loop-i.i * g.to_stride < length g.dst.now
writes c = omega (arith, c.requires.1 c.loop-i.i c.loop-i-test.true)

pub loop-i-preserved : goal.loop-i-preserved
loop-i-preserved c =
    let w = c.loop-i.invariant in
    let h = writes (goal.at.loop-i-preserved c).In-loop-i in
    record { nears = λ goal e. near_byte (w.nears goal (λ i l. e i (omega arith))) _ h (e c.loop-i.i (omega arith)) }
