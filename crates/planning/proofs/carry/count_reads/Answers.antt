-- `planning::carry::count_reads` meets its contract: before turn i the reads of the first i steps are counted.
use Prim.Native.Nat.{◌+◌, ◌*◌}
use native.Mathlib.Omega.{arith}
use Rattle.planning.proofs.CarryLaws.{first_low, second_low, count_more, count_done}
use Rattle.planning.proofs.carry.count_reads.Goals as goal

pub count_one-requires : goal.count_one-requires
count_one-requires c =
    (omega arith, rw c.from.ensures (omega (arith, c.shared_slice_known-in-loop-i-1.given (4 * c.loop-i.i + 2)), first_low c.loop-i.invariant (omega arith)))

pub count_one-requires-in-loop-i : goal.count_one-requires-in-loop-i
count_one-requires-in-loop-i c =
    (omega arith, rw (c.from-in-loop-i.ensures, c.count_one.ensures, c.from.ensures) (omega (arith, c.shared_slice_known-in-loop-i-2-1.given (4 * c.loop-i.i + 3)), second_low c.loop-i.invariant (omega arith)))

pub loop-i-preserved : goal.loop-i-preserved
loop-i-preserved c =
    rw (c.count_one-in-loop-i.ensures, c.from-in-loop-i.ensures, c.count_one.ensures, c.from.ensures) (count_more c.loop-i.invariant (omega arith))

pub returns : goal.returns
returns c = count_done c.loop-i.invariant (omega arith)
