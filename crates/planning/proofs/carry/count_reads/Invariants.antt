-- `planning::carry::count_reads` meets its contract: before turn i the reads of the first i steps are counted.
use Prim.Native.Nat.{◌/◌}
use lib.ListN.{length}
use Rattle.planning.proofs.CarryLaws.{CountedSoFar}
use Rattle.planning.proofs.carry.count_reads.Given as goal

abbrev pub invariant-loop-i : goal.invariant-loop-i
invariant-loop-i l = CountedSoFar l.steps (length l.steps / 4) l.initial.reads l.reads l.i
