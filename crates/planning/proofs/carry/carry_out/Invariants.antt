-- `planning::carry::carry_out` meets its contract: before turn i the first i steps are made.
use Prim.Native.Nat.{◌/◌}
use lib.ListN.{length}
use Rattle.planning.proofs.CarryLaws.{Carried}
use Rattle.planning.proofs.carry.carry_out.Given as goal

abbrev pub invariant-loop-i : goal.invariant-loop-i
invariant-loop-i l = Carried l.len l.steps (length l.steps / 4) l.initial.nodes l.nodes l.i
