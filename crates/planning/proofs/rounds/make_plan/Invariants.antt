-- `planning::rounds::make_plan` meets its contract: each turn makes a round, until one has no steps.
use Prim.Native.Nat.{◌-◌}
use Rattle.planning.proofs.PlannedLaws.{Rounds}
use Rattle.planning.proofs.rounds.make_plan.Given as goal

abbrev pub invariant-loop-columns : goal.invariant-loop-columns
invariant-loop-columns l = Rounds l.fn.code.family l.fn.code.k l.initial.marks l.initial.out l.out l.marks l.steps l.rounds

abbrev pub decreases-loop-columns : goal.decreases-loop-columns
decreases-loop-columns l = l.n - l.rounds
