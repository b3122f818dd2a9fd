-- `planning::rounds::plan_round` meets its contract: each turn finds the round's next repair, until there is none. What the search goes
-- by stands in the invariant.
use mathlib.Core.Path.{◌≡◌}
use Prim.Native.Nat.{◌-◌}
use Rattle.planning.proofs.RoundLaws.{missing_counts, InRound}
use Rattle.planning.proofs.rounds.plan_round.Given as goal

abbrev pub invariant-loop-count : goal.invariant-loop-count
invariant-loop-count l =
    (l.counts ≡ missing_counts l.columns.code.family l.columns.code.k l.marks) × InRound l.columns.code.family l.columns.code.k l.marks l.round l.initial.out l.from l.initial.next l.out l.next l.list l.count l.free l.steps l.node

abbrev pub decreases-loop-count : goal.decreases-loop-count
decreases-loop-count l = l.n - l.node
