-- The claims of specs/Claims.antt.
-- Assumes nothing.
use mathlib.Core.Path.{◌≡◌}
use mathlib.Core.Bool.{Bool, true, false}
use mathlib.Core.List.{List, Memᴰ}
use Prim.Native.Nat.{ℕ, ◌≤◌}
use native.Mathlib.Omega.{arith}
use borrow.Author.Tests.{ne_eqb}
use lib.ListN.{length}
use Rattle.base.proofs.Tests.{not_both}
use Rattle.families.specs.declared.Family.{Family}
use Rattle.families.specs.Families.{KInRange, IsNode, node_count}
use Rattle.families.proofs.Laws.{few}
use Rattle.lists.specs.Lists.{is_live}
use Rattle.counts.proofs.Laws.{sum_all}
use Rattle.pairing.specs.Pairs.{pair_count}
use Rattle.pairing.proofs.PairLaws.{smaller_some}
use Rattle.pairing.proofs.NoneLaws.{count_some, some_count}
use Rattle.planning.specs.Claims.{PlanClaim, PlanRoundsClaim, FirstRoundClaim, ReadsClaim, LiveReadsClaim}
use Rattle.planning.specs.Plan.{Step, once, round_steps, sources_of, times_read, marks_after, plan_of, before_round, last_round}
use Rattle.planning.proofs.MakeLaws.{once_shrinks, make_counts, left_few}
use Rattle.planning.proofs.SourceLaws.{length_sources, sources_inside, reads_are, times_few}
use Rattle.planning.proofs.FreeLaws.{free_pair}
use Rattle.planning.proofs.TurnLaws.{round_claims, first_turn}
use Rattle.planning.proofs.RoundsLaws.{from_round_lem, first_steps, first_listed, rounds_order, round_is, rounds_some, rounds_few, rounds_most}
use Rattle.planning.proofs.PlanLaws.{rounds_end, rounds_make, rounds_quiet, rounds_enough}

pub plan_claim : PlanClaim
unfolding plan_of
plan_claim f k range marks size =
    let n : ℕ = node_count f k in
    let makes = rounds_make once once_shrinks f k range n marks size 1 in
    record {
      makes = makes;
      ends = rounds_quiet once once_shrinks f k range n marks size 1 (left_few marks n);
      ended = rounds_end once once_shrinks f k marks;
      enough = λ m h. rounds_enough once once_shrinks f k range n m marks size 1 (left_few marks n) h;
      counts = make_counts f k range marks size (plan_of f k marks) makes;
    }

pub plan_rounds_claim : PlanRoundsClaim
unfolding plan_of
plan_rounds_claim f k range marks size =
    let n : ℕ = node_count f k in
    let few-rounds : last_round (plan_of f k marks) ≤ length (plan_of f k marks) = omega (arith, rounds_few once once_shrinks f k n 0 marks) in
    record {
      each = λ r l. rw (round_is once once_shrinks f k range n 1 marks size (left_few marks n) r l) (round_claims f k (marks_after marks (before_round r (plan_of f k marks))) r range);
      order = λ r. rounds_order once once_shrinks f k n 1 marks r;
      some = λ r l h. rounds_some once once_shrinks f k n 1 marks (omega arith) r l h;
      few = few-rounds;
      byte = omega (arith, few-rounds, (plan_claim f k range marks size).counts, left_few marks n, few f k range);
      within = λ step h. (from_round_lem once once_shrinks f k n 1 marks step h, rounds_most once once_shrinks f k n 1 marks step h);
    }

-- a node that round 1 repairs has a pair by the count
module _ (f : Family) (k : ℕ) (range : KInRange f k) (marks : List Bool) where
  first_counted : (step : Step) → Memᴰ step (round_steps once f k marks 1) → IsNode f k step.node × (is_live marks step.node ≡ false) × (1 ≤ pair_count f k marks step.node)
  first_counted step h =
      let c = round_claims f k marks 1 range in
      let m = c.missing step h in
      let p = free_pair f k marks _ _ _ _ (c.pair step h) in
      (m.0, m.1, count_some f k marks step.node (smaller_some f k marks step.node range m.0 step.smaller step.larger p.smaller p.larger p.related))

pub first_round_claim : FirstRoundClaim
unfolding plan_of
first_round_claim f k range marks =
    record {
      repaired = λ j h.
          let step = first_steps once once_shrinks f k (node_count f k) 1 marks h.step h.listed h.round in
          rw h.node at (first_counted f k range marks h.step step);
      first = λ j n v c none.
          first_listed once once_shrinks f k (node_count f k) 1 marks _ (omega (arith, n.first, n.last))
          (first_turn f k marks 1 range j n v (some_count f k marks j c) (λ step h l. let q = first_counted f k range marks step h in omega (arith, none step.node q.0 q.1 l, q.2)));
    }

pub reads_claim : ReadsClaim
reads_claim f k range marks counts steps size a =
    record {
      times = λ j. reads_are f k range j counts marks steps size a;
      sum = omega (arith, sum_all (node_count f k) counts (sources_of steps) (omega (arith, size, few f k range)) (sources_inside f k marks steps a), length_sources steps);
      once = λ j. times_few j steps;
    }

pub live_reads_claim : LiveReadsClaim
unfolding times_read
live_reads_claim f k marks step c j gone = simp (ne_eqb j step.smaller (other c.smaller_live), ne_eqb j step.larger (other c.larger_live))
  where
    other : {i : ℕ} → is_live marks i ≡ true → j ≡ i → ⊥
    other live e = not_both (is_live marks j) (rw e live) gone
