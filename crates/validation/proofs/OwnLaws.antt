-- Our own plan: each of its steps is good by what stands before it.
-- Assumes nothing.
use mathlib.Core.Path.{◌≡◌, refl, sym, ap, ◌∙◌}
use mathlib.Core.Bool.{Bool, true, false, not}
use mathlib.Core.List.Memᴰ
use mathlib.Core.List.{List, [], ◌∷◌, ◌++◌}
use mathlib.Core.Logic.{◌⊎◌, inl, inr}
use Prim.Native.Nat.{ℕ, zero, suc, ◌≤◌, ◌<◌}
use native.Mathlib.Nat.{eq-zero-or-pos}
use native.Mathlib.Omega.{arith}
use borrow.Author.Tests.{lt-ltb, eq-eqb, ne_eqb}
use lib.Dec.{eqb, ltb}
use lib.ListN.{length, set}
use Rattle.base.proofs.Tests.{and_right, and_both}
use Rattle.families.specs.declared.Family.{Family}
use Rattle.families.specs.Families.{KInRange, node_count, are_related}
use Rattle.lists.specs.Lists.{some_outside, is_live, set_live, missing_nodes}
use Rattle.pairing.specs.Pairs.{smaller_node}
use Rattle.pairing.proofs.PairLaws.{PairOf, pair_of, pairs_are}
use Rattle.planning.specs.Claims.{CanMake, CanMakeAll}
use Rattle.planning.specs.Plan.{Step, step_of, once, steps_for, round_steps, marks_after, rounds_from, plan_of}
use Rattle.planning.proofs.MakeLaws.{turn_waits, turn_repairs, each_step, once_shrinks, round_makes}
use Rattle.planning.proofs.PlanLaws.{none_or_some, after_round, rounds_end}
use Rattle.validation.specs.Good.{follows, first_bad}
use Rattle.validation.specs.Inner.{good_by}
use Rattle.validation.proofs.GoodLaws.{is_follows, numbers, are_nodes}
use Rattle.validation.proofs.StandLaws.{AllBy, stands_first, none_by}

-- a step is good where its round follows, it can be made, and its pair may be read, the smaller before the larger
module _ (f : Family) (k last : ℕ) (live free : List Bool) (step : Step) where
  by_parts : follows last step.round ≡ true → CanMake f k live step → step.smaller < step.larger → is_live free step.smaller ≡ true → is_live free step.larger ≡ true
      → good_by f k last live free step ≡ true
  unfolding good_by
  by_parts e m o s l =
      and_both (follows last step.round) _ e
      (and_both (not (some_outside (node_count f k) (numbers f k step))) _ (ap not (are_nodes f k step (record { node = m.node; smaller = m.smaller; larger = m.larger })))
      (and_both (ltb step.smaller step.larger) _ (lt-ltb step.smaller step.larger o)
      (and_both (not (is_live live step.node)) _ (ap not m.missing)
      (and_both (are_related f k step.smaller step.larger step.node) _ m.related
      (and_both (is_live free step.smaller) _ s l)))))

  -- whatever round stands before it, if its own follows
  by_round : (other : ℕ) → follows other step.round ≡ true → good_by f k last live free step ≡ true → good_by f k other live free step ≡ true
  unfolding good_by
  by_round other e g = and_both (follows other step.round) _ e (and_right (follows last step.round) _ g)

same_follows : (r : ℕ) → 1 ≤ r → follows r r ≡ true
same_follows r h = is_follows r r (record { begins = h; falls_not = omega arith; rises = omega arith })

next_follows : (last : ℕ) → follows last (suc last) ≡ true
next_follows last = is_follows last (suc last) (record { begins = omega arith; falls_not = omega arith; rises = omega arith })

module _ (f : Family) (k : ℕ) (range : KInRange f k) where
  -- the steps of a round, and then others of later rounds
  round_good : (began : List Bool) (r : ℕ) → 1 ≤ r → (rest : List Step) (nodes : List ℕ) (live free : List Bool) → CanMakeAll f k live (steps_for once f k began r free nodes)
      → ((left : List Bool) → AllBy f k r (marks_after live (steps_for once f k began r free nodes)) left rest) → AllBy f k r live free (steps_for once f k began r free nodes ++ rest)
  unfolding steps_for set_live
  round_good began r l rest [] live free a others = others free
  round_good began r l rest (j ∷ nodes) live free a others = go (eq-zero-or-pos (smaller_node f k free j)) (λ now left. round_good began r l rest nodes now left)
    where
      step : Step
      step = step_of f k began free r j

      go : (smaller_node f k free j ≡ 0) ⊎ (0 < smaller_node f k free j)
          → ((now left : List Bool) → CanMakeAll f k now (steps_for once f k began r left nodes)
          → ((more : List Bool) → AllBy f k r (marks_after now (steps_for once f k began r left nodes)) more rest) → AllBy f k r now left (steps_for once f k began r left nodes ++ rest))
          → AllBy f k r live free (steps_for once f k began r free (j ∷ nodes) ++ rest)
      go (inl z) next =
          let e = turn_waits f k began free j once r nodes z in
          rw e (next live free (rw e at a) (rw e at others))
      go (inr h) next =
          let e = turn_repairs f k began free j once r nodes h in
          let c = rw e at a in
          let p : PairOf f k range free j = pair_of f k range free j h in
          let are = pairs_are f k range free j began h in
          let good : good_by f k r live free step ≡ true = by_parts f k r live free step (same_follows r l) c.0 (rw are p.order) (rw are p.smaller_live) (rw are p.larger_live) in
          rw (e, eq-eqb r r refl) (good, next (set live j true) (once free step) c.1 (rw e at others))

  -- a round begins: what may be read does not depend on the round before
  enter : (last : ℕ) (live free : List Bool) (steps : List Step) → ((x : Step) (t : List Step) → steps ≡ x ∷ t → x.round ≡ suc last) → AllBy f k (suc last) live live steps → AllBy f k last live free steps
  enter last live free [] h a = tt
  enter last live free (x ∷ t) h a =
      let e : x.round ≡ suc last = h x t refl in
      let same : eqb x.round (suc last) ≡ true = eq-eqb x.round (suc last) e in
      let other : eqb x.round last ≡ false = ne_eqb x.round last (λ q. omega arith) in
      let b = rw same at a in
      rw other (by_round f k (suc last) live live x last (rw e (next_follows last)) b.0, b.1)

  rounds_good : (m last : ℕ) (marks free : List Bool) → AllBy f k last marks free (rounds_from once f k (suc last) marks m)
  unfolding rounds_from
  rounds_good zero last marks free = tt
  rounds_good (suc m) last marks free = go (none_or_some (round_steps once f k marks (suc last))) (λ left. rounds_good m (suc last) (after_round once once_shrinks f k marks (suc last)) left)
    where
      rest : List Step
      rest = rounds_from once f k (suc (suc last)) (after_round once once_shrinks f k marks (suc last)) m

      go : (round_steps once f k marks (suc last) ≡ []) ⊎ (1 ≤ length (round_steps once f k marks (suc last)))
          → ((left : List Bool) → AllBy f k (suc last) (after_round once once_shrinks f k marks (suc last)) left rest) → AllBy f k last marks free (rounds_from once f k (suc last) marks (suc m))
      go (inl e) next = rw (rounds_end once once_shrinks f k marks (suc last) (suc m) e) tt
      go (inr h) next =
          enter last marks free (round_steps once f k marks (suc last) ++ rest) (λ x t is. of_round (round_steps once f k marks (suc last)) h refl x t is)
          (round_good marks (suc last) (omega arith) rest (missing_nodes marks (node_count f k)) marks marks (round_makes once once_shrinks f k range marks (suc last)) next)
        where
          of_round : (s : List Step) → 1 ≤ length s → round_steps once f k marks (suc last) ≡ s → (x : Step) (t : List Step) → s ++ rest ≡ x ∷ t → x.round ≡ suc last
          of_round [] l q x t is = absurd (omega arith)
          of_round (y ∷ s) l q x t is =
              let first : y.round ≡ suc last = (each_step once f k marks (suc last) marks (missing_nodes marks (node_count f k)) y (rw q (Memᴰ.head refl))).0 in
              sym (ap (λ (steps : List Step). round_of steps) is) ∙ first
            where
              round_of : List Step → ℕ
              round_of [] = 0
              round_of (z ∷ l) = z.round

  pub own_good : (marks : List Bool) → first_bad f k marks (plan_of f k marks) ≡ 0
  unfolding plan_of
  own_good marks = none_by f k marks (plan_of f k marks) [] 0 marks marks (stands_first marks) (rounds_good (node_count f k) 0 marks marks)
