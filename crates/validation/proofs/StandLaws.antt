-- What the steps so far have come to: the last round, the marks, and the nodes that may be read; by these a step is good or not.
-- Assumes nothing.
use mathlib.Core.Path.{◌≡◌, refl, sym, ap, ap₂, ◌∙◌}
use mathlib.Core.Bool.{Bool, true, false, cond, not, ◌&&◌}
use mathlib.Core.List.Memᴰ
use mathlib.Core.List.{List, Memᴰ, [], ◌∷◌, ◌++◌, append-nil, get_last_d}
use mathlib.Core.Logic.{◌⊎◌, inl, inr}
use Prim.Native.Nat.{ℕ, ◌≤◌, ◌<◌}
use native.Mathlib.Decide.{ℕ_discrete}
use native.Mathlib.Omega.{arith}
use borrow.Author.Tests.{lt-ltb, le-ltb, eqb-true, eq-eqb, ne_eqb, not-true}
use lib.Dec.{eqb, ltb}
use lib.ListN.{set}
use Rattle.base.proofs.Tests.{and_left, and_right, and_both, same_answer}
use Rattle.families.specs.declared.Family.{Family}
use Rattle.families.specs.Families.{node_count, are_related}
use Rattle.lists.specs.Lists.{some_outside, is_live, set_live}
use Rattle.lists.proofs.MarkLaws.{set_keeps}
use Rattle.planning.specs.Claims.{CanMake, CanMakeAll}
use Rattle.planning.specs.Plan.{Step, once, free_after, times_read, marks_after, steps_with, in_round, before_round, last_round}
use Rattle.planning.proofs.MakeLaws.{Within, once_shrinks}
use Rattle.planning.proofs.RoundLaws.{marks_append}
use Rattle.planning.proofs.PlannedLaws.{last_more}
use Rattle.planning.proofs.FreeLaws.{free_claim, free_append}
use Rattle.planning.proofs.WithLaws.{with_append, with_all, with_none}
use Rattle.validation.specs.Good.{follows, may_serve, is_good, bad_after}
use Rattle.validation.specs.Inner.{good_by, free_in}
use Rattle.validation.proofs.GoodLaws.{Follows, follows_is, numbers, nodes_are, after_good, good_first}

-- ---- what stands before a step

-- the steps so far have come to the last round, the marks, and the nodes that may be read in that round
pub record Stands (marks : List Bool) (earlier : List Step) (last : ℕ) (live free : List Bool) : Type 0 where
  pub last_is : last ≡ last_round earlier
  pub live_is : live ≡ marks_after marks earlier
  pub most : (step : Step) → Memᴰ step earlier → step.round ≤ last
  pub free_is : free ≡ free_after (marks_after marks (before_round last earlier)) (in_round last earlier)
  pub within : Within free live

pub stands_first : (marks : List Bool) → Stands marks [] 0 marks marks
unfolding last_round get_last_d set_live free_after steps_with
stands_first marks = record { last_is = refl; live_is = refl; most = λ step h. absurd (Memᴰ.not-nil h); free_is = refl; within = λ i h. h }

module _ (marks : List Bool) (earlier : List Step) (last : ℕ) (live free : List Bool) (w : Stands marks earlier last live free) where
  -- ---- the nodes that may be read in the round of the next step

  -- before a later round stand all of them, and none is in it
  all_before : (r : ℕ) → last < r → before_round r earlier ≡ earlier
  all_before r h = with_all (λ (s : Step). ltb s.round r) earlier (λ s m. lt-ltb s.round r (omega (arith, w.most s m)))

  none_in : (r : ℕ) → last < r → in_round r earlier ≡ []
  none_in r h = with_none (λ (s : Step). eqb s.round r) earlier (λ s m. ne_eqb s.round r (λ e. omega (arith, w.most s m)))

  -- the nodes that may be read, as the steps have it
  pub free_then : (r : ℕ) → last ≤ r → free_in last r live free ≡ free_after (marks_after marks (before_round r earlier)) (in_round r earlier)
  unfolding free_after
  free_then r h = go (ℕ_discrete r last)
    where
      go : Dec (r ≡ last) → free_in last r live free ≡ free_after (marks_after marks (before_round r earlier)) (in_round r earlier)
      go (yes e) = rw (eq-eqb r last e, e) w.free_is
      go (no n) = rw (ne_eqb r last n, all_before r (omega arith), none_in r (omega arith)) w.live_is

  serve_is : (r : ℕ) → last ≤ r → (i : ℕ) → may_serve marks earlier r i ≡ is_live (free_in last r live free) i
  unfolding may_serve
  serve_is r h i =
      let began = marks_after marks (before_round r earlier) in
      let c = free_claim began (in_round r earlier) i in
      rw (free_then r h)
      (same_answer (is_live began i && eqb (times_read i (in_round r earlier)) 0) (is_live (free_after began (in_round r earlier)) i)
      (λ e. c.1 (and_left (is_live began i) _ e, eqb-true (times_read i (in_round r earlier)) 0 (and_right (is_live began i) _ e)))
      (λ e. and_both (is_live began i) _ (c.0 e).0 (eq-eqb (times_read i (in_round r earlier)) 0 (c.0 e).1)))

  free_live : (r : ℕ) → Within (free_in last r live free) live
  free_live r i h = go (eqb r last) h
    where
      go : (b : Bool) → is_live (cond b free live) i ≡ true → is_live live i ≡ true
      go true v = w.within i v
      go false v = v

  -- ---- the next step

  module _ (f : Family) (k : ℕ) (step : Step) where
    abbrev here : List Bool
    here = free_in last step.round live free

    pub good_by_lem : is_good f k marks earlier step ≡ good_by f k last live here step
    unfolding is_good good_by
    good_by_lem = go (follows last step.round) refl
      where
        go : (b : Bool) → follows last step.round ≡ b → is_good f k marks earlier step ≡ good_by f k last live here step
        go false e = rw (← w.last_is, e)
        go true e =
            let h = (follows_is last step.round e).falls_not in
            rw (← w.last_is, ← w.live_is, serve_is step.round h step.smaller, serve_is step.round h step.larger)

    -- it is a good one
    module _ (e : good_by f k last live here step ≡ true) where
      pub by_follows : Follows last step.round
      unfolding good_by
      by_follows = follows_is last step.round (and_left (follows last step.round) _ e)

      pub by_makes : CanMake f k live step
      unfolding good_by
      by_makes =
          let e1 = and_right (follows last step.round) _ e in
          let outside = some_outside (node_count f k) (numbers f k step) in
          let nodes = nodes_are f k step (not-true outside (and_left (not outside) _ e1)) in
          let e3 = and_right (ltb step.smaller step.larger) _ (and_right (not outside) _ e1) in
          let e4 = and_right (not (is_live live step.node)) _ e3 in
          let related = are_related f k step.smaller step.larger step.node in
          let e5 = and_right related _ e4 in
          record {
            node = nodes.node;
            smaller = nodes.smaller;
            larger = nodes.larger;
            related = and_left related _ e4;
            missing = not-true (is_live live step.node) (and_left (not (is_live live step.node)) _ e3);
            smaller_live = free_live step.round step.smaller (and_left (is_live here step.smaller) _ e5);
            larger_live = free_live step.round step.larger (and_right (is_live here step.smaller) _ e5);
          }

      pub stands_next : Stands marks (earlier ++ step ∷ []) step.round (set live step.node true) (once here step)
      unfolding last_round get_last_d set_live free_after
      stands_next =
          let r = step.round in
          let h = by_follows.falls_not in
          let one : List Step = step ∷ [] in
          record {
            last_is = sym (last_more earlier one r (omega arith) refl);
            live_is = rw w.live_is (sym (marks_append marks earlier one));
            most = λ s m. each s (Memᴰ.append_cases earlier m);
            free_is =
                ap (λ (g : List Bool). once g step) (free_then r h)
                ∙ sym (free_append (marks_after marks (before_round r earlier)) (in_round r earlier) one)
                ∙ ap₂ (λ (b : List Step) (s : List Step). free_after (marks_after marks b) s) (sym not_before) (sym in_it);
            within = λ i v. set_keeps live step.node i (free_live r i (once_shrinks here step i v));
          }
        where
          each : (s : Step) → Memᴰ s earlier ⊎ Memᴰ s (step ∷ []) → s.round ≤ step.round
          each s (inl m) = omega (arith, w.most s m, by_follows.falls_not)
          each s (inr m) = omega (arith, ap (λ (x : Step). x.round) (Memᴰ.eq_of_singleton m))

          not_before : before_round step.round (earlier ++ step ∷ []) ≡ before_round step.round earlier
          not_before =
              with_append (λ (s : Step). ltb s.round step.round) earlier (step ∷ [])
              ∙ ap (λ (t : List Step). before_round step.round earlier ++ t)
              (with_none (λ (s : Step). ltb s.round step.round) (step ∷ []) (λ s m. le-ltb s.round step.round (omega (arith, ap (λ (x : Step). x.round) (Memᴰ.eq_of_singleton m)))))
              ∙ append-nil (before_round step.round earlier)

          in_it : in_round step.round (earlier ++ step ∷ []) ≡ in_round step.round earlier ++ step ∷ []
          in_it =
              with_append (λ (s : Step). eqb s.round step.round) earlier (step ∷ [])
              ∙ ap (λ (t : List Step). in_round step.round earlier ++ t)
              (with_all (λ (s : Step). eqb s.round step.round) (step ∷ []) (λ s m. eq-eqb s.round step.round (ap (λ (x : Step). x.round) (Memᴰ.eq_of_singleton m))))

-- ---- steps that are good by what stands before each

-- one after the other
abbrev pub AllBy : Family → ℕ → ℕ → List Bool → List Bool → List Step → Type 0
AllBy f k last live free [] = Unit {0}
AllBy f k last live free (x ∷ steps) =
    (good_by f k last live (free_in last x.round live free) x ≡ true) × AllBy f k x.round (set live x.node true) (once (free_in last x.round live free) x) steps

module _ (f : Family) (k : ℕ) (marks : List Bool) where
  -- these are the steps without a bad one
  pub by_none : (steps earlier : List Step) (last : ℕ) (live free : List Bool) → Stands marks earlier last live free → bad_after f k marks earlier steps ≡ 0 → AllBy f k last live free steps
  by_none [] earlier last live free w e = tt
  by_none (x ∷ steps) earlier last live free w e =
      let g = good_first f k marks earlier x steps e in
      let b = sym (good_by_lem marks earlier last live free w f k x) ∙ g.first in
      (b, by_none steps (earlier ++ x ∷ []) x.round _ _ (stands_next marks earlier last live free w f k x b) g.rest)

  pub none_by : (steps earlier : List Step) (last : ℕ) (live free : List Bool) → Stands marks earlier last live free → AllBy f k last live free steps → bad_after f k marks earlier steps ≡ 0
  unfolding bad_after
  none_by [] earlier last live free w a = refl
  none_by (x ∷ steps) earlier last live free w a =
      after_good f k marks earlier x steps (good_by_lem marks earlier last live free w f k x ∙ a.0)
      ∙ none_by steps (earlier ++ x ∷ []) x.round _ _ (stands_next marks earlier last live free w f k x a.0) a.1

  -- they can be made
  pub by_make : (steps earlier : List Step) (last : ℕ) (live free : List Bool) → Stands marks earlier last live free → AllBy f k last live free steps → CanMakeAll f k live steps
  by_make [] earlier last live free w a = tt
  by_make (x ∷ steps) earlier last live free w a =
      (by_makes marks earlier last live free w f k x a.0, by_make steps (earlier ++ x ∷ []) x.round _ _ (stands_next marks earlier last live free w f k x a.0) a.1)
