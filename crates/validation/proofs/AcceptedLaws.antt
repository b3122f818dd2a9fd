-- A plan without a bad step: its rounds, what they read, and that it is bad from its first step once it is made.
-- Assumes nothing.
use mathlib.Core.Path.{◌≡◌, refl, sym, ap, ◌∙◌, subst}
use mathlib.Core.Bool.{Bool, true, false, cond}
use mathlib.Core.List.Memᴰ
use mathlib.Core.List.{List, Memᴰ, [], ◌∷◌, ◌++◌, append_assoc, append-nil, get_last_d}
use mathlib.Core.Logic.{◌⊎◌, inl, inr}
use Prim.Native.Nat.{ℕ, ◌+◌, ◌≤◌, ◌<◌}
use native.Mathlib.Decide.{ℕ_discrete, dec_lt}
use native.Mathlib.Nat.{eq-zero-or-pos}
use native.Mathlib.Omega.{arith}
use borrow.Author.Tests.{lt-ltb, le-ltb, le-leb, lt-leb, eqb-true, eq-eqb, ne_eqb}
use lib.Dec.{eqb, leb, ltb}
use lib.ListN.{length}
use Rattle.base.proofs.Tests.{is_false, not_both}
use Rattle.families.specs.declared.Family.{Family}
use Rattle.families.specs.Families.{KInRange}
use Rattle.families.proofs.Laws.{few}
use Rattle.lists.specs.Lists.{is_live, set_live}
use Rattle.lists.proofs.MarkLaws.{live_keeps, live_listed_lem}
use Rattle.planning.specs.Claims.{CanMakeAll}
use Rattle.planning.specs.Plan.{Step, repaired_nodes, times_read, marks_after, steps_with, in_round, before_round, from_round, last_round}
use Rattle.planning.proofs.RoundLaws.{marks_append}
use Rattle.planning.proofs.SourceLaws.{times_few}
use Rattle.planning.proofs.FreeLaws.{unread_zero}
use Rattle.planning.proofs.WithLaws.{with_append, with_all, with_none}
use Rattle.validation.specs.Good.{is_good, bad_after, first_bad, accepted_steps}
use Rattle.validation.specs.Claims.{Good, AllGood}
use Rattle.validation.proofs.GoodLaws.{good_is, after_bad, good_first}
use Rattle.validation.proofs.StandLaws.{Stands, stands_first, by_follows, stands_next, AllBy, by_none, by_make}

-- ---- rounds

module _ (f : Family) (k : ℕ) (marks : List Bool) where
  -- no step is of an earlier round than the last so far
  at_least : (steps earlier : List Step) (last : ℕ) (live free : List Bool) → Stands marks earlier last live free → AllBy f k last live free steps
      → (step : Step) → Memᴰ step steps → last ≤ step.round
  at_least [] earlier last live free w a step m = absurd (Memᴰ.not-nil m)
  at_least (x ∷ steps) earlier last live free w a step m = go m (at_least steps (earlier ++ x ∷ []) x.round _ _ (stands_next marks earlier last live free w f k x a.0) a.1 step)
    where
      here : last ≤ x.round
      here = (by_follows marks earlier last live free w f k x a.0).falls_not

      go : Memᴰ step (x ∷ steps) → (Memᴰ step steps → x.round ≤ step.round) → last ≤ step.round
      go (Memᴰ.head e) later = omega (arith, here, ap (λ (s : Step). s.round) e)
      go (Memᴰ.tail t) later = omega (arith, here, later t)

  pub by_order : (steps earlier : List Step) (last : ℕ) (live free : List Bool) → Stands marks earlier last live free → AllBy f k last live free steps
      → (r : ℕ) → steps ≡ before_round r steps ++ from_round r steps
  unfolding steps_with
  by_order [] earlier last live free w a r = refl
  by_order (x ∷ steps) earlier last live free w a r =
      let next = stands_next marks earlier last live free w f k x a.0 in
      go (dec_lt x.round r) (at_least steps (earlier ++ x ∷ []) x.round _ _ next a.1) (by_order steps (earlier ++ x ∷ []) x.round _ _ next a.1 r)
    where
      go : Dec (x.round < r) → ((s : Step) → Memᴰ s steps → x.round ≤ s.round) → steps ≡ before_round r steps ++ from_round r steps
          → (x ∷ steps) ≡ before_round r (x ∷ steps) ++ from_round r (x ∷ steps)
      go (yes h) above later = rw (lt-ltb x.round r h, lt-leb r x.round h) (ap (λ (l : List Step). x ∷ l) later)
      go (no h) above later =
          rw (
            le-ltb x.round r (omega arith),
            le-leb r x.round (omega arith),
            with_none (λ (s : Step). ltb s.round r) steps (λ s m. le-ltb s.round r (omega (arith, above s m))),
            with_all (λ (s : Step). leb r s.round) steps (λ s m. le-leb r s.round (omega (arith, above s m))),
          ) refl

  pub by_some : (steps earlier : List Step) (last : ℕ) (live free : List Bool) → Stands marks earlier last live free → AllBy f k last live free steps
      → (r : ℕ) → last < r → r ≤ last_round steps → 1 ≤ length (in_round r steps)
  unfolding steps_with last_round get_last_d
  by_some [] earlier last live free w a r l h = absurd (omega arith)
  by_some (x ∷ []) earlier last live free w a r l h =
      let e : x.round ≡ r = omega (arith, (by_follows marks earlier last live free w f k x a.0).rises) in
      rw (eq-eqb x.round r e) (omega arith)
  by_some (x ∷ y ∷ steps) earlier last live free w a r l h =
      go (ℕ_discrete x.round r) (λ g. by_some (y ∷ steps) (earlier ++ x ∷ []) x.round _ _ (stands_next marks earlier last live free w f k x a.0) a.1 r g h)
    where
      go : Dec (x.round ≡ r) → (x.round < r → 1 ≤ length (in_round r (y ∷ steps))) → 1 ≤ length (in_round r (x ∷ y ∷ steps))
      go (yes e) later = rw (eq-eqb x.round r e) (omega arith)
      go (no n) later = rw (ne_eqb x.round r n) (later (omega (arith, (by_follows marks earlier last live free w f k x a.0).rises)))

-- ---- what a round reads

-- a step that reads a number has it in its pair
read_pair : (step : Step) (i : ℕ) → 1 ≤ times_read i (step ∷ []) → (i ≡ step.smaller) ⊎ (i ≡ step.larger)
unfolding times_read
read_pair step i h = go (ℕ_discrete i step.smaller) (ℕ_discrete i step.larger)
  where
    go : Dec (i ≡ step.smaller) → Dec (i ≡ step.larger) → (i ≡ step.smaller) ⊎ (i ≡ step.larger)
    go (yes e) d = inl e
    go (no n) (yes e) = inr e
    go (no n) (no m) = absurd (omega (arith, rw (unread_zero [] step i (record { smaller = n; larger = m })) at h))

-- the place of a step in a list
record Place (step : Step) (steps : List Step) : Type 0 where
  earlier : List Step
  later : List Step
  is : steps ≡ earlier ++ step ∷ later

place : (step : Step) (steps : List Step) → Memᴰ step steps → Place step steps
place step [] m = absurd (Memᴰ.not-nil m)
place step (x ∷ steps) (Memᴰ.head e) = record { earlier = []; later = steps; is = ap (λ (s : Step). s ∷ steps) (sym e) }
place step (x ∷ steps) (Memᴰ.tail m) = let p = place step steps m in record { earlier = x ∷ p.earlier; later = p.later; is = ap (λ (l : List Step). x ∷ l) p.is }

times_append : (i : ℕ) (s t : List Step) → times_read i (s ++ t) ≡ times_read i s + times_read i t
unfolding times_read
times_append i [] t = omega arith
times_append i (x ∷ s) t = omega (arith, times_append i s t)

module _ (f : Family) (k : ℕ) (marks : List Bool) where
  -- a pair's node was live when the round began
  pub read_live : (plan : List Step) → AllGood f k marks plan → (step : Step) → Memᴰ step plan → (i : ℕ) → 1 ≤ times_read i (step ∷ [])
      → is_live (marks_after marks (before_round step.round plan)) i ≡ true
  read_live plan good step m i h =
      let p = place step plan m in
      let g = good p.earlier step p.later p.is in
      let r = step.round in
      let split : before_round r plan ≡ before_round r p.earlier ++ before_round r (step ∷ p.later) = ap (before_round r) p.is ∙ with_append (λ (s : Step). ltb s.round r) p.earlier (step ∷ p.later) in
      rw (split, marks_append marks (before_round r p.earlier) (before_round r (step ∷ p.later)))
      (live_keeps (marks_after marks (before_round r p.earlier)) (repaired_nodes (before_round r (step ∷ p.later))) i (pick g (read_pair step i h)))
    where
      pick : {earlier : List Step} → Good f k marks earlier step → (i ≡ step.smaller) ⊎ (i ≡ step.larger) → is_live (marks_after marks (before_round step.round earlier)) i ≡ true
      pick g (inl e) = rw e g.smaller_live
      pick g (inr e) = rw e g.larger_live

  -- no node is read twice in a round
  pub read_once : (r i : ℕ) (steps earlier : List Step) → bad_after f k marks earlier steps ≡ 0 → times_read i (in_round r earlier) ≤ 1 → times_read i (in_round r (earlier ++ steps)) ≤ 1
  unfolding times_read
  read_once r i [] earlier e h = rw (append-nil earlier) h
  read_once r i (x ∷ steps) earlier e h =
      let g = good_first f k marks earlier x steps e in
      subst (λ (l : List Step). times_read i (in_round r l) ≤ 1) (append_assoc earlier (x ∷ []) steps) (read_once r i steps (earlier ++ x ∷ []) g.rest (more (good_is f k marks earlier x g.first)))
    where
      more : Good f k marks earlier x → times_read i (in_round r (earlier ++ x ∷ [])) ≤ 1
      more g = rw (with_append (λ (s : Step). eqb s.round r) earlier (x ∷ []), times_append i (in_round r earlier) (in_round r (x ∷ []))) (go (ℕ_discrete x.round r) (eq-zero-or-pos (times_read i (x ∷ []))))
        where
          unread : x.round ≡ r → (i ≡ x.smaller) ⊎ (i ≡ x.larger) → times_read i (in_round r earlier) ≡ 0
          unread q (inl s) = rw (← q, s) g.smaller_unread
          unread q (inr s) = rw (← q, s) g.larger_unread

          go : Dec (x.round ≡ r) → (times_read i (x ∷ []) ≡ 0) ⊎ (0 < times_read i (x ∷ [])) → times_read i (in_round r earlier) + times_read i (in_round r (x ∷ [])) ≤ 1
          go (no n) z = rw (with_none (λ (s : Step). eqb s.round r) (x ∷ []) (λ s m. ne_eqb s.round r (λ q. n (ap (λ (y : Step). y.round) (sym (Memᴰ.eq_of_singleton m)) ∙ q)))) (omega arith)
          go (yes q) z = rw (with_all (λ (s : Step). eqb s.round r) (x ∷ []) (λ s m. eq-eqb s.round r (ap (λ (y : Step). y.round) (Memᴰ.eq_of_singleton m) ∙ q))) (pick z)
            where
              pick : (times_read i (x ∷ []) ≡ 0) ⊎ (0 < times_read i (x ∷ [])) → times_read i (in_round r earlier) + times_read i (x ∷ []) ≤ 1
              pick (inl v) = omega arith
              pick (inr v) = omega (arith, unread q (read_pair x i v), times_few i (x ∷ []))

  -- ---- the steps that a plan comes to

  pub accepted_are : (plan : List Step) → first_bad f k marks plan ≡ 0 → accepted_steps f k marks plan ≡ plan
  unfolding accepted_steps
  accepted_are plan e = rw e

  pub accepted_none : (plan : List Step) → (first_bad f k marks plan ≡ 0 → ⊥) → accepted_steps f k marks plan ≡ []
  unfolding accepted_steps
  accepted_none plan n = rw (ne_eqb (first_bad f k marks plan) 0 n)

  -- they can be made
  pub accepted_make : (plan : List Step) → CanMakeAll f k marks (accepted_steps f k marks plan)
  unfolding accepted_steps
  accepted_make plan = go (eqb (first_bad f k marks plan) 0) refl
    where
      go : (b : Bool) → eqb (first_bad f k marks plan) 0 ≡ b → CanMakeAll f k marks (cond b plan [])
      go true e = let w = stands_first marks in by_make f k marks plan [] 0 marks marks w (by_none f k marks plan [] 0 marks marks w (eqb-true (first_bad f k marks plan) 0 e))
      go false e = tt

  -- ---- made again

  pub again : KInRange f k → length marks ≡ 256 → (step : Step) (later : List Step) → first_bad f k marks (step ∷ later) ≡ 0 → first_bad f k (marks_after marks (step ∷ later)) (step ∷ later) ≡ 1
  unfolding set_live
  again range size step later e = after_bad f k made [] step later (is_false (is_good f k made [] step) (λ g. not_both (is_live made step.node) now (good_is f k made [] step g).missing))
    where
      made : List Bool
      made = marks_after marks (step ∷ later)

      was : Good f k marks [] step
      was = good_is f k marks [] step (good_first f k marks [] step later e).first

      now : is_live made step.node ≡ true
      now = live_listed_lem {j = step.node} {list = repaired_nodes (step ∷ later)} marks (omega (arith, was.node.last, few f k range, size)) (Memᴰ.head refl)
