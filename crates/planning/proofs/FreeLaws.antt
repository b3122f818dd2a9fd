-- The nodes that may still be read in a round: those live when it began that no step reads; and so none is read twice.
-- Assumes nothing.
use mathlib.Core.Path.{◌≡◌, refl, sym, ap, ◌∙◌}
use mathlib.Core.Bool.{Bool, true, false, cond, ◌||◌, or-true, true≢false, false≢true}
use mathlib.Core.List.{List, [], ◌∷◌, ◌++◌}
use mathlib.Core.Logic.{◌⊎◌, inl, inr, ◌↔◌}
use Prim.Native.Nat.{ℕ, ◌+◌, ◌≤◌, ◌<◌}
use native.Mathlib.Decide.{ℕ_discrete}
use native.Mathlib.Nat.{eq-zero-or-pos}
use native.Mathlib.Omega.{arith}
use borrow.Author.Tests.{eq-eqb, ne_eqb}
use lib.Dec.{eqb}
use lib.ListN.{set}
use lib.Seq.{get_or-set_other}
use Rattle.base.proofs.Tests.{is_false}
use Rattle.families.specs.declared.Family.{Family}
use Rattle.families.specs.Families.{KInRange}
use Rattle.lists.specs.Lists.{is_live}
use Rattle.lists.proofs.WithoutLaws.{unset_live}
use Rattle.pairing.specs.declared.Pairs.{Pairs}
use Rattle.pairing.specs.Pairs.{smaller_node}
use Rattle.pairing.specs.Claims.{IsPair}
use Rattle.pairing.proofs.PairLaws.{pair_of, pairs_are}
use Rattle.planning.specs.Claims.{FreeClaim}
use Rattle.planning.specs.Plan.{Step, step_of, once, steps_for, free_after, times_read}
use Rattle.planning.proofs.MakeLaws.{turn_waits, turn_repairs, once_shrinks}

-- ---- one step

module _ (free : List Bool) (step : Step) (i : ℕ) where
  -- the step does not read node i
  pub record Unread : Type 0 where
    pub smaller : i ≡ step.smaller → ⊥
    pub larger : i ≡ step.larger → ⊥

  pub once_unread : is_live (once free step) i ≡ true → Unread
  unfolding once
  once_unread h =
      let l = unset_live (set free step.smaller false) step.larger i h in
      record { smaller = (unset_live free step.smaller i l.1).0; larger = l.0 }

  pub unread_once : Unread → is_live (once free step) i ≡ is_live free i
  unfolding once
  unread_once u = get_or-set_other (set free step.smaller false) step.larger i false false u.larger ∙ get_or-set_other free step.smaller i false false u.smaller

  -- as it is counted
  abbrev reads : Bool
  reads = eqb i step.smaller || eqb i step.larger

  pub unread_zero : Unread → reads ≡ false
  unread_zero u = simp (ne_eqb i step.smaller u.smaller, ne_eqb i step.larger u.larger)

  pub zero_unread : reads ≡ false → Unread
  zero_unread e =
      record {
        smaller = λ q. absurd (true≢false (rw (eq-eqb i step.smaller q) at e));
        larger = λ q. absurd (true≢false (rw (eq-eqb i step.larger q, or-true (eqb i step.smaller)) at e));
      }

-- ---- steps of a round

pub free_append : (marks : List Bool) (s t : List Step) → free_after marks (s ++ t) ≡ free_after (free_after marks s) t
unfolding free_after
free_append marks [] t = refl
free_append marks (x ∷ s) t = free_append (once marks x) s t

-- a node may be read after a step and others exactly where it may be after the others, and the step does not read it
module _ (marks : List Bool) (step : Step) (i times : ℕ) (live : Bool) (later : (live ≡ true) ↔ ((is_live (once marks step) i ≡ true) × (times ≡ 0))) where
  step_to : live ≡ true → (is_live marks i ≡ true) × (cond (reads marks step i) 1 0 + times ≡ 0)
  step_to h =
      let q = later.0 h in
      (once_shrinks marks step i q.0, rw (unread_zero marks step i (once_unread marks step i q.0)) (omega (arith, q.1)))

  step_from : (is_live marks i ≡ true) × (cond (reads marks step i) 1 0 + times ≡ 0) → live ≡ true
  step_from q = go (reads marks step i) refl q.1
    where
      go : (b : Bool) → reads marks step i ≡ b → cond b 1 0 + times ≡ 0 → live ≡ true
      go true e z = absurd (omega arith)
      go false e z = later.1 (unread_once marks step i (zero_unread marks step i e) ∙ q.0, omega arith)

pub free_claim : FreeClaim
unfolding free_after times_read
free_claim marks [] i = ((λ h. (h, refl)), (λ h. h.0))
free_claim marks (step ∷ steps) i =
    let later = free_claim (once marks step) steps i in
    ((λ h. step_to marks step i (times_read i steps) _ later h), (λ h. step_from marks step i (times_read i steps) _ later h))

free_within : (marks : List Bool) (steps : List Step) (i : ℕ) → is_live (free_after marks steps) i ≡ true → is_live marks i ≡ true
free_within marks steps i h = ((free_claim marks steps i).0 h).0

-- so that a pair that may be read is a pair
pub free_pair : (f : Family) (k : ℕ) (marks : List Bool) (steps : List Step) (j a b : ℕ) → IsPair f k (free_after marks steps) j a b → IsPair f k marks j a b
free_pair f k marks steps j a b p =
    record {
      order = p.order;
      smaller = record { node = p.smaller.node; live = free_within marks steps a p.smaller.live };
      larger = record { node = p.larger.node; live = free_within marks steps b p.larger.live };
      related = p.related;
    }

-- ---- no node is read twice

module _ (f : Family) (k : ℕ) (range : KInRange f k) (marks : List Bool) (r i : ℕ) where
  -- a node that may be read is read once at most, and any other one never
  pub read_few : (free : List Bool) (nodes : List ℕ) → times_read i (steps_for once f k marks r free nodes) ≤ cond (is_live free i) 1 0
  unfolding steps_for times_read
  read_few free [] = omega arith
  read_few free (j ∷ nodes) = go (eq-zero-or-pos (smaller_node f k free j)) (λ rest. read_few rest nodes)
    where
      step : Step
      step = step_of f k marks free r j

      go : (smaller_node f k free j ≡ 0) ⊎ (0 < smaller_node f k free j) → ((rest : List Bool) → times_read i (steps_for once f k marks r rest nodes) ≤ cond (is_live rest i) 1 0)
          → times_read i (steps_for once f k marks r free (j ∷ nodes)) ≤ cond (is_live free i) 1 0
      go (inl z) later = rw (turn_waits f k marks free j once r nodes z) (later free)
      go (inr h) later = rw (turn_repairs f k marks free j once r nodes h) (pick (reads free step i) refl (later (once free step)))
        where
          -- the pair may be read
          was_free : reads free step i ≡ true → is_live free i ≡ true
          was_free e = ask (ℕ_discrete i step.smaller) (ℕ_discrete i step.larger)
            where
              ask : Dec (i ≡ step.smaller) → Dec (i ≡ step.larger) → is_live free i ≡ true
              ask (yes q) d = let p = pair_of f k range free j h in rw (q ∙ ap (λ (p : Pairs). p.smaller) (pairs_are f k range free j marks h)) p.smaller_live
              ask (no n) (yes q) = let p = pair_of f k range free j h in rw (q ∙ ap (λ (p : Pairs). p.larger) (pairs_are f k range free j marks h)) p.larger_live
              ask (no n) (no m) = absurd (false≢true (sym (unread_zero free step i (record { smaller = n; larger = m })) ∙ e))

          pick : (b : Bool) → reads free step i ≡ b → times_read i (steps_for once f k marks r (once free step) nodes) ≤ cond (is_live (once free step) i) 1 0
              → cond b 1 0 + times_read i (steps_for once f k marks r (once free step) nodes) ≤ cond (is_live free i) 1 0
          pick true e l =
              let gone : is_live (once free step) i ≡ false = is_false (is_live (once free step) i) (λ v. true≢false (sym e ∙ unread_zero free step i (once_unread free step i v))) in
              rw (was_free e) (omega (arith, rw gone at l))
          pick false e l = omega (arith, rw (unread_once free step i (zero_unread free step i e)) at l)
