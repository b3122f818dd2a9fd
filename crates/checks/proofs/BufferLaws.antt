-- 6 for one of two buffers that is not of exact length, after 1, 2 and 3: what is given, check by check.
-- Assumes nothing.
use mathlib.Core.Path.{◌≡◌, refl, ◌∙◌}
use mathlib.Core.Bool.{not, ◌&&◌}
use mathlib.Core.List.{List, [], ◌∷◌, ◌++◌}
use Prim.Native.Nat.{ℕ}
use borrow.Author.Tests.{eq-eqb, ne_eqb, eqb-true, not-false}
use lib.Dec.{eqb}
use Rattle.base.proofs.Tests.{and_left, and_right}
use Rattle.checks.specs.Checks.{Check, ◌gives◌, first_met}
use Rattle.checks.specs.Parameters.{parameter_checks}
use Rattle.checks.specs.Claims.{InRange}
use Rattle.checks.proofs.Laws.{accepted, range_of, parameters_none, none_append, some_append}

-- one buffer has `a` bytes and is to have `x`, and another has `b` and is to have `y`
module _ (family k L a x b y : ℕ) where
  abbrev pub buffer_checks : List Check
  buffer_checks = parameter_checks family k L ++ ((not (eqb a x && eqb b y) gives 6) ∷ [])

  pub by_parameters : (first_met (parameter_checks family k L) ≡ 0 → ⊥) → first_met buffer_checks ≡ first_met (parameter_checks family k L)
  by_parameters h = some_append (parameter_checks family k L) _ h

  module _ (e : first_met (parameter_checks family k L) ≡ 0) where
    pub by_first : (a ≡ x → ⊥) → first_met buffer_checks ≡ 6
    unfolding first_met
    by_first h = none_append (parameter_checks family k L) _ (parameters_none family k L e) ∙ simp (ne_eqb a x h)

    pub by_second : a ≡ x → (b ≡ y → ⊥) → first_met buffer_checks ≡ 6
    unfolding first_met
    by_second h g = none_append (parameter_checks family k L) _ (parameters_none family k L e) ∙ simp (eq-eqb a x h, ne_eqb b y g)

    pub by_none : a ≡ x → b ≡ y → first_met buffer_checks ≡ 0
    unfolding first_met
    by_none h g = none_append (parameter_checks family k L) _ (parameters_none family k L e) ∙ simp (eq-eqb a x h, eq-eqb b y g)

  -- what an accepted call has been given
  pub record Sized : Type 0 where
    pub range : InRange family k L
    pub first : a ≡ x
    pub second : b ≡ y

  pub sized : first_met buffer_checks ≡ 0 → Sized
  unfolding parameter_checks
  sized e =
      let n = accepted buffer_checks refl e in
      let s = not-false _ n.1.1.1.0 in
      record { range = range_of family k L (n.0, (n.1.0, (n.1.1.0, tt))); first = eqb-true _ _ (and_left (eqb a x) (eqb b y) s); second = eqb-true _ _ (and_right (eqb a x) (eqb b y) s) }
