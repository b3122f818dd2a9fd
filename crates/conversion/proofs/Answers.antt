-- The checks of a conversion, one after the other.
-- Assumes nothing.
use mathlib.Core.Path.{◌≡◌, refl, ◌∙◌}
use mathlib.Core.List.{List}
use Prim.Native.Nat.{ℕ, ◌≤◌, ◌<◌}
use borrow.Author.Tests.{lt-ltb, le-ltb, ltb-false, eq-eqb, ne_eqb, eqb-true, not-false}
use lib.ListN.{length}
use Rattle.checks.specs.Checks.{first_met}
use Rattle.checks.specs.Claims.{NoneMet}
use Rattle.checks.specs.Parameters.{parameter_checks}
use Rattle.checks.proofs.Laws.{accepted, none_zero, none_left, none_right, none_append, some_append}
use Rattle.boxes.specs.Box.{family_in, box_checks}
use Rattle.boxes.proofs.Answers.{box_none}
use Rattle.conversion.specs.Converted.{conversion_checks}

module _ (bytes : List ℕ) (room : ℕ) where
  pub by_box : (first_met (box_checks bytes) ≡ 0 → ⊥) → first_met (conversion_checks bytes room) ≡ first_met (box_checks bytes)
  unfolding conversion_checks
  by_box n = some_append (box_checks bytes) _ n

  module _ (e : first_met (box_checks bytes) ≡ 0) where
    pub by_family : (family_in bytes ≡ 1 → ⊥) → first_met (conversion_checks bytes room) ≡ 1
    unfolding conversion_checks first_met
    by_family n = none_append (box_checks bytes) _ (box_none bytes e) ∙ rw (ne_eqb (family_in bytes) 1 n)

    pub by_room : family_in bytes ≡ 1 → room < length bytes → first_met (conversion_checks bytes room) ≡ 6
    unfolding conversion_checks first_met
    by_room f h = none_append (box_checks bytes) _ (box_none bytes e) ∙ rw (eq-eqb (family_in bytes) 1 f, lt-ltb room (length bytes) h)

    pub by_none : family_in bytes ≡ 1 → length bytes ≤ room → first_met (conversion_checks bytes room) ≡ 0
    unfolding conversion_checks first_met
    by_none f h = none_append (box_checks bytes) _ (box_none bytes e) ∙ rw (eq-eqb (family_in bytes) 1 f, le-ltb room (length bytes) h)

  -- a conversion that is accepted
  pub record AcceptedConversion : Type 0 where
    pub accepted_box : first_met (box_checks bytes) ≡ 0
    pub simplex : family_in bytes ≡ 1
    pub fits : length bytes ≤ room

  conversion_none : first_met (conversion_checks bytes room) ≡ 0 → NoneMet (conversion_checks bytes room)
  unfolding conversion_checks box_checks parameter_checks
  conversion_none e = accepted (conversion_checks bytes room) refl e

  pub accepted_conversion : first_met (conversion_checks bytes room) ≡ 0 → AcceptedConversion
  unfolding conversion_checks
  accepted_conversion e =
      let n = conversion_none e in
      let l = none_right (box_checks bytes) _ n in
      record {
        accepted_box = none_zero (box_checks bytes) (none_left (box_checks bytes) _ n);
        simplex = eqb-true (family_in bytes) 1 (not-false _ l.0);
        fits = ltb-false room (length bytes) l.1.0;
      }
