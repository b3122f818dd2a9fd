-- What the checks of a box and of a body give, check by check.
-- Assumes nothing.
use mathlib.Core.Path.{◌≡◌, refl, sym, ◌∙◌}
use mathlib.Core.Bool.{Bool, true, not, cond}
use mathlib.Core.List.{List, []}
use Prim.Native.Nat.{ℕ, ◌+◌, ◌≤◌, ◌<◌}
use native.Mathlib.Omega.{arith}
use borrow.Author.Tests.{lt-ltb, le-ltb, ltb-true, not-false}
use lib.Dec.{eqb, ltb}
use lib.ListN.{length, take, drop, length-drop}
use lib.Seq.{length-take-le}
use Rattle.families.specs.Families.{node_count}
use Rattle.families.specs.declared.Code.{Code}
use Rattle.checks.specs.Checks.{Check, first_met}
use Rattle.checks.specs.Refusals.{IsCodeOf}
use Rattle.checks.specs.Claims.{NoneMet}
use Rattle.checks.specs.Parameters.{parameter_checks}
use Rattle.base.specs.Ranges.{outside}
use Rattle.base.proofs.RangeLaws.{outside_no}
use Rattle.checks.proofs.Laws.{accepted, parameters_none, none_zero, none_left, none_right, none_append, some_append}
use Rattle.checks.proofs.AnswerLaws.{after_served, after_refused}
use Rattle.lists.specs.Lists.{list_checks, place_in}
use Rattle.boxes.specs.Box.{family_in, k_in, block_length_in, held_count_in, zeros_in, names_in, node_count_in, box_length, page_checks, box_checks, body_checks, body_start, body_of}

-- ---- a box

-- n of the box's code
pub n_is : (bytes : List ℕ) {code : Code} {n : ℕ} → IsCodeOf (family_in bytes) (k_in bytes) code → n ≡ node_count code.family code.k → n ≡ node_count_in bytes
n_is bytes p e = rw (e, p.family_is, p.k_is)

abbrev pub parameters_of : List ℕ → List Check
parameters_of bytes = parameter_checks (family_in bytes) (k_in bytes) (block_length_in bytes)

pub length_names : (bytes : List ℕ) → 8 + held_count_in bytes ≤ length bytes → length (names_in bytes) ≡ held_count_in bytes
length_names bytes h = length-take-le (held_count_in bytes) (drop 8 bytes) (simp length-drop (omega arith))

module _ (bytes : List ℕ) where
  pub by_short : length bytes < 8 → first_met (box_checks bytes) ≡ 7
  unfolding box_checks first_met
  by_short h = rw (lt-ltb (length bytes) 8 h)

  -- none of the box's checks is met
  pub box_none : first_met (box_checks bytes) ≡ 0 → NoneMet (box_checks bytes)
  unfolding box_checks parameter_checks
  box_none e = accepted (box_checks bytes) refl e

  module _ (long : 8 ≤ length bytes) where
    pub by_parameters : (first_met (parameters_of bytes) ≡ 0 → ⊥) → first_met (box_checks bytes) ≡ first_met (parameters_of bytes)
    unfolding box_checks first_met
    by_parameters n = rw (le-ltb (length bytes) 8 long) (some_append (parameters_of bytes) _ n)

    pub by_page : first_met (parameters_of bytes) ≡ 0 → first_met (box_checks bytes) ≡ first_met (page_checks bytes)
    unfolding box_checks first_met
    by_page e = rw (le-ltb (length bytes) 8 long) (none_append (parameters_of bytes) _ (parameters_none (family_in bytes) (k_in bytes) (block_length_in bytes) e))

  -- the page's checks by its three tests; the last two checks are those of the node numbers
  pub by_tests : {zero right many : Bool} → zeros_in bytes ≡ zero
      → eqb (length bytes) (box_length (held_count_in bytes) (block_length_in bytes)) ≡ right
      → ltb (node_count_in bytes) (held_count_in bytes) ≡ many
      → first_met (page_checks bytes) ≡ cond (not zero) 8 (cond many 9 (cond (not right) 7 (first_met (list_checks (node_count_in bytes) (names_in bytes)))))
  unfolding first_met
  by_tests z s h = rw (z, s, h)

-- ---- a body

module _ (bytes : List ℕ) (j : ℕ) where
  pub by_box : (first_met (box_checks bytes) ≡ 0 → ⊥) → first_met (body_checks bytes j) ≡ first_met (box_checks bytes)
  unfolding body_checks
  by_box n = some_append (box_checks bytes) _ n

  module _ (e : first_met (box_checks bytes) ≡ 0) where
    pub by_outside : outside 1 (node_count_in bytes) j ≡ true → first_met (body_checks bytes j) ≡ 4
    unfolding body_checks first_met
    by_outside o = none_append (box_checks bytes) _ (box_none bytes e) ∙ rw o

    pub by_missing : 1 ≤ j → j ≤ node_count_in bytes → length (names_in bytes) ≤ place_in (names_in bytes) j → first_met (body_checks bytes j) ≡ 12
    unfolding body_checks first_met
    by_missing h g m =
        none_append (box_checks bytes) _ (box_none bytes e)
        ∙ rw (outside_no 1 (node_count_in bytes) j h g, le-ltb (place_in (names_in bytes) j) (length (names_in bytes)) m)

    pub by_none : 1 ≤ j → j ≤ node_count_in bytes → place_in (names_in bytes) j < length (names_in bytes) → first_met (body_checks bytes j) ≡ 0
    unfolding body_checks first_met
    by_none h g m =
        none_append (box_checks bytes) _ (box_none bytes e)
        ∙ rw (outside_no 1 (node_count_in bytes) j h g, lt-ltb (place_in (names_in bytes) j) (length (names_in bytes)) m)

  -- a body that is not refused
  pub record AcceptedBody : Type 0 where
    pub accepted_box : first_met (box_checks bytes) ≡ 0
    pub place : place_in (names_in bytes) j < length (names_in bytes)

  body_none : first_met (body_checks bytes j) ≡ 0 → NoneMet (body_checks bytes j)
  unfolding body_checks box_checks parameter_checks
  body_none e = accepted (body_checks bytes j) refl e

  pub accepted_body : first_met (body_checks bytes j) ≡ 0 → AcceptedBody
  unfolding body_checks
  accepted_body e =
      let n = body_none e in
      let l = none_right (box_checks bytes) _ n in
      record {
        accepted_box = none_zero (box_checks bytes) (none_left (box_checks bytes) _ n);
        place = ltb-true (place_in (names_in bytes) j) (length (names_in bytes)) (not-false _ l.1.0);
      }

  pub body_empty : (first_met (body_checks bytes j) ≡ 0 → ⊥) → body_of bytes j ≡ []
  unfolding body_of
  body_empty n = after_refused (body_checks bytes j) _ [] n

  pub body_part : first_met (body_checks bytes j) ≡ 0 → take (block_length_in bytes) (drop (body_start bytes j) bytes) ≡ body_of bytes j
  unfolding body_of
  body_part e = sym (after_served (body_checks bytes j) _ [] e)
