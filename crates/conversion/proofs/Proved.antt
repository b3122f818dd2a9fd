-- What specs/Claims.antt says of conversions.
-- Assumes nothing.
use mathlib.Core.Path.{◌≡◌, refl, sym, ap, ap₂, subst, ◌∙◌}
use mathlib.Core.List.{List, ◌++◌}
use Prim.Native.Nat.{ℕ, ◌≤◌}
use native.Mathlib.Decide.{ℕ_discrete}
use native.Mathlib.Omega.{arith}
use lib.ListN.{length, take, drop}
use lib.Seq.{take_at}
use Rattle.families.specs.Families.{KInRange, IsNode, node_count, column_of}
use Rattle.families.specs.declared.Family.TheVariants.{Simplex}
use Rattle.checks.specs.Checks.{first_met}
use Rattle.boxes.specs.Box.{k_in, node_count_in, box_checks}
use Rattle.boxes.proofs.Laws.{accepted_box}
use Rattle.boxes.proofs.Proved.{box_claim}
use Rattle.graded.specs.Order.{column_at, node_at, position_of}
use Rattle.graded.specs.Claims.{NumberClaims}
use Rattle.graded.proofs.Proved.{number_claims}
use Rattle.conversion.specs.declared.Converted.{Converted}
use Rattle.conversion.specs.Converted.{conversion_checks, renumbered, from_graded, to_graded, converted}
use Rattle.conversion.specs.Inner.{Renumbers}
use Rattle.conversion.specs.Claims.{AcceptedClaim, box_left, ConvertedBox, ConvertedClaim, BackClaim, BodiesBy, ObjectClaim, RefusalClaim}
use Rattle.conversion.proofs.Answers.{by_box, by_family, by_room, by_none}
use Rattle.conversion.proofs.Rules.{converted_refused, converted_served, accepts, k_range, count_is, nodes_rule, positions_rule}
use Rattle.conversion.proofs.Laws.{new_size}
use Rattle.conversion.proofs.NewBox.{accepted, family_same, k_same, head_same, held_new, body_new, turned_back, object_moved}

-- ---- accepted and refused

module _ (bytes out : List ℕ) where
  -- the number that is given is that of the first check that is met
  number : (converted bytes out).refusal ≡ first_met (conversion_checks bytes (length out))
  number = go (ℕ_discrete (first_met (conversion_checks bytes (length out))) 0)
    where
      go : Dec (first_met (conversion_checks bytes (length out)) ≡ 0) → (converted bytes out).refusal ≡ first_met (conversion_checks bytes (length out))
      go (yes e) = ap (λ (c : Converted). c.refusal) (converted_served bytes out e from_graded).0 ∙ sym e
      go (no n) = ap (λ (c : Converted). c.refusal) (converted_refused bytes out from_graded n).0

  passes : (converted bytes out).refusal ≡ 0 → first_met (conversion_checks bytes (length out)) ≡ 0
  passes h = sym number ∙ h

pub accepted_claim : AcceptedClaim
accepted_claim bytes out = (
  (λ h. let a = accepts bytes out (passes bytes out h) in record { box = accepted_box bytes a.accepted_box; simplex = a.simplex; fits = a.fits }),
  (λ c. number bytes out ∙ by_none bytes (length out) ((box_claim bytes).1 c.box) c.simplex c.fits),
)

pub refusal_claim : RefusalClaim
refusal_claim bytes out =
    record {
      box = λ n. number bytes out ∙ by_box bytes (length out) n;
      family = λ a n. number bytes out ∙ by_family bytes (length out) ((box_claim bytes).1 a) n;
      room = λ a f l. number bytes out ∙ by_room bytes (length out) ((box_claim bytes).1 a) f l;
      zero = λ n. ap (λ (c : Converted). c.length) (converted_refused bytes out from_graded (λ e. n (number bytes out ∙ e))).0;
      kept = λ to n. (converted_refused bytes out to (λ e. n (number bytes out ∙ e))).1;
    }

-- ---- a conversion by a rule and the one that undoes it

module _ (bytes out : List ℕ) (h : (converted bytes out).refusal ≡ 0) (to : List ℕ → List ℕ) (new : ℕ → ℕ) (is : to bytes ≡ renumbered new bytes) (r : Renumbers (node_count_in bytes) new) where
  e : first_met (box_checks bytes) ≡ 0
  e = (accepts bytes out (passes bytes out h)).accepted_box

  size : length (to bytes) ≡ length bytes
  size = ap length is ∙ new_size bytes e new r

  pub left_is : box_left to bytes out ≡ renumbered new bytes
  left_is =
      let s = converted_served bytes out (passes bytes out h) to in
      ap₂ (λ (c : Converted) (b : List ℕ). take c.length b) s.0 s.1 ∙ take_at (to bytes) (drop (length bytes) out) (length bytes) size ∙ is

  node : (p : ℕ) → IsNode Simplex (k_in bytes) p → p ≤ node_count_in bytes
  node p m = omega (arith, count_is bytes out (passes bytes out h), m.last)

  pub converted_box : ConvertedBox to new bytes out
  converted_box =
      let s = converted_served bytes out (passes bytes out h) to in
      record {
        answer = s.0;
        rest = s.1 ∙ ap (λ (b : List ℕ). b ++ drop (length bytes) out) (is ∙ sym left_is);
        size = ap length left_is ∙ new_size bytes e new r;
        accepted = rw left_is (accepted bytes e new r);
        head = rw left_is (head_same bytes e new r);
        held = λ p m. rw left_is (held_new bytes e new r p m.first (node p m));
        body = λ p m. rw left_is (body_new bytes e new r p m.first (node p m));
      }

  -- the box that is left may be converted in its turn
  pub again : (other : List ℕ) → length bytes ≤ length other → (converted (renumbered new bytes) other).refusal ≡ 0
  again other l =
      number (renumbered new bytes) other
      ∙ by_none (renumbered new bytes) (length other) (accepted bytes e new r) (family_same bytes e new r ∙ (accepts bytes out (passes bytes out h)).simplex) (omega (arith, new_size bytes e new r))

-- ---- the two rules

module _ (bytes out : List ℕ) (h : (converted bytes out).refusal ≡ 0) where
  range : KInRange Simplex (k_in bytes)
  range = k_range bytes out (passes bytes out h)

  abbrev claims : NumberClaims (k_in bytes)
  claims = number_claims (k_in bytes) range

  counted : {rule : ℕ → ℕ} → Renumbers (node_count Simplex (k_in bytes)) rule → Renumbers (node_count_in bytes) rule
  counted {rule} = subst (λ (m : ℕ). Renumbers m rule) (sym (count_is bytes out (passes bytes out h)))

  nodes : Renumbers (node_count_in bytes) (node_at (k_in bytes))
  nodes = counted (nodes_rule (k_in bytes) range)

  positions : Renumbers (node_count_in bytes) (position_of (k_in bytes))
  positions = counted (positions_rule (k_in bytes) range)

  is_node : (j : ℕ) → 1 ≤ j → j ≤ node_count_in bytes → IsNode Simplex (k_in bytes) j
  is_node j a b = record { first = a; last = omega (arith, count_is bytes out (passes bytes out h)) }

pub converted_claim : ConvertedClaim
converted_claim =
    record {
      ours = λ bytes out h. converted_box bytes out h from_graded (node_at (k_in bytes)) refl (nodes bytes out h);
      theirs = λ bytes out h. converted_box bytes out h to_graded (position_of (k_in bytes)) refl (positions bytes out h);
    }

-- ---- there and back

module _ (bytes out : List ℕ) (h : (converted bytes out).refusal ≡ 0)
    (new back : ℕ → ℕ → ℕ)
    (there : (b o : List ℕ) → (converted b o).refusal ≡ 0 → Renumbers (node_count_in b) (new (k_in b)))
    (return : (b o : List ℕ) → (converted b o).refusal ≡ 0 → Renumbers (node_count_in b) (back (k_in b)))
  where
    abbrev to : List ℕ → List ℕ
    to b = renumbered (new (k_in b)) b

    abbrev fro : List ℕ → List ℕ
    fro b = renumbered (back (k_in b)) b

    pub round : ((j : ℕ) → 1 ≤ j → j ≤ node_count_in bytes → back (k_in bytes) (new (k_in bytes) j) ≡ j) → (other : List ℕ) → length bytes ≤ length other → box_left fro (box_left to bytes out) other ≡ bytes
    round undo other l =
        let rule = new (k_in bytes) in
        let r = there bytes out h in
        let box = (accepts bytes out (passes bytes out h)).accepted_box in
        let after = renumbered rule bytes in
        let g = again bytes out h to rule refl r other l in
        ap (λ (b : List ℕ). box_left fro b other) (left_is bytes out h to rule refl r)
        ∙ left_is after other g fro (back (k_in after)) refl (return after other g)
        ∙ ap (λ (k : ℕ). renumbered (back k) after) (k_same bytes box rule r)
        ∙ turned_back bytes box rule r (back (k_in bytes)) (return bytes out h) undo

    -- ---- an object's bodies

    pub own_moved : ((j : ℕ) → 1 ≤ j → j ≤ node_count_in bytes → new (k_in bytes) (back (k_in bytes) j) ≡ j)
        → (column other : ℕ → ℕ) → ((j : ℕ) → 1 ≤ j → j ≤ node_count_in bytes → other (new (k_in bytes) j) ≡ column j)
        → (object : List ℕ) → BodiesBy column object bytes → BodiesBy other object (box_left to bytes out)
    own_moved undo column other alike object own =
        let rule = new (k_in bytes) in
        let r = there bytes out h in
        rw (left_is bytes out h to rule refl r)
        (object_moved bytes (accepts bytes out (passes bytes out h)).accepted_box rule r (back (k_in bytes)) (return bytes out h) undo column other alike object own)

pub back_claim : BackClaim
back_claim =
    record {
      ours = λ bytes out other h l. round bytes out h node_at position_of nodes positions (λ j a b. (claims bytes out h).back j (is_node bytes out h j a b)) other l;
      theirs = λ bytes out other h l. round bytes out h position_of node_at positions nodes (λ j a b. (claims bytes out h).forth j (is_node bytes out h j a b)) other l;
    }

pub object_claim : ObjectClaim
object_claim =
    record {
      ours = λ o bytes out h own.
          let c = claims bytes out h in
          own_moved bytes out h node_at position_of nodes positions (λ j a b. c.forth j (is_node bytes out h j a b)) (column_at (k_in bytes)) (column_of Simplex (k_in bytes)) (λ j a b. c.column j (is_node bytes out h j a b)) o own;
      theirs = λ o bytes out h own.
          let c = claims bytes out h in
          own_moved bytes out h position_of node_at positions nodes (λ j a b. c.back j (is_node bytes out h j a b)) (column_of Simplex (k_in bytes)) (column_at (k_in bytes))
          (λ j a b. let m = is_node bytes out h j a b in sym (c.column (position_of (k_in bytes) j) (c.position j m)) ∙ ap (column_of Simplex (k_in bytes)) (c.forth j m)) o own;
    }
