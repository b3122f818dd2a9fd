-- The claims of specs/Claims.antt.
-- Assumes nothing.
use mathlib.Core.Path.{◌≡◌, sym, ap, ◌∙◌}
use mathlib.Core.Bool.{Bool, true, not}
use mathlib.Core.List.{List, [], ◌∷◌, ◌++◌}
use mathlib.Core.Logic.{⊎_elim}
use Prim.Native.Nat.{ℕ, ◌+◌, ◌*◌, ◌≤◌, ◌<◌}
use native.Mathlib.Omega.{arith}
use borrow.Author.Tests.{lt-ltb, le-ltb, eq-eqb, ne_eqb, ltb-true, ltb-false, eqb-false, not-true, not-false}
use lib.Dec.{eqb, ltb}
use lib.ListN.{length, get_or}
use lib.Seq.{drop-drop}
use borrow.Rule.Slice.PartMut.{mid_of}
use Rattle.families.specs.Families.{family_of, node_count, IsNode}
use Rattle.blocks.specs.Blocks.{block_of}
use Rattle.blocks.proofs.PartLaws.{length_mid}
use Rattle.checks.specs.Checks.{Check, ◌gives◌, first_met}
use Rattle.checks.specs.Claims.{NoneMet}
use Rattle.checks.specs.Parameters.{parameter_checks}
use Rattle.checks.proofs.Laws.{none_zero, none_append, exchanged, range_of, parameters_in, parameters_none}
use Rattle.lists.proofs.PlaceLaws.{rising_distinct, place_of}
use Rattle.lists.specs.Lists.{list_checks, place_in}
use Rattle.boxes.specs.Box.{family_in, k_in, block_length_in, held_count_in, zeros_in, names_in, bodies_in, node_count_in, box_length, box_checks, body_checks, body_place, body_of}
use Rattle.boxes.specs.Bodies.{box_of, with_bodies}
use Rattle.boxes.specs.Claims.{AcceptedBox, BoxClaim, SoundHead, old_box_checks, Miscounted, Changed, OrderClaim, BodyClaims, BodyClaim, BoxOfBodyClaim}
use Rattle.boxes.proofs.Answers.{parameters_of, by_page, by_tests, by_none, body_part}
use Rattle.boxes.proofs.Laws.{accepted_box, node_inside, list_in, in_kept, body_fits, body_at, bodies_there, bodies_same, length-with_bodies, fields_of}

-- ---- a box

pub box_claim : BoxClaim
box_claim bytes = (accepted_box bytes, back)
  where
    back : AcceptedBox bytes → first_met (box_checks bytes) ≡ 0
    back a =
        by_page bytes (omega (arith, a.size)) (parameters_in _ _ _ a.range)
        ∙ by_tests bytes a.zeros (eq-eqb _ _ a.size) (le-ltb _ _ a.few_held)
        ∙ none_zero (list_checks (node_count_in bytes) (names_in bytes)) (a.nodes, (ap not a.rising, tt))

-- ---- the order of checks before document 02, K12

module _ (bytes : List ℕ) where
  -- the checks before 9 and the full-length 7
  abbrev earlier : List Check
  earlier = (ltb (length bytes) 8 gives 7) ∷ (parameters_of bytes ++ ((not (zeros_in bytes) gives 8) ∷ []))

  earlier_none : SoundHead bytes → NoneMet earlier
  unfolding parameter_checks
  earlier_none p =
      let q = parameters_none (family_in bytes) (k_in bytes) (block_length_in bytes) (parameters_in _ _ _ p.range) in
      (le-ltb (length bytes) 8 p.long, (q.0, (q.1.0, (q.1.1.0, (ap not p.zeros, tt)))))

  head : NoneMet earlier → SoundHead bytes
  unfolding parameter_checks
  head n =
      record {
        long = ltb-false (length bytes) 8 n.0;
        range = range_of (family_in bytes) (k_in bytes) (block_length_in bytes) (n.1.0, (n.1.1.0, (n.1.1.1.0, tt)));
        zeros = not-false (zeros_in bytes) n.1.1.1.1.0;
      }

  abbrev right : Bool
  right = eqb (length bytes) (box_length (held_count_in bytes) (block_length_in bytes))

  abbrev many : Bool
  many = ltb (node_count_in bytes) (held_count_in bytes)

  miscounted : NoneMet earlier × (many ≡ true) × (not right ≡ true) → Miscounted bytes
  miscounted e =
      record {
        head = head e.0;
        many = ltb-true (node_count_in bytes) (held_count_in bytes) e.1;
        wrong_size = eqb-false (length bytes) (box_length (held_count_in bytes) (block_length_in bytes)) (not-true right e.2);
      }

  module _ (later : List Check) where
    abbrev rest : List Check
    rest = list_checks (node_count_in bytes) (names_in bytes) ++ later

    changed : Changed bytes (first_met (box_checks bytes ++ later)) (first_met (old_box_checks bytes ++ later))
    unfolding box_checks old_box_checks parameter_checks first_met
    changed =
        let either = exchanged earlier many (not right) 9 7 rest in
        record {
          new_there = λ m. none_append earlier ((many gives 9) ∷ (not right gives 7) ∷ rest) (earlier_none m.head) ∙ rw (lt-ltb (node_count_in bytes) (held_count_in bytes) m.many);
          old_there = λ m. none_append earlier ((not right gives 7) ∷ (many gives 9) ∷ rest) (earlier_none m.head) ∙ rw (ne_eqb (length bytes) (box_length (held_count_in bytes) (block_length_in bytes)) m.wrong_size);
          same = λ n. ⊎_elim (λ e. absurd (n (miscounted e))) (λ e. e) either;
          only = λ n. ⊎_elim miscounted (λ e. absurd (n e)) either;
        }

pub order_claim : OrderClaim
unfolding body_checks box_checks old_box_checks parameter_checks
order_claim bytes = record { check = changed bytes []; body = λ j. changed bytes _; followed = changed bytes }

-- ---- the body of a node

module _ (bytes : List ℕ) (e : first_met (box_checks bytes) ≡ 0) (i : ℕ) (l : i < held_count_in bytes) where
  box : AcceptedBox bytes
  box = accepted_box bytes e

  named : i < length (names_in bytes)
  named = omega (arith, box.names_size)

  abbrev node : ℕ
  node = get_or (names_in bytes) i 0

  name_place : place_in (names_in bytes) node ≡ i
  name_place = place_of (names_in bytes) i (rising_distinct (names_in bytes) box.rising) named

  -- its body has the same place among the bodies
  place : body_place (names_in bytes) node ≡ i
  place = name_place

  is_node : IsNode (family_of (family_in bytes)) (k_in bytes) node
  is_node = let n = node_inside (node_count_in bytes) (names_in bytes) i box.nodes named in record { first = n.0; last = n.1 }

  given : first_met (body_checks bytes node) ≡ 0
  given = by_none bytes node e is_node.first is_node.last (omega (arith, name_place, named))

  part : body_of bytes node ≡ mid_of (i * block_length_in bytes) (block_length_in bytes) (bodies_in bytes)
  part = sym (body_part bytes node given) ∙ rw (place, drop-drop (i * block_length_in bytes) (8 + held_count_in bytes) bytes)

  fits : i * block_length_in bytes + block_length_in bytes ≤ length (bodies_in bytes)
  fits = omega (arith, body_fits (block_length_in bytes) i (held_count_in bytes) l, box.bodies_size)

  read : (nodes : List ℕ) → length nodes ≡ node_count_in bytes * block_length_in bytes
      → block_of (block_length_in bytes) (with_bodies (block_length_in bytes) nodes (names_in bytes) (bodies_in bytes)) node ≡ body_of bytes node
  read nodes size =
      let L = block_length_in bytes in
      let after = with_bodies L nodes (names_in bytes) (bodies_in bytes) in
      let places = list_in L (node_count_in bytes) nodes (names_in bytes) size box.nodes in
      let all : length (bodies_in bytes) ≡ length (names_in bytes) * L = rw box.names_size box.bodies_size in
      sym (body_at L after (names_in bytes) i (in_kept after (length-with_bodies L nodes (names_in bytes) (bodies_in bytes) places all) places) named)
      ∙ ap (mid_of (i * L) L) (bodies_there L nodes (names_in bytes) (bodies_in bytes) box.rising places all)
      ∙ sym part

  pub body_claims : BodyClaims bytes i
  body_claims = record { node = is_node; given = given; size = ap length part ∙ length_mid (bodies_in bytes) (i * block_length_in bytes) (block_length_in bytes) fits; read = read }

pub body_claim : BodyClaim
body_claim bytes e i l = body_claims bytes e i l

-- the box is read into the buffer that it was written from
pub box_of_body_claim : BoxOfBodyClaim
box_of_body_claim family k L list nodes e size i l =
    let d = fields_of family k L list nodes in
    let b = box_of family k L list nodes in
    let a = accepted_box b e in
    let places = list_in L (node_count (family_of family) k) nodes list size (rw (d.names_is, d.k_is, d.family_is) at a.nodes) in
    let r = (body_claims b e i (omega (arith, d.held_is))).read nodes (rw (d.length_is, d.k_is, d.family_is) size) in
    sym (rw (d.bodies_is, d.names_is, d.length_is) at r) ∙ bodies_same L nodes nodes list i (rw d.names_is at a.rising) places places l
