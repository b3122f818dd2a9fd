-- Boxes and the bodies of a list of nodes.
-- Assumes nothing.
use mathlib.Core.Path.{◌≡◌, refl, sym, ap, ap₂, ◌∙◌}
use mathlib.Core.Bool.{true, false, not, ◌&&◌}
use mathlib.Core.List.{List, [], ◌∷◌, ◌++◌, flat_map}
use Prim.Native.Nat.{ℕ, zero, suc, ◌+◌, ◌*◌, ◌/◌, ◌%◌, ◌≤◌, ◌<◌}
use native.Mathlib.Nat.{zero-mul, suc-mul, mul-le-mul_right, lt_trans}
use native.Mathlib.Omega.{arith}
use borrow.Author.Tests.{le-ltb, eq-eqb, ltb-true, ltb-false, eqb-true, not-false}
use lib.Dec.{eqb, ltb}
use lib.ListN.{length, get_or, take, drop, length-append, length-drop, take-append-drop}
use lib.Seq.{take_at, take-append_seam, drop-append_seam, drop-append-add, drop-cons, drop-drop, length-take-le}
use borrow.Rule.Slice.PartMut.{mid_of}
use Rattle.base.proofs.ListLaws.{length_zero}
use Rattle.base.proofs.Tests.{and_left, and_right, or_neither}
use Rattle.families.specs.Families.{family_of, node_count}
use Rattle.checks.specs.Checks.{first_met}
use Rattle.base.specs.Ranges.{outside}
use Rattle.checks.specs.Parameters.{parameter_checks}
use Rattle.checks.specs.Claims.{InRange}
use Rattle.base.proofs.RangeLaws.{inside}
use Rattle.checks.proofs.Laws.{none_zero, range_of, parameters_in}
use Rattle.lists.specs.Lists.{some_outside, rises, list_checks, place_in}
use Rattle.blocks.specs.Blocks.{block_of, with_block}
use Rattle.blocks.specs.Inner.{InBuffer}
use Rattle.blocks.proofs.BlockLaws.{length-with_block, block_of_same, block_of_other, in_buffer}
use Rattle.blocks.proofs.PartLaws.{length-block_of}
use Rattle.boxes.specs.Box.{family_in, k_in, block_length_in, held_count_in, zeros_in, names_in, bodies_in, node_count_in, box_length, box_checks, body_checks, body_place, body_start}
use Rattle.boxes.specs.Bodies.{box_of, with_bodies}
use Rattle.boxes.specs.Inner.{ListIn}
use Rattle.boxes.specs.Claims.{AcceptedBox}
use Rattle.boxes.proofs.Answers.{parameters_of, box_none, length_names, by_page, by_tests, accepted_body}

-- ---- lists of nodes

pub in_first : {L : ℕ} {nodes list : List ℕ} {j : ℕ} → ListIn L nodes (j ∷ list) → InBuffer L nodes j
in_first h = h.each 0 (omega arith)

pub in_rest : {L : ℕ} {nodes list : List ℕ} {j : ℕ} → ListIn L nodes (j ∷ list) → ListIn L nodes list
in_rest h = record { each = λ i l. h.each (suc i) (omega arith) }

-- a buffer of the same length has the same nodes
pub in_kept : {L : ℕ} {nodes list : List ℕ} (other : List ℕ) → length other ≡ length nodes → ListIn L nodes list → ListIn L other list
in_kept other e h = record { each = λ i l. let b = h.each i l in record { first = b.first; last = omega (arith, b.last) } }

-- the nodes of a list that are 1 to n
pub node_inside : (n : ℕ) (list : List ℕ) (i : ℕ) → some_outside n list ≡ false → i < length list → (1 ≤ get_or list i 0) × (get_or list i 0 ≤ n)
unfolding some_outside
node_inside n [] i h l = absurd (omega arith)
node_inside n (j ∷ list) zero h l = inside 1 n j (or_neither (outside 1 n j) (some_outside n list) h).0
node_inside n (j ∷ list) (suc i) h l = node_inside n list i (or_neither (outside 1 n j) (some_outside n list) h).1 (omega arith)

pub list_in : (L n : ℕ) (nodes list : List ℕ) → length nodes ≡ n * L → some_outside n list ≡ false → ListIn L nodes list
list_in L n nodes list e h =
    record { each = λ i l. let b = node_inside n list i h l in in_buffer L nodes n (get_or list i 0) e b.0 b.1 }

-- a rising list without its first node, and that this one is below the others
pub rises_rest : (i : ℕ) (list : List ℕ) → rises (i ∷ list) ≡ true → rises list ≡ true
unfolding rises
rises_rest i [] h = refl
rises_rest i (j ∷ list) h = and_right (ltb i j) (rises (j ∷ list)) h

pub rises_above : (i : ℕ) (list : List ℕ) (p : ℕ) → rises (i ∷ list) ≡ true → p < length list → i < get_or list p 0
unfolding rises
rises_above i [] p h l = absurd (omega arith)
rises_above i (j ∷ list) zero h l = ltb-true i j (and_left (ltb i j) (rises (j ∷ list)) h)
rises_above i (j ∷ list) (suc p) h l =
    lt_trans (ltb-true i j (and_left (ltb i j) (rises (j ∷ list)) h)) (rises_above j list p (and_right (ltb i j) (rises (j ∷ list)) h) (omega arith))

-- ---- the bodies of a list of nodes

pub body_fits : (L i m : ℕ) → i < m → i * L + L ≤ m * L
body_fits L i m h =
    let b : suc i * L ≤ m * L = mul-le-mul_right L h in
    rw (suc-mul i L) at b

pub length_bodies : (L : ℕ) (nodes list : List ℕ) → ListIn L nodes list → length (flat_map (block_of L nodes) list) ≡ length list * L
unfolding flat_map
length_bodies L nodes [] h = sym (zero-mul L)
length_bodies L nodes (j ∷ list) h =
    length-append (block_of L nodes j) (flat_map (block_of L nodes) list)
    ∙ omega (arith, length-block_of (in_first h), length_bodies L nodes list (in_rest h), suc-mul (length list) L)

-- the body at each place
pub body_at : (L : ℕ) (nodes list : List ℕ) (i : ℕ) → ListIn L nodes list → i < length list → mid_of (i * L) L (flat_map (block_of L nodes) list) ≡ block_of L nodes (get_or list i 0)
unfolding flat_map
body_at L nodes [] i h l = absurd (omega arith)
body_at L nodes (j ∷ list) zero h l = rw (zero-mul L) (take_at (block_of L nodes j) (flat_map (block_of L nodes) list) L (length-block_of (in_first h)))
body_at L nodes (j ∷ list) (suc i) h l =
    let e : suc i * L ≡ length (block_of L nodes j) + i * L = omega (arith, length-block_of (in_first h), suc-mul i L) in
    rw (e, drop-append-add (block_of L nodes j) (flat_map (block_of L nodes) list) (i * L)) (body_at L nodes list i (in_rest h) (omega arith))

-- ---- bodies put in the places of a list of nodes

-- the first body of those of a list, and the others
module _ (L : ℕ) (j : ℕ) (list bodies : List ℕ) (size : length bodies ≡ length (j ∷ list) * L) where
  pub first_size : length (take L bodies) ≡ L
  first_size = length-take-le L bodies (omega (arith, suc-mul (length list) L))

  pub rest_size : length (drop L bodies) ≡ length list * L
  rest_size = length-drop L bodies ∙ omega (arith, suc-mul (length list) L)

pub length-with_bodies : (L : ℕ) (nodes list bodies : List ℕ) → ListIn L nodes list → length bodies ≡ length list * L → length (with_bodies L nodes list bodies) ≡ length nodes
unfolding with_bodies
length-with_bodies L nodes [] bodies h e = refl
length-with_bodies L nodes (j ∷ list) bodies h e =
    let s = length-with_block L nodes j (take L bodies) (in_first h) (first_size L j list bodies e) in
    length-with_bodies L (with_block L nodes j (take L bodies)) list (drop L bodies) (in_kept _ s (in_rest h)) (rest_size L j list bodies e) ∙ s

-- a node that is not in the list keeps its block
pub bodies_other : (L : ℕ) (nodes list bodies : List ℕ) (j : ℕ) → ListIn L nodes list → length bodies ≡ length list * L → 1 ≤ j
    → ((i : ℕ) → i < length list → get_or list i 0 ≡ j → ⊥) → block_of L (with_bodies L nodes list bodies) j ≡ block_of L nodes j
unfolding with_bodies
bodies_other L nodes [] bodies j h e p n = refl
bodies_other L nodes (i ∷ list) bodies j h e p n =
    let z = first_size L i list bodies e in
    let s = length-with_block L nodes i (take L bodies) (in_first h) z in
    bodies_other L (with_block L nodes i (take L bodies)) list (drop L bodies) j (in_kept _ s (in_rest h)) (rest_size L i list bodies e) p (λ m l. n (suc m) (omega arith))
    ∙ block_of_other L nodes i (take L bodies) (in_first h) z j p (λ d. n 0 (omega arith) (sym d))

-- the bodies that were put are the bodies of the list
pub bodies_there : (L : ℕ) (nodes list bodies : List ℕ) → rises list ≡ true → ListIn L nodes list → length bodies ≡ length list * L
    → flat_map (block_of L (with_bodies L nodes list bodies)) list ≡ bodies
unfolding flat_map with_bodies
bodies_there L nodes [] bodies r h e = sym (length_zero bodies (e ∙ zero-mul L))
bodies_there L nodes (j ∷ list) bodies r h e =
    let z = first_size L j list bodies e in
    let w = with_block L nodes j (take L bodies) in
    let s = length-with_block L nodes j (take L bodies) (in_first h) z in
    let m = rest_size L j list bodies e in
    let i = in_kept w s (in_rest h) in
    ap₂ ◌++◌
    (bodies_other L w list (drop L bodies) j i m (in_first h).first (λ p l d. omega (arith, rises_above j list p r l))
    ∙ block_of_same L nodes j (take L bodies) (in_first h) z)
    (bodies_there L w list (drop L bodies) (rises_rest j list r) i m)
    ∙ take-append-drop L bodies

-- the bodies of one buffer put into another: each node of the list then has its block of the first
pub bodies_same : (L : ℕ) (nodes other list : List ℕ) (i : ℕ) → rises list ≡ true → ListIn L nodes list → ListIn L other list → i < length list
    → block_of L (with_bodies L other list (flat_map (block_of L nodes) list)) (get_or list i 0) ≡ block_of L nodes (get_or list i 0)
bodies_same L nodes other list i r h g l =
    let e = length_bodies L nodes list h in
    let k = in_kept _ (length-with_bodies L other list (flat_map (block_of L nodes) list) g e) g in
    sym (body_at L (with_bodies L other list (flat_map (block_of L nodes) list)) list i k l)
    ∙ ap (mid_of (i * L) L) (bodies_there L other list (flat_map (block_of L nodes) list) r g e)
    ∙ body_at L nodes list i h l

-- ---- an accepted box

pub accepted_box : (bytes : List ℕ) → first_met (box_checks bytes) ≡ 0 → AcceptedBox bytes
unfolding box_checks parameter_checks
accepted_box bytes e =
    let n = box_none bytes e in
    let p = n.1 in
    let m = p.1.1.1 in
    let s : length bytes ≡ box_length (held_count_in bytes) (block_length_in bytes) = eqb-true _ _ (not-false _ m.1.1.0) in
    record {
      size = s;
      range = range_of (family_in bytes) (k_in bytes) (block_length_in bytes) (p.0, (p.1.0, (p.1.1.0, tt)));
      zeros = not-false (zeros_in bytes) m.0;
      few_held = ltb-false (node_count_in bytes) (held_count_in bytes) m.1.0;
      nodes = m.1.1.1.0;
      rising = not-false (rises (names_in bytes)) m.1.1.1.1.0;
      names_size = length_names bytes (omega arith);
      bodies_size = length-drop (8 + held_count_in bytes) bytes ∙ omega arith;
    }

-- the first 8 bytes and the names are there
pub has_names : (bytes : List ℕ) → first_met (box_checks bytes) ≡ 0 → (8 ≤ length bytes) × (8 + held_count_in bytes ≤ length bytes)
has_names bytes e = let b = accepted_box bytes e in (omega (arith, b.size), omega (arith, b.size))

-- a body that is not refused has a place among those held, and ends by the end of the box
module _ (bytes : List ℕ) (j : ℕ) (e : first_met (body_checks bytes j) ≡ 0) where
  pub body_box : AcceptedBox bytes
  body_box = accepted_box bytes (accepted_body bytes j e).accepted_box

  pub body_named : place_in (names_in bytes) j < length (names_in bytes)
  body_named = (accepted_body bytes j e).place

  pub body_held : body_place (names_in bytes) j < held_count_in bytes
  body_held = omega (arith, body_named, body_box.names_size)

  pub body_within : body_start bytes j + block_length_in bytes ≤ length bytes
  body_within = omega (arith, body_box.size, body_fits (block_length_in bytes) (body_place (names_in bytes) j) (held_count_in bytes) body_held)

-- ---- the box of a list of nodes

pub length-box_of : (family k L : ℕ) (list nodes : List ℕ) → ListIn L nodes list → length (box_of family k L list nodes) ≡ box_length (length list) L
unfolding box_of
length-box_of family k L list nodes h = omega (arith, length-append list (flat_map (block_of L nodes) list), length_bodies L nodes list h)

-- its fields are what it was made of
pub record FieldsOf (family k L : ℕ) (list nodes : List ℕ) : Type 0 where
  pub family_is : family_in (box_of family k L list nodes) ≡ family
  pub k_is : k_in (box_of family k L list nodes) ≡ k
  pub length_is : block_length_in (box_of family k L list nodes) ≡ L
  pub held_is : held_count_in (box_of family k L list nodes) ≡ length list
  pub zeros_is : zeros_in (box_of family k L list nodes) ≡ true
  pub names_is : names_in (box_of family k L list nodes) ≡ list
  pub bodies_is : bodies_in (box_of family k L list nodes) ≡ flat_map (block_of L nodes) list

pub fields_of : (family k L : ℕ) (list nodes : List ℕ) → FieldsOf family k L list nodes
unfolding box_of
fields_of family k L list nodes =
    record {
      family_is = refl;
      k_is = refl;
      length_is = omega arith;
      held_is = refl;
      zeros_is = refl;
      names_is = take-append_seam list (flat_map (block_of L nodes) list);
      bodies_is = sym (drop-drop (length list) 8 (box_of family k L list nodes)) ∙ drop-append_seam list (flat_map (block_of L nodes) list);
    }

-- and it is accepted
pub box_accepted : (family k L : ℕ) (list nodes : List ℕ) → InRange family k L
    → some_outside (node_count (family_of family) k) list ≡ false → rises list ≡ true → length list ≤ node_count (family_of family) k
    → length nodes ≡ node_count (family_of family) k * L → first_met (box_checks (box_of family k L list nodes)) ≡ 0
box_accepted family k L list nodes r o i f e =
    let n = node_count (family_of family) k in
    let b = box_of family k L list nodes in
    let d = fields_of family k L list nodes in
    let s = length-box_of family k L list nodes (list_in L n nodes list e o) in
    let p : first_met (parameters_of b) ≡ 0 = rw (d.family_is, d.k_is, d.length_is) (parameters_in family k L r) in
    by_page b (omega (arith, s)) p
    ∙ by_tests b d.zeros_is (eq-eqb _ _ (s ∙ sym (ap₂ box_length d.held_is d.length_is))) (le-ltb (node_count_in b) (held_count_in b) (rw (d.held_is, d.family_is, d.k_is) f))
    ∙ rw (d.family_is, d.k_is, d.names_is)
    (none_zero (list_checks n list) (o, (ap not i, tt)))

-- ---- an accepted box is the box of its own fields

front : (bytes : List ℕ) (x y z : ℕ) → 8 ≤ length bytes → get_or bytes 5 0 ≡ x → get_or bytes 6 0 ≡ y → get_or bytes 7 0 ≡ z
    → get_or bytes 0 0 ∷ get_or bytes 1 0 ∷ get_or bytes 2 0 ∷ get_or bytes 3 0 ∷ get_or bytes 4 0 ∷ x ∷ y ∷ z ∷ drop 8 bytes ≡ bytes
front bytes x y z l ex ey ez = rw (← ex, ← ey, ← ez, ← at 7 (omega arith), ← at 6 (omega arith), ← at 5 (omega arith), ← at 4 (omega arith), ← at 3 (omega arith), ← at 2 (omega arith), ← at 1 (omega arith)) (sym (drop-cons bytes 0 0 (omega arith)))
  where
    at : (i : ℕ) → i < 8 → drop i bytes ≡ get_or bytes i 0 ∷ drop (suc i) bytes
    at i h = drop-cons bytes i 0 (omega arith)

three_zeros : (x y z : ℕ) → (eqb x 0 && (eqb y 0 && eqb z 0)) ≡ true → (x ≡ 0) × (y ≡ 0) × (z ≡ 0)
three_zeros x y z h =
    let t = and_right (eqb x 0) (eqb y 0 && eqb z 0) h in
    (eqb-true x 0 (and_left (eqb x 0) (eqb y 0 && eqb z 0) h), eqb-true y 0 (and_left (eqb y 0) (eqb z 0) t), eqb-true z 0 (and_right (eqb y 0) (eqb z 0) t))

pub box_of_fields : (bytes nodes : List ℕ) → get_or bytes 2 0 < 256 → first_met (box_checks bytes) ≡ 0
    → flat_map (block_of (block_length_in bytes) nodes) (names_in bytes) ≡ bodies_in bytes
    → box_of (family_in bytes) (k_in bytes) (block_length_in bytes) (names_in bytes) nodes ≡ bytes
unfolding box_of
box_of_fields bytes nodes byte e h =
    let a = accepted_box bytes e in
    let x = get_or bytes 2 0 in
    let y = get_or bytes 3 0 in
    let low : (x + y * 256) % 256 ≡ x = omega arith in
    let high : (x + y * 256) / 256 ≡ y = omega arith in
    let z = three_zeros (get_or bytes 5 0) (get_or bytes 6 0) (get_or bytes 7 0) a.zeros in
    let rest : names_in bytes ++ bodies_in bytes ≡ drop 8 bytes = rw (← drop-drop (held_count_in bytes) 8 bytes) (take-append-drop (held_count_in bytes) (drop 8 bytes)) in
    rw (h, a.names_size, rest, low, high) (front bytes 0 0 0 (omega (arith, a.size)) z.0 z.1 z.2)
