-- How far the bodies of a list of nodes have been read into a nodes buffer, or written one after the other.
-- Assumes nothing.
use mathlib.Core.Path.{◌≡◌, refl, sym, ◌∙◌}
use mathlib.Core.List.{List, [], ◌∷◌, ◌++◌, flat_map}
use Prim.Native.Nat.{ℕ, ◌+◌, ◌-◌, ◌*◌, ◌/◌, ◌%◌, ◌≤◌}
use native.Mathlib.Nat.{zero-mul, add-mul, mul-le-mul_right}
use native.Mathlib.Omega.{arith}
use lib.ListN.{length, get_or, drop, length-append, drop_of_length-le}
use borrow.Rule.Slice.PartMut.{mid_of, put_mid}
use Rattle.base.proofs.Fill.{filled, fill_done}
use Rattle.blocks.specs.Blocks.{block_of}
use Rattle.blocks.specs.Inner.{BlocksIn}
use Rattle.blocks.proofs.PartLaws.{fill_part, put_next, length_copied}
use Rattle.boxes.specs.Box.{box_length}
use Rattle.boxes.specs.Bodies.{box_of, with_bodies}
use Rattle.boxes.specs.Inner.{ListIn, Stretch}
use Rattle.boxes.proofs.Laws.{in_kept, length_bodies}
use Rattle.boxes.proofs.Stretches.{stretch_in, stretch_at, stretch_put}

-- ---- the body at place i, from 0, is block i + 1 of the bodies

back : (i : ℕ) → i + 1 - 1 ≡ i
back i = omega arith

bodies_in : (L i r count : ℕ) (bodies : List ℕ) → length bodies ≡ count * L → i + r ≤ count → BlocksIn L r bodies (i + 1)
bodies_in L i r count bodies e h =
    let f : (i + r) * L ≤ count * L = mul-le-mul_right L h in
    record { first = omega arith; last = rw (back i) (omega (arith, add-mul i r L)) }

-- the first i bodies are read: the others, put into the buffer as it is now, give what all of them give
pub record Reading (L : ℕ) (start list bodies nodes : List ℕ) (i : ℕ) : Type 0 where
  pub inside : ListIn L start list
  pub size : length bodies ≡ length list * L
  pub within : i ≤ length list
  pub kept : length nodes ≡ length start
  pub rest : with_bodies L start list bodies ≡ with_bodies L nodes (drop i list) (drop (i * L) bodies)

pub read_none : {L : ℕ} {nodes list bodies : List ℕ} → ListIn L nodes list → length bodies ≡ length list * L → Reading L nodes list bodies nodes 0
read_none {L} h e = record { inside = h; size = e; within = omega arith; kept = refl; rest = rw (zero-mul L) }

module _ {L : ℕ} {start list bodies nodes : List ℕ} {i : ℕ} (w : Reading L start list bodies nodes i) where
  module _ {r : ℕ} (stretch : Stretch list i r) where
    pub read_from : BlocksIn L r bodies (i + 1)
    read_from = bodies_in L i r (length list) bodies w.size stretch.within

    pub read_to : BlocksIn L r nodes (get_or list i 0)
    read_to = stretch_in (in_kept nodes w.kept w.inside) stretch

    pub read_more : Reading L start list bodies (put_mid ((get_or list i 0 - 1) * L) (r * L) nodes (mid_of ((i + 1 - 1) * L) (r * L) bodies)) (i + r)
    read_more =
        let f : (i + r) * L ≤ length list * L = mul-le-mul_right L stretch.within in
        record {
          inside = w.inside;
          size = w.size;
          within = stretch.within;
          kept = length_copied read_from read_to ∙ w.kept;
          rest = rw (back i) (w.rest ∙ stretch_put (in_kept nodes w.kept w.inside) stretch bodies (omega arith) r (omega arith));
        }

  pub read_done : length list ≤ i → nodes ≡ with_bodies L start list bodies
  unfolding with_bodies
  read_done l = sym (w.rest ∙ rw (drop_of_length-le list l))

-- the first i bodies are written: out begins with them
pub record Writing (L : ℕ) (list nodes start out : List ℕ) (i : ℕ) : Type 0 where
  pub inside : ListIn L nodes list
  pub size : length start ≡ length list * L
  pub within : i ≤ length list
  pub kept : length out ≡ length start
  pub is : out ≡ filled (flat_map (block_of L nodes) list) start (i * L)

pub write_none : {L : ℕ} {list nodes out : List ℕ} → ListIn L nodes list → length out ≡ length list * L → Writing L list nodes out out 0
write_none {L} h e = record { inside = h; size = e; within = omega arith; kept = refl; is = rw (zero-mul L) }

module _ {L : ℕ} {list nodes start out : List ℕ} {i : ℕ} (w : Writing L list nodes start out i) where
  module _ {r : ℕ} (stretch : Stretch list i r) where
    pub write_from : BlocksIn L r nodes (get_or list i 0)
    write_from = stretch_in w.inside stretch

    pub write_to : BlocksIn L r out (i + 1)
    write_to = bodies_in L i r (length list) out (w.kept ∙ w.size) stretch.within

    pub write_more : Writing L list nodes start (put_mid ((i + 1 - 1) * L) (r * L) out (mid_of ((get_or list i 0 - 1) * L) (r * L) nodes)) (i + r)
    write_more =
        let b = flat_map (block_of L nodes) list in
        let e = length_bodies L nodes list w.inside in
        let f : (i + r) * L ≤ length list * L = mul-le-mul_right L stretch.within in
        let s = add-mul i r L in
        record {
          inside = w.inside;
          size = w.size;
          within = stretch.within;
          kept = length_copied write_from write_to ∙ w.kept;
          is = rw (back i, ← stretch_at w.inside stretch r (omega arith), w.is, s) (fill_part b start (i * L) (i * L) (r * L) (omega arith) (omega arith) (omega arith));
        }

  pub write_done : length list ≤ i → out ≡ flat_map (block_of L nodes) list
  write_done l =
      let e : i ≡ length list = omega arith in
      w.is ∙ rw e (fill_done (flat_map (block_of L nodes) list) start (length list * L) (omega (arith, length_bodies L nodes list w.inside)) (omega arith))

-- ---- the parts of a box, put one after the other

pub box_written_lem : (family k L : ℕ) (list nodes out : List ℕ)
    → put_mid (8 + length list) (length list * L) (put_mid 8 (length list) (family ∷ k ∷ L % 256 ∷ L / 256 ∷ length list ∷ 0 ∷ 0 ∷ 0 ∷ drop 8 out) list) (flat_map (block_of L nodes) list)
    ≡ box_of family k L list nodes ++ drop (box_length (length list) L) out
unfolding box_of
box_written_lem family k L list nodes out =
    let h = family ∷ k ∷ L % 256 ∷ L / 256 ∷ length list ∷ 0 ∷ 0 ∷ 0 ∷ [] in
    rw (put_next h list out 8 (length list) refl, put_next (h ++ list) (flat_map (block_of L nodes) list) out (8 + length list) (length list * L) (length-append h list))
