-- Stretches of a list of nodes: the bodies of nodes whose numbers follow each other are one part of the bodies and one of a nodes buffer.
-- Assumes nothing.
use mathlib.Core.Path.{◌≡◌, ap, ◌∙◌}
use mathlib.Core.List.{List, flat_map}
use Prim.Native.Nat.{ℕ, zero, suc, ◌+◌, ◌-◌, ◌*◌, ◌≤◌, ◌<◌}
use native.Mathlib.Nat.{zero-mul, suc-mul, add-mul, add-zero, mul-le-mul_right}
use native.Mathlib.Decide.{dec_lt}
use native.Mathlib.Omega.{arith}
use lib.ListN.{length, get_or, drop, take-append-drop}
use lib.Seq.{drop-cons, drop-drop}
use borrow.Rule.Slice.PartMut.{mid_of, put_mid}
use Rattle.blocks.specs.Blocks.{block_of, with_block}
use Rattle.blocks.specs.Inner.{BlocksIn}
use Rattle.blocks.proofs.PartLaws.{put_block, length_mid, mid_beside, put_beside}
use Rattle.boxes.specs.Bodies.{with_bodies}
use Rattle.boxes.specs.Inner.{ListIn, Stretch}
use Rattle.boxes.proofs.Laws.{body_at}

-- ---- a stretch is found number by number

pub stretch_one : (list : List ℕ) (i : ℕ) → i < length list → Stretch list i 1
stretch_one list i l =
    record { some = omega arith; within = omega arith; each = λ t s. let e : t ≡ 0 = omega arith in rw (e, add-zero i, add-zero (get_or list i 0)) }

pub stretch_more : {list : List ℕ} {i r : ℕ} → Stretch list i r → i + r < length list → get_or list (i + r) 0 ≡ get_or list i 0 + r → Stretch list i (r + 1)
stretch_more {list} {i} {r} w l e = record { some = omega arith; within = omega arith; each = λ t s. go t s (dec_lt t r) }
  where
    go : (t : ℕ) → t < r + 1 → Dec (t < r) → get_or list (i + t) 0 ≡ get_or list i 0 + t
    go t s (yes h) = w.each t h
    go t s (no h) = let f : t ≡ r = omega arith in rw f e

-- ---- where the block of the node m after node j begins

place_after : (L j m : ℕ) → 1 ≤ j → (j + m - 1) * L ≡ (j - 1) * L + m * L
place_after L j m h = let e : j + m - 1 ≡ j - 1 + m = omega arith in rw e (add-mul (j - 1) m L)

module _ {L : ℕ} {nodes list : List ℕ} {i r : ℕ} (inside : ListIn L nodes list) (stretch : Stretch list i r) where
  first_node : 1 ≤ get_or list i 0
  first_node = (inside.each i (omega arith)).first

  -- the blocks of the stretch lie in the nodes buffer
  pub stretch_in : BlocksIn L r nodes (get_or list i 0)
  stretch_in =
      let m = r - 1 in
      let b = (inside.each (i + m) (omega arith)).last in
      let e = stretch.each m (omega arith) in
      let s : r ≡ suc m = omega arith in
      record { first = first_node; last = rw (s, suc-mul m L) (omega (arith, rw (e, place_after L (get_or list i 0) m first_node) at b)) }

  -- the bodies of its first m nodes are one part of the bodies, and one of the nodes buffer
  pub stretch_at : (m : ℕ) → m ≤ r → mid_of (i * L) (m * L) (flat_map (block_of L nodes) list) ≡ mid_of ((get_or list i 0 - 1) * L) (m * L) nodes
  unfolding block_of
  stretch_at zero h = rw (zero-mul L)
  stretch_at (suc m) h =
      let b = flat_map (block_of L nodes) list in
      let p = (get_or list i 0 - 1) * L in
      rw (suc-mul m L, mid_beside b (i * L) (m * L) L, mid_beside nodes p (m * L) L, stretch_at m (omega arith), ← add-mul i m L, body_at L nodes list (i + m) inside (omega arith), stretch.each m h, place_after L (get_or list i 0) m first_node)

  -- a body put after the bodies of the first m nodes of the stretch
  put_after : (bodies : List ℕ) → (i + r) * L ≤ length bodies → (m : ℕ) → m < r
      → with_block L (put_mid ((get_or list i 0 - 1) * L) (m * L) nodes (mid_of (i * L) (m * L) bodies)) (get_or list (i + m) 0) (mid_of ((i + m) * L) L bodies)
      ≡ put_mid ((get_or list i 0 - 1) * L) (m * L + L) nodes (mid_of (i * L) (m * L + L) bodies)
  put_after bodies f m h =
      let p = (get_or list i 0 - 1) * L in
      let u = mid_of (i * L) (m * L) bodies in
      let v = mid_of ((i + m) * L) L bodies in
      let g : (i + m) * L ≤ (i + r) * L = mul-le-mul_right L (omega arith) in
      let l : length u ≡ m * L = length_mid bodies (i * L) (m * L) (omega (arith, add-mul i m L)) in
      let q : (get_or list (i + m) 0 - 1) * L ≡ p + m * L = rw (stretch.each m h) (place_after L (get_or list i 0) m first_node) in
      rw (mid_beside bodies (i * L) (m * L) L, ← add-mul i m L, ← put_block L (put_mid p (m * L) nodes u) (get_or list (i + m) 0) v, q)
      (put_beside nodes u v p (m * L) L (omega (arith, stretch_in.last)) l)

  -- and putting them one by one is putting that part
  pub stretch_put : (bodies : List ℕ) → (i + r) * L ≤ length bodies → (m : ℕ) → m ≤ r
      → with_bodies L nodes (drop i list) (drop (i * L) bodies)
      ≡ with_bodies L (put_mid ((get_or list i 0 - 1) * L) (m * L) nodes (mid_of (i * L) (m * L) bodies)) (drop (i + m) list) (drop ((i + m) * L) bodies)
  unfolding with_bodies
  stretch_put bodies f zero h = rw (zero-mul L, add-zero i, take-append-drop)
  stretch_put bodies f (suc m) h =
      let e : i + suc m ≡ suc (i + m) = omega arith in
      stretch_put bodies f m (omega arith)
      ∙ rw (e, suc-mul m L, suc-mul (i + m) L, ← drop-drop L ((i + m) * L) bodies, drop-cons list (i + m) 0 (omega arith))
      (ap (λ (n : List ℕ). with_bodies L n (drop (suc (i + m)) list) (drop L (drop ((i + m) * L) bodies))) (put_after bodies f m h))
