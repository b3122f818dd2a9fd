-- Parts of a list: a list filled from the front, and a part that becomes the XOR of two others chunk by chunk.
-- Assumes nothing.
use mathlib.Core.Path.{◌≡◌, refl, sym, ap, ◌∙◌}
use mathlib.Core.List.{List, [], ◌∷◌, ◌++◌, append_assoc, zip_with}
use mathlib.Core.Logic.{◌⊎◌, inl, inr, ⊎_elim}
use Prim.Native.Nat.{ℕ, zero, suc, ◌+◌, ◌-◌, ◌*◌, ◌≤◌, ◌<◌}
use native.Mathlib.Nat.{add_assoc}
use native.Mathlib.Numerals.{add-one}
use native.Mathlib.Decide.{dec_lt}
use native.Mathlib.Omega.{arith}
use lib.Bits.{bit_xor}
use lib.ListN.{length, take, drop, get_or, set, length-take, length-drop, length-append, take-append-drop, get_or-append}
use lib.Seq.{take_all, take_at, drop_at, take-take, take-add, take-append-le, take-append-add, drop-drop, drop-cons, drop-append-le, drop-append-add, length-take-le, set_split, get_or-take, get_or-drop, get_or-append-add}
use borrow.Rule.Slice.PartMut.{mid_of, put_mid, same_len_mid}
use Rattle.base.proofs.Fill.{filled}
use Rattle.blocks.specs.Blocks.{xor_bytes, block_of, with_block}
use Rattle.blocks.specs.Inner.{InBuffer, BlocksIn}
use Rattle.blocks.proofs.BlockLaws.{places}
use Rattle.blocks.proofs.XorBytes.{length-xor_bytes, xor_bytes_comm}

-- a part of the XOR is the XOR of the parts
pub mid_xor_bytes : (at n : ℕ) (a b : List ℕ) → mid_of at n (xor_bytes a b) ≡ xor_bytes (mid_of at n a) (mid_of at n b)
unfolding xor_bytes zip_with
mid_xor_bytes zero zero a b = refl
mid_xor_bytes zero (suc n) [] b = refl
mid_xor_bytes zero (suc n) (x ∷ xs) [] = refl
mid_xor_bytes zero (suc n) (x ∷ xs) (y ∷ ys) = ap (λ (l : List ℕ). bit_xor x y ∷ l) (mid_xor_bytes zero n xs ys)
mid_xor_bytes (suc at) zero a b = refl
mid_xor_bytes (suc at) (suc n) [] b = refl
mid_xor_bytes (suc at) (suc n) (x ∷ xs) [] = xor_bytes_comm [] (mid_of at (suc n) xs)
mid_xor_bytes (suc at) (suc n) (x ∷ xs) (y ∷ ys) = mid_xor_bytes at (suc n) xs ys

-- ---- parts

-- a part of the front does not change with what follows the front
pub mid_front : (u t : List ℕ) (at n : ℕ) → at + n ≤ length u → mid_of at n (u ++ t) ≡ mid_of at n u
mid_front u t at n h = rw (drop-append-le at u t (omega arith), take-append-le n (drop at u) t (simp length-drop (omega arith)))

-- past a front that takes the place of as many elements all is as it was
drop_past : (u t : List ℕ) (m k : ℕ) → length u ≡ k → k ≤ m → drop m (u ++ drop k t) ≡ drop m t
drop_past u t m k e h =
    let f : m ≡ length u + (m - k) = omega arith in
    rw (f, drop-append-add u (drop k t) (m - k), drop-drop (m - k) k t, e)

put_past : (u t v : List ℕ) (d at n : ℕ) → length u ≡ d → put_mid (d + at) n (u ++ t) v ≡ u ++ put_mid at n t v
put_past u t v d at n e = rw (sym e, take-append-add u t at, drop-append-add u t at, append_assoc)

-- a part put after a front that takes the place of as many elements
pub put_next : (u v t : List ℕ) (a n : ℕ) → length u ≡ a → put_mid a n (u ++ drop a t) v ≡ (u ++ v) ++ drop (a + n) t
put_next u v t a n e = rw (take_at u (drop a t) a e, drop_at u (drop a t) a e, drop-drop n a t, append_assoc u v (drop (a + n) t))

-- two parts side by side are one part
pub mid_beside : (s : List ℕ) (at m n : ℕ) → mid_of at (m + n) s ≡ mid_of at m s ++ mid_of (at + m) n s
mid_beside s at m n = rw (take-add m n (drop at s), drop-drop m at s)

pub put_beside : (s u v : List ℕ) (at m n : ℕ) → at ≤ length s → length u ≡ m → put_mid (at + m) n (put_mid at m s u) v ≡ put_mid at (m + n) s (u ++ v)
put_beside s u v at m n h e =
    let f = take at s in
    let l : length (f ++ u) ≡ at + m = simp (length-append, length-take) (omega arith) in
    rw (drop-drop m at s, ← append_assoc f u (drop (at + m) s), put_next (f ++ u) v s (at + m) n l, drop-drop (m + n) at s, append_assoc f u v, append_assoc f (u ++ v), add_assoc at m n)

pub length_mid : (s : List ℕ) (p n : ℕ) → p + n ≤ length s → length (mid_of p n s) ≡ n
length_mid s p n h = simp (length-take, length-drop) (omega arith)

-- so are two parts of one list, put side by side in the same places of another
pub copy_beside : (s d : List ℕ) (at m n : ℕ) → at + m ≤ length s → at ≤ length d → put_mid (at + m) n (put_mid at m d (mid_of at m s)) (mid_of (at + m) n s) ≡ put_mid at (m + n) d (mid_of at (m + n) s)
copy_beside s d at m n h l = put_beside d (mid_of at m s) (mid_of (at + m) n s) at m n l (length_mid s at m h) ∙ ap (put_mid at (m + n) d) (sym (mid_beside s at m n))

-- what stands in a part
pub get_or_mid : (s : List ℕ) (at n j : ℕ) → j < n → get_or (mid_of at n s) j 0 ≡ get_or s (at + j) 0
get_or_mid s at n j h = get_or-take n (drop at s) j 0 h ∙ get_or-drop at s j 0

-- and in a part that is put, before it and after it

module _ (s v : List ℕ) (at n : ℕ) (fits : at + n ≤ length s) (size : length v ≡ n) where
  front : length (take at s) ≡ at
  front = length-take-le at s (omega arith)

  pub put_inside : (j : ℕ) → j < n → get_or (put_mid at n s v) (at + j) 0 ≡ get_or v j 0
  put_inside j h =
      ap (λ (x : ℕ). get_or (put_mid at n s v) (x + j) 0) (sym front)
      ∙ get_or-append-add (take at s) (v ++ drop n (drop at s)) j 0
      ∙ get_or-append v (drop n (drop at s)) 0 j (omega arith)

  pub put_before : (u : ℕ) → u < at → get_or (put_mid at n s v) u 0 ≡ get_or s u 0
  put_before u h = get_or-append (take at s) (v ++ drop n (drop at s)) 0 u (omega (arith, front)) ∙ get_or-take at s u 0 h

  pub put_after : (u : ℕ) → at + n ≤ u → get_or (put_mid at n s v) u 0 ≡ get_or s u 0
  put_after u h =
      let l : length (take at s ++ v) ≡ at + n = length-append (take at s) v ∙ rw (front, size) in
      let e : u ≡ length (take at s ++ v) + (u - (at + n)) = omega arith in
      ap (λ (x : List ℕ). get_or x u 0) (sym (append_assoc (take at s) v (drop n (drop at s))))
      ∙ ap (λ (x : ℕ). get_or ((take at s ++ v) ++ drop n (drop at s)) x 0) e
      ∙ get_or-append-add (take at s ++ v) (drop n (drop at s)) (u - (at + n)) 0
      ∙ rw (drop-drop n at s, get_or-drop (at + n) s (u - (at + n)) 0)
      (ap (λ (x : ℕ). get_or s x 0) (omega arith))

  pub length_put : length (put_mid at n s v) ≡ length s
  length_put = same_len_mid at n s v (size ∙ sym (length_mid s at n fits))

-- ---- a list filled from the front

-- one part more, which may overlap what is done
pub fill_part : (r t : List ℕ) (i at n : ℕ) → at ≤ i → i ≤ at + n → i ≤ length r → put_mid at n (filled r t i) (mid_of at n r) ≡ filled r t (at + n)
fill_part r t i at n h k l =
    let e = length-take-le i r l in
    rw (take-append-le at (take i r) (drop i t) (omega arith), take-take at i r h, drop-drop n at (filled r t i), drop_past (take i r) t (at + n) i e k, take-add at n r, append_assoc)

-- a byte is a part
pub set_byte : (s : List ℕ) (i v : ℕ) → i < length s → set s i v ≡ put_mid i 1 s (v ∷ [])
set_byte s i v h = set_split s i v h ∙ rw (drop-drop 1 i s, add-one)

mid_byte : (s : List ℕ) (i : ℕ) → i < length s → mid_of i 1 s ≡ get_or s i 0 ∷ []
mid_byte s i h = rw (drop-cons s i 0 h)

-- ---- a part that becomes the XOR of two others, which lie apart from it

mid_mid : (s : List ℕ) (p len at n : ℕ) → p + len ≤ length s → at + n ≤ len → mid_of at n (mid_of p len s) ≡ mid_of (p + at) n s
mid_mid s p len at n h k =
    sym (mid_front (mid_of p len s) (drop len (drop p s)) at n (omega (arith, length_mid s p len h)))
    ∙ rw (take-append-drop len (drop p s), drop-drop at p s)

-- what is put at d leaves the parts before and after it as they were
pub mid_apart : (s v : List ℕ) (d k p n : ℕ) → length v ≡ k → d + k ≤ length s → (p + n ≤ d) ⊎ (d + k ≤ p) → mid_of p n (put_mid d k s v) ≡ mid_of p n s
mid_apart s v d k p n e h (inl g) =
    let l = length-take-le d s (omega arith) in
    mid_front (take d s) (v ++ drop k (drop d s)) p n (omega arith)
    ∙ sym (mid_front (take d s) (drop d s) p n (omega arith))
    ∙ rw (take-append-drop d s)
mid_apart s v d k p n e h (inr g) =
    let l : length (take d s ++ v) ≡ d + k = simp (length-append, length-take) (omega arith) in
    rw (← append_assoc, drop-drop k d s, drop_past (take d s ++ v) s p (d + k) l g)

-- the parts of len elements from d and from p on do not meet
abbrev pub Apart : (len d p : ℕ) → Type 0
Apart len d p = (p + len ≤ d) ⊎ (d + len ≤ p)

-- the parts of s from d, a and b on, the first apart from the others
abbrev pub Parts : List ℕ → (len d a b : ℕ) → Type 0
Parts s len d a b = ((d + len ≤ length s) × (a + len ≤ length s) × (b + len ≤ length s)) × (Apart len d a × Apart len d b)

-- the XOR of the parts from a and from b on
abbrev pub xored : List ℕ → (len a b : ℕ) → List ℕ
xored s len a b = xor_bytes (mid_of a len s) (mid_of b len s)

-- t is s with the first i bytes of that XOR put at d
pub record Xored (s : List ℕ) (len d a b : ℕ) (t : List ℕ) (i : ℕ) : Type 0 where
  pub parts : Parts s len d a b
  pub within : i ≤ len
  pub kept : length t ≡ length s
  pub is : t ≡ put_mid d i s (take i (xored s len a b))

pub xor_none : {s : List ℕ} {len d a b : ℕ} → Parts s len d a b → Xored s len d a b s 0
xor_none {s} {d = d} h = record { parts = h; within = omega arith; kept = refl; is = sym (take-append-drop d s) }

module _ {s : List ℕ} {len d a b : ℕ} {t : List ℕ} {i : ℕ} (w : Xored s len d a b t i) where
  abbrev x : List ℕ
  x = xored s len a b

  length_x : length x ≡ len
  length_x =
      let m = length_mid s a len w.parts.0.1 in
      length-xor_bytes (mid_of a len s) (mid_of b len s) (omega (arith, length_mid s b len w.parts.0.2)) ∙ m

  more : (u : List ℕ) (k : ℕ) → k ≤ len → u ≡ put_mid d k s (take k x) → Xored s len d a b u k
  more u k l e =
      let r = length_x in
      record {
        parts = w.parts;
        within = l;
        kept = ap length e ∙ same_len_mid d k s (take k x) (length-take-le k x (omega arith) ∙ sym (length_mid s d k (omega arith)));
        is = e;
      }

  source : (p at n : ℕ) → p + len ≤ length s → Apart len d p → at + n ≤ len → mid_of (p + at) n t ≡ mid_of at n (mid_of p len s)
  source p at n f g l =
      let r = length_x in
      rw (w.is, mid_apart s (take i x) d i (p + at) n (length-take-le i x (omega arith)) (omega arith) (⊎_elim (λ k. inl (omega arith)) (λ k. inr (omega arith)) g)) (sym (mid_mid s p len at n f l))

  -- one part more, which may overlap what is done
  pub xor_part : (at n : ℕ) → at ≤ i → i ≤ at + n → at + n ≤ len
      → Xored s len d a b (put_mid (d + at) n t (xor_bytes (mid_of (a + at) n t) (mid_of (b + at) n t))) (at + n)
  xor_part at n g m l =
      let r = length_x in
      let p = w.parts in
      more _ (at + n) l (
      rw (source a at n p.0.1 p.1.0 l, source b at n p.0.2 p.1.1 l, ← mid_xor_bytes at n (mid_of a len s) (mid_of b len s), w.is)
      (put_past (take d s) (filled x (drop d s) i) (mid_of at n x) d at n (length-take-le d s (omega arith))
      ∙ ap (λ (v : List ℕ). take d s ++ v) (fill_part x (drop d s) i at n g m (omega arith))))

  pub xor_byte : i < len → Xored s len d a b (set t (d + i) (bit_xor (get_or t (a + i) 0) (get_or t (b + i) 0))) (i + 1)
  unfolding xor_bytes zip_with
  xor_byte k =
      rw (set_byte t (d + i) _ (omega arith))
      (rw (mid_byte t (a + i) (omega arith), mid_byte t (b + i) (omega arith)) at (xor_part i 1 (omega arith) (omega arith) (omega arith)))

  pub xor_done : len ≤ i → t ≡ put_mid d len s x
  xor_done g =
      let f : i ≡ len = omega arith in
      let r = length_x in
      rw (w.is, f, take_all len x (omega arith))

-- ---- blocks

blocks_apart : (len j a : ℕ) → 1 ≤ j → 1 ≤ a → (j ≡ a → ⊥) → Apart len ((j - 1) * len) ((a - 1) * len)
blocks_apart len j a hj ha ne = go (dec_lt a j)
  where
    go : Dec (a < j) → Apart len ((j - 1) * len) ((a - 1) * len)
    go (yes l) = inl (places len a j ha l)
    go (no l) = inr (places len j a hj (omega arith))

pub block_parts : {len j a b : ℕ} {s : List ℕ} → (InBuffer len s j × InBuffer len s a × InBuffer len s b) × ((j ≡ a → ⊥) × (j ≡ b → ⊥)) → Parts s len ((j - 1) * len) ((a - 1) * len) ((b - 1) * len)
block_parts {len} {j} {a} {b} (i, n) =
    ((i.0.last, i.1.last, i.2.last), (blocks_apart len j a i.0.first i.1.first n.0, blocks_apart len j b i.0.first i.2.first n.1))

pub put_block : (len : ℕ) (s : List ℕ) (j : ℕ) (v : List ℕ) → put_mid ((j - 1) * len) len s v ≡ with_block len s j v
unfolding with_block
put_block len s j v = rw (drop-drop len ((j - 1) * len) s)

pub length-block_of : {len j : ℕ} {s : List ℕ} → InBuffer len s j → length (block_of len s j) ≡ len
unfolding block_of
length-block_of {len} {j} {s} h = length_mid s ((j - 1) * len) len h.last

-- blocks copied from another buffer leave the length as it was
pub length_copied : {L count a b : ℕ} {source target : List ℕ} → BlocksIn L count source a → BlocksIn L count target b
    → length (put_mid ((b - 1) * L) (count * L) target (mid_of ((a - 1) * L) (count * L) source)) ≡ length target
length_copied {L} {count} {a} {b} {source} {target} h g =
    same_len_mid ((b - 1) * L) (count * L) target (mid_of ((a - 1) * L) (count * L) source)
    (length_mid source ((a - 1) * L) (count * L) h.last ∙ sym (length_mid target ((b - 1) * L) (count * L) g.last))
