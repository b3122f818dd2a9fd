-- The block of a node is linear in its column, for blocks of every length and objects of every number of blocks.
-- Assumes nothing.
use mathlib.Core.Path.{◌≡◌, refl, sym, ap, ap₂, ◌∙◌}
use mathlib.Core.Bool.{Bool, true, false, cond}
use mathlib.Core.List.{List, [], ◌∷◌, ◌++◌, map, foldr, map-append}
use mathlib.Core.Logic.{⊎_elim}
use Prim.Native.Nat.{ℕ, zero, suc, ◌+◌, ◌-◌, ◌*◌, ◌/◌, ◌%◌, ◌^◌, ◌≤◌, ◌<◌}
use native.Mathlib.Nat.{le_of_suc-le-suc, not-suc-le-zero, eq-or-lt_of_le, mul-le-mul_right, suc-mul, le_refl, div-eq_of_lt, div_self, pow-suc, mul-mod_left}
use native.Mathlib.Numerals.{add-one}
use native.Mathlib.Omega.{arith}
use lib.Dec.{eqb}
use lib.Pow.{pow_pos, pow-lt, pow-add, shl-shr}
use lib.Bits.{bit_xor, xor_shr, xor_mod, xor_self, xor_zero_r}
use lib.ListN.{length, get_or, replicate, length-take, length-drop, length-replicate, get_or-replicate}
use lib.Seq.{get_or-take, get_or-drop, ext_get_or}
use Rattle.base.specs.Ranges.{those_from}
use Rattle.base.proofs.RangeLaws.{those_more, those_same}
use Rattle.base.proofs.Xor.{xor_middle, xor_third}
use Rattle.blocks.specs.Blocks.{xor_bytes, block_of}
use Rattle.blocks.proofs.XorBytes.{length-xor_bytes, get_or-xor_bytes, xor_bytes_comm, xor_bytes_assoc, xor_bytes_self}
use Rattle.encoding.specs.Matrix.{has_block, node_block}

-- ---- the XOR of those of k numbers that pass a test

-- bit i of a column is set: data block i + 1 is in it
abbrev pub has_bit : ℕ → ℕ → Bool
has_bit column i = eqb (column / 2 ^ i % 2) 1

unfoldable pub xor_over : ℕ → (ℕ → Bool) → (ℕ → ℕ) → ℕ
xor_over zero test f = 0
xor_over (suc k) test f = bit_xor (xor_over k test f) (cond (test k) (f k) 0)

pub xor_over_none : (k : ℕ) (test : ℕ → Bool) (f : ℕ → ℕ) → ((i : ℕ) → i < k → test i ≡ false) → xor_over k test f ≡ 0
unfolding xor_over
xor_over_none zero test f h = refl
xor_over_none (suc k) test f h = rw (h k (omega arith), xor_over_none k test f (λ i l. h i (omega arith)))

-- x and y are digits 0 or 1
digit_xor : (x y : ℕ) → x < 2 → y < 2 → (v : ℕ) → cond (eqb (bit_xor x y) 1) v 0 ≡ bit_xor (cond (eqb x 1) v 0) (cond (eqb y 1) v 0)
digit_xor zero zero hx hy v = refl
digit_xor zero (suc zero) hx hy v = refl
digit_xor (suc zero) zero hx hy v = sym (xor_zero_r v)
digit_xor (suc zero) (suc zero) hx hy v = sym (xor_self v)
digit_xor zero (suc (suc y)) hx hy v = absurd (omega arith)
digit_xor (suc zero) (suc (suc y)) hx hy v = absurd (omega arith)
digit_xor (suc (suc x)) y hx hy v = absurd (omega arith)

-- bit i of a XOR is the XOR of the bits i
pub xor_over_xor : (k a b : ℕ) (f : ℕ → ℕ) → xor_over k (has_bit (bit_xor a b)) f ≡ bit_xor (xor_over k (has_bit a) f) (xor_over k (has_bit b) f)
unfolding xor_over
xor_over_xor zero a b f = refl
xor_over_xor (suc k) a b f =
    rw (xor_over_xor k a b f, xor_shr a b k, xor_mod (a / 2 ^ k) (b / 2 ^ k) 1, digit_xor (a / 2 ^ k % 2) (b / 2 ^ k % 2) (omega arith) (omega arith) (f k))
    (xor_middle (xor_over k (has_bit a) f) (xor_over k (has_bit b) f) (cond (has_bit a k) (f k) 0) (cond (has_bit b k) (f k) 0))

unit-below : (i j : ℕ) → i < j → has_bit (2 ^ i) j ≡ false
unit-below i j h = rw (div-eq_of_lt (pow-lt h))

unit_above : (i j : ℕ) → j < i → has_bit (2 ^ i) j ≡ false
unit_above i j h =
    let e : i ≡ suc (i - suc j) + j = omega arith in
    let p : 2 ^ i / 2 ^ j ≡ 2 ^ (i - suc j) * 2 = ap (λ (n : ℕ). 2 ^ n / 2 ^ j) e ∙ rw (pow-add 2 (suc (i - suc j)) j, shl-shr) (pow-suc 2 (i - suc j)) in
    rw (p, mul-mod_left)

pub xor_over_unit : (k i : ℕ) (f : ℕ → ℕ) → i < k → xor_over k (has_bit (2 ^ i)) f ≡ f i
unfolding xor_over
xor_over_unit zero i f h = absurd (not-suc-le-zero h)
xor_over_unit (suc k) i f h =
    ⊎_elim (λ (e : i ≡ k). rw (e, xor_over_none k (has_bit (2 ^ k)) f (unit_above k), div_self (pow_pos k)))
    (λ (l : i < k). rw (xor_over_unit k i f l, unit-below i k l) (xor_zero_r (f i))) (eq-or-lt_of_le (le_of_suc-le-suc h))

-- ---- the bytes of blocks

-- a block has L bytes, and `byte p` at place p
record Bytes (L : ℕ) (block : List ℕ) (byte : ℕ → ℕ) : Type 0 where
  size : length block ≡ L
  at : (p : ℕ) → p < L → get_or block p 0 ≡ byte p

same_bytes : {L : ℕ} {x y : List ℕ} {f g : ℕ → ℕ} → Bytes L x f → Bytes L y g → ((p : ℕ) → f p ≡ g p) → x ≡ y
same_bytes {x} {y} s t e = ext_get_or 0 x y (s.size ∙ sym t.size) (λ p h. let l = rw s.size at h in s.at p l ∙ e p ∙ sym (t.at p l))

xor_bytes_lem : {L : ℕ} {x y : List ℕ} {f g : ℕ → ℕ} → Bytes L x f → Bytes L y g → Bytes L (xor_bytes x y) (λ p. bit_xor (f p) (g p))
xor_bytes_lem {x} {y} s t =
    record {
      size = length-xor_bytes x y (s.size ∙ sym t.size) ∙ s.size;
      at = λ p h. get_or-xor_bytes x y p (omega (arith, s.size)) (omega (arith, t.size)) ∙ ap₂ bit_xor (s.at p h) (t.at p h);
    }

cond_bytes : {L : ℕ} {x y : List ℕ} {f g : ℕ → ℕ} (b : Bool) → Bytes L x f → Bytes L y g
    → Bytes L (cond b (xor_bytes x y) x) (λ p. bit_xor (f p) (cond b (g p) 0))
cond_bytes true s t = xor_bytes_lem s t
cond_bytes {f} false s t = record { size = s.size; at = λ p h. s.at p h ∙ sym (xor_zero_r (f p)) }

-- ---- the laws of nodes

-- one block more comes last
xor_last : (zeros block : List ℕ) (blocks : List (List ℕ)) → foldr xor_bytes zeros (blocks ++ block ∷ []) ≡ xor_bytes (foldr xor_bytes zeros blocks) block
xor_last zeros block [] = xor_bytes_comm block zeros
xor_last zeros block (b ∷ blocks) = ap (xor_bytes b) (xor_last zeros block blocks) ∙ sym (xor_bytes_assoc b (foldr xor_bytes zeros blocks) block)

pub node_block_more : (k L : ℕ) (object : List ℕ) (column : ℕ)
    → node_block (suc k) L object column ≡ cond (has_bit column k) (xor_bytes (node_block k L object column) (block_of L object (suc k))) (node_block k L object column)
unfolding node_block
node_block_more k L object column = rw (← add-one k) (go (has_bit column k) (ap (has_bit column) back))
  where
    back : k + 1 - 1 ≡ k
    back = omega arith

    front : List ℕ
    front = those_from (has_block column) 1 k

    go : (b : Bool) → has_block column (k + 1) ≡ b
        → node_block (k + 1) L object column ≡ cond b (xor_bytes (node_block k L object column) (block_of L object (k + 1))) (node_block k L object column)
    go true e = rw (those_more (has_block column) k e, map-append (block_of L object) front ((k + 1) ∷ [])) (xor_last (replicate L 0) (block_of L object (k + 1)) (map (block_of L object) front))
    go false e = rw (those_same (has_block column) k e)

module _ (k L : ℕ) (object : List ℕ) (h : length object ≡ k * L) where
  data_bytes : (i : ℕ) → i < k → Bytes L (block_of L object (suc i)) (λ p. get_or object (i * L + p) 0)
  unfolding block_of
  data_bytes i l =
      let e : suc i - 1 ≡ i = omega arith in
      record {
        size = rw e (simp (length-take, length-drop) (omega (arith, suc-mul i L, mul-le-mul_right L l)));
        at = λ p b. rw (e, get_or-take, get_or-drop);
      }

  -- of the first i blocks alone
  first_bytes : (column i : ℕ) → i ≤ k → Bytes L (node_block i L object column) (λ p. xor_over i (has_bit column) (λ j. get_or object (j * L + p) 0))
  unfolding node_block those_from xor_over
  first_bytes column zero l = record { size = length-replicate L 0; at = λ p b. get_or-replicate L p 0 0 b }
  first_bytes column (suc i) l = rw (node_block_more i L object column) (cond_bytes (has_bit column i) (first_bytes column i (omega arith)) (data_bytes i l))

  node_bytes : (column : ℕ) → Bytes L (node_block k L object column) (λ p. xor_over k (has_bit column) (λ i. get_or object (i * L + p) 0))
  node_bytes column = first_bytes column k (le_refl k)

  pub length-node_block : (column : ℕ) → length (node_block k L object column) ≡ L
  length-node_block column = (node_bytes column).size

  pub node_byte : (column p : ℕ) → p < L → get_or (node_block k L object column) p 0 ≡ xor_over k (has_bit column) (λ i. get_or object (i * L + p) 0)
  node_byte column = (node_bytes column).at

  pub node_block_xor : (a b : ℕ) → node_block k L object (bit_xor a b) ≡ xor_bytes (node_block k L object a) (node_block k L object b)
  node_block_xor a b = same_bytes (node_bytes (bit_xor a b)) (xor_bytes_lem (node_bytes a) (node_bytes b)) (λ p. xor_over_xor k a b _)

  pub node_block_unit : (i : ℕ) → i < k → node_block k L object (2 ^ i) ≡ block_of L object (suc i)
  node_block_unit i l = same_bytes (node_bytes (2 ^ i)) (data_bytes i l) (λ p. xor_over_unit k i _ l)

  -- the blocks of related nodes: each is the XOR of the other two, and the three XOR to zero
  module _ (a b c : ℕ) (related : bit_xor (bit_xor a b) c ≡ 0) where
    pub node_block_related : node_block k L object c ≡ xor_bytes (node_block k L object a) (node_block k L object b)
    node_block_related = rw (xor_third a b c related) (node_block_xor a b)

    pub node_block_related_zero : xor_bytes (xor_bytes (node_block k L object a) (node_block k L object b)) (node_block k L object c) ≡ replicate L 0
    node_block_related_zero = rw (← node_block_related, xor_bytes_self, length-node_block)
