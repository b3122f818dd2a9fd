-- The XOR over a column's digits of equal numbers, of zeros, and of the powers of two, which gives the column back.
-- Assumes nothing.
use mathlib.Core.Path.{◌≡◌, refl, sym, ap, ◌∙◌}
use mathlib.Core.Bool.{Bool, true, false, cond}
use Prim.Native.Nat.{ℕ, zero, suc, ◌*◌, ◌/◌, ◌%◌, ◌^◌, ◌<◌}
use native.Mathlib.Nat.{mod-lt, mod-eq_of_lt}
use native.Mathlib.Omega.{arith}
use lib.Bits.{xor_comm, xor_shifted}
use lib.Dec.{eqb}
use lib.Pow.{pow_pos, mod-pow-add}
use Rattle.encoding.proofs.Linear.{has_bit, xor_over}

pub xor_over_same : (k : ℕ) (test : ℕ → Bool) (f g : ℕ → ℕ) → ((i : ℕ) → i < k → f i ≡ g i) → xor_over k test f ≡ xor_over k test g
unfolding xor_over
xor_over_same zero test f g h = refl
xor_over_same (suc k) test f g h = rw (h k (omega arith), xor_over_same k test f g (λ i l. h i (omega arith)))

pub xor_over_zeros : (k : ℕ) (test : ℕ → Bool) → xor_over k test (λ i. 0) ≡ 0
unfolding xor_over
xor_over_zeros zero test = refl
xor_over_zeros (suc k) test = rw (xor_over_zeros k test) (either_way (test k) 0)
  where
    either_way : (b : Bool) (v : ℕ) → cond b v v ≡ v
    either_way true v = refl
    either_way false v = refl

-- a digit's worth
worth : (digit v : ℕ) → digit < 2 → cond (eqb digit 1) v 0 ≡ digit * v
worth zero v h = omega arith
worth (suc zero) v h = omega arith
worth (suc (suc digit)) v h = absurd (omega arith)

low_digits : (k x : ℕ) → xor_over k (has_bit x) (λ i. 2 ^ i) ≡ x % 2 ^ k
unfolding xor_over
low_digits zero x = omega arith
low_digits (suc k) x =
    rw (low_digits k x, worth (x / 2 ^ k % 2) (2 ^ k) (omega arith))
    (xor_comm (x % 2 ^ k) (x / 2 ^ k % 2 * 2 ^ k) ∙ xor_shifted (x / 2 ^ k % 2) k (x % 2 ^ k) (mod-lt x (pow_pos k))
    ∙ sym (mod-pow-add x 1 k) ∙ ap (λ (m : ℕ). x % 2 ^ m) (omega arith))

-- a number of k digits is the XOR of what its digits are worth
pub all_digits : (k x : ℕ) → x < 2 ^ k → xor_over k (has_bit x) (λ i. 2 ^ i) ≡ x
all_digits k x h = low_digits k x ∙ mod-eq_of_lt h
