-- The lowest set bit of a number, and what is left without it.
-- Assumes nothing.
use mathlib.Core.Path.{◌≡◌, sym, ap, ap₂, ◌∙◌, subst}
use mathlib.Core.Logic.{⊎_elim}
use Prim.Native.Nat.{ℕ, zero, suc, ◌+◌, ◌-◌, ◌*◌, ◌/◌, ◌%◌, ◌^◌, ◌<◌}
use native.Mathlib.Nat.{pow-suc, mul_assoc, mul_comm, mul-one, one-mul, add-mul, mul-div_cancel, mul-mod_left, mod_self, mul-add-mod_self_right, zero-lt-suc, le_of_suc-le-suc, not-suc-le-zero, eq-zero-or-pos}
use native.Mathlib.Decide.{dec_lt}
use native.Mathlib.Omega.{arith}
use lib.Arith.{bin_ind}
use lib.Count.{count_trailing_zeros}
use lib.Pow.{pow_pos, pow-lt, pow_mono, pow-add}
use lib.Bits.{bit_xor, bit_and, xor_shifted, and_mask, and_block, and_self}

-- an odd multiple of 2 ^ i, of which 2 ^ i is the lowest bit
abbrev pub odd_multiple : ℕ → ℕ → ℕ
odd_multiple above i = (above * 2 + 1) * 2 ^ i

half : (x : ℕ) → x * 2 / 2 ≡ x
half x = mul-div_cancel x (zero-lt-suc 1)

twice : (m i : ℕ) → odd_multiple m (suc i) ≡ odd_multiple m i * 2
twice m i = ap (λ (p : ℕ). (m * 2 + 1) * p) (pow-suc 2 i) ∙ sym (mul_assoc (m * 2 + 1) (2 ^ i) 2)

pub lowest_of : (w above i : ℕ) → i < w → count_trailing_zeros w (odd_multiple above i) ≡ i
unfolding count_trailing_zeros
lowest_of zero m i h = absurd (not-suc-le-zero h)
lowest_of (suc w) m zero h =
    let e : odd_multiple m 0 ≡ m * 2 + 1 = mul-one (m * 2 + 1) in
    rw (e, mul-add-mod_self_right m 2 1)
lowest_of (suc w) m (suc i) h = rw (twice m i, mul-mod_left (odd_multiple m i) 2, half (odd_multiple m i), lowest_of w m i (le_of_suc-le-suc h))

pub odd_split : (m i : ℕ) → odd_multiple m i ≡ m * 2 ^ suc i + 2 ^ i
odd_split m i = add-mul (m * 2) 1 (2 ^ i) ∙ ap₂ (λ (x y : ℕ). x + y) (mul_assoc m 2 (2 ^ i) ∙ ap (λ (x : ℕ). m * x) (mul_comm 2 (2 ^ i) ∙ sym (pow-suc 2 i))) (one-mul (2 ^ i))

pub pow_below : (i k : ℕ) → 2 ^ i < 2 ^ k → i < k
pow_below i k h = go (dec_lt i k)
  where
    go : Dec (i < k) → i < k
    go (yes l) = l
    go (no g) = absurd (omega (arith, pow_mono {i = k} {j = i} (omega arith)))

-- a number above 0 is an odd multiple of a power of two
record Odd (x : ℕ) : Type 0 where
  above : ℕ
  bit : ℕ
  is : x ≡ odd_multiple above bit

odd : (x : ℕ) → 0 < x → Odd x
odd = bin_ind (λ (x : ℕ). 0 < x → Odd x) (λ h. absurd (not-suc-le-zero h)) step
  where
    step : (x : ℕ) → (0 < x / 2 → Odd (x / 2)) → 0 < x → Odd x
    step x ih h = ⊎_elim even uneven (eq-zero-or-pos (x % 2))
      where
        even : x % 2 ≡ 0 → Odd x
        even e =
            let o : Odd (x / 2) = ih (omega arith) in
            let d : x ≡ x / 2 * 2 = omega arith in
            record { above = o.above; bit = suc o.bit; is = d ∙ ap (λ (y : ℕ). y * 2) o.is ∙ sym (twice o.above o.bit) }

        uneven : 0 < x % 2 → Odd x
        uneven u = let e : x ≡ x / 2 * 2 + 1 = omega arith in record { above = x / 2; bit = 0; is = e ∙ sym (mul-one (x / 2 * 2 + 1)) }

-- the lowest bit of a number of w bits, as the code finds it, and the bits above it
pub record Lowest (w x : ℕ) : Type 0 where
  pub above : ℕ
  pub split : x ≡ above * 2 ^ suc (count_trailing_zeros w x) + 2 ^ count_trailing_zeros w x
  pub within : (k : ℕ) → x < 2 ^ k → count_trailing_zeros w x < k
  pub joined : bit_xor (x - 2 ^ count_trailing_zeros w x) (2 ^ count_trailing_zeros w x) ≡ x

pub lowest : (w x : ℕ) → 0 < x → x < 2 ^ w → Lowest w x
lowest w x h b =
    record {
      above = o.above;
      split = parts ∙ ap (λ (t : ℕ). o.above * 2 ^ suc t + 2 ^ t) at_bit;
      within = λ k l. subst (λ (t : ℕ). t < k) at_bit (inside k l);
      joined = subst (λ (t : ℕ). bit_xor (x - 2 ^ t) (2 ^ t) ≡ x) at_bit together;
    }
  where
    o : Odd x
    o = odd x h

    parts : x ≡ o.above * 2 ^ suc o.bit + 2 ^ o.bit
    parts = o.is ∙ odd_split o.above o.bit

    inside : (k : ℕ) → x < 2 ^ k → o.bit < k
    inside k l = pow_below o.bit k (omega (arith, parts))

    at_bit : o.bit ≡ count_trailing_zeros w x
    at_bit = sym (ap (count_trailing_zeros w) o.is ∙ lowest_of w o.above o.bit (inside w b))

    rest : x - 2 ^ o.bit ≡ o.above * 2 ^ suc o.bit
    rest = omega (arith, parts)

    together : bit_xor (x - 2 ^ o.bit) (2 ^ o.bit) ≡ x
    together = rw rest (xor_shifted o.above (suc o.bit) (2 ^ o.bit) (pow-lt (omega arith)) ∙ sym parts)

-- without it: what the number and the one before it have in common
pub without_lowest : (w x : ℕ) → 0 < x → x < 2 ^ w → bit_and x (x - 1) ≡ x - 2 ^ count_trailing_zeros w x
without_lowest w x h b =
    let l = lowest w x h b in
    let t = count_trailing_zeros w x in
    let high = l.above * 2 ^ suc t in
    let low : bit_and (2 ^ t) (2 ^ t - 1) ≡ 0 = and_mask (2 ^ t) t ∙ mod_self (2 ^ t) in
    let one = pow_pos t in
    let less : x - 1 ≡ high + (2 ^ t - 1) = omega (arith, l.split, one) in
    let rest : x - 2 ^ t ≡ high = omega (arith, l.split) in
    ap₂ bit_and l.split less ∙ and_block (suc t) l.above l.above (2 ^ t) (2 ^ t - 1) (pow-lt (omega arith)) (omega (arith, pow-suc 2 t, one))
    ∙ rw (and_self l.above, low) (omega (arith, rest))

-- the lowest bit of a number with one bit, and with two
pub lowest_power : (w i : ℕ) → i < w → count_trailing_zeros w (2 ^ i) ≡ i
lowest_power w i h = ap (count_trailing_zeros w) (sym (one-mul (2 ^ i))) ∙ lowest_of w 0 i h

pub lowest_sum : (w i j : ℕ) → i < j → i < w → count_trailing_zeros w (2 ^ i + 2 ^ j) ≡ i
lowest_sum w i j h g = ap (count_trailing_zeros w) split ∙ lowest_of w (2 ^ (j - suc i)) i g
  where
    top : 2 ^ (j - suc i) * 2 ^ suc i ≡ 2 ^ j
    top = sym (pow-add 2 (j - suc i) (suc i)) ∙ ap (λ (x : ℕ). 2 ^ x) (omega arith)

    split : 2 ^ i + 2 ^ j ≡ odd_multiple (2 ^ (j - suc i)) i
    split = omega (arith, odd_split (2 ^ (j - suc i)) i, top)
