-- XOR of numbers: a commutative group in which every number undoes itself.
-- Assumes nothing.
use mathlib.Core.Path.{◌≡◌, refl, sym, ap, ap₂, ◌∙◌}
use Prim.Native.Nat.{ℕ, ◌+◌, ◌*◌, ◌/◌, ◌%◌}
use native.Mathlib.Nat.{mod-lt, zero-lt-suc, le_of_suc-le-suc, not-suc-le-zero, div-add-mod'}
use Prim.Native.Nat.{zero, suc, ◌<◌}
use lib.Arith.{bin_ind}
use lib.Bits.{bit_xor, xor_shr, xor_mod, xor_comm, xor_self, xor_zero_r}

-- on the digits 0 and 1
digit_assoc : (a b c : ℕ) → a < 2 → b < 2 → c < 2 → bit_xor (bit_xor a b) c ≡ bit_xor a (bit_xor b c)
digit_assoc zero b c ha hb hc = refl
digit_assoc (suc zero) zero c ha hb hc = refl
digit_assoc (suc zero) (suc zero) zero ha hb hc = refl
digit_assoc (suc zero) (suc zero) (suc zero) ha hb hc = refl
digit_assoc (suc zero) (suc zero) (suc (suc c)) ha hb hc = absurd (not-suc-le-zero (le_of_suc-le-suc (le_of_suc-le-suc hc)))
digit_assoc (suc zero) (suc (suc b)) c ha hb hc = absurd (not-suc-le-zero (le_of_suc-le-suc (le_of_suc-le-suc hb)))
digit_assoc (suc (suc a)) b c ha hb hc = absurd (not-suc-le-zero (le_of_suc-le-suc (le_of_suc-le-suc ha)))

digit : (a : ℕ) → a % 2 < 2
digit a = mod-lt a (zero-lt-suc 1)

by_digits : (a b : ℕ) → a / 2 ≡ b / 2 → a % 2 ≡ b % 2 → a ≡ b
by_digits a b h d = sym (div-add-mod' a 2) ∙ ap₂ (λ (x y : ℕ). x * 2 + y) h d ∙ div-add-mod' b 2

half : (a b : ℕ) → bit_xor a b / 2 ≡ bit_xor (a / 2) (b / 2)
half a b = xor_shr a b 1

low : (a b : ℕ) → bit_xor a b % 2 ≡ bit_xor (a % 2) (b % 2)
low a b = xor_mod a b 1

pub xor_assoc : (a b c : ℕ) → bit_xor (bit_xor a b) c ≡ bit_xor a (bit_xor b c)
xor_assoc =
    bin_ind (λ (a : ℕ). (b c : ℕ) → bit_xor (bit_xor a b) c ≡ bit_xor a (bit_xor b c)) (λ b c. refl)
    (λ a ih b c. by_digits (bit_xor (bit_xor a b) c) (bit_xor a (bit_xor b c))
    (half (bit_xor a b) c ∙ ap (λ (x : ℕ). bit_xor x (c / 2)) (half a b) ∙ ih (b / 2) (c / 2)
    ∙ ap (bit_xor (a / 2)) (sym (half b c)) ∙ sym (half a (bit_xor b c)))
    (low (bit_xor a b) c ∙ ap (λ (x : ℕ). bit_xor x (c % 2)) (low a b) ∙ digit_assoc (a % 2) (b % 2) (c % 2) (digit a) (digit b) (digit c)
    ∙ ap (bit_xor (a % 2)) (sym (low b c)) ∙ sym (low a (bit_xor b c))))

pub xor_cancel : (a b : ℕ) → bit_xor a (bit_xor a b) ≡ b
xor_cancel a b = sym (xor_assoc a a b) ∙ ap (λ (x : ℕ). bit_xor x b) (xor_self a)

-- numbers that give the same XOR with a are equal
pub xor_same : (a b c : ℕ) → bit_xor a b ≡ bit_xor a c → b ≡ c
xor_same a b c h = sym (xor_cancel a b) ∙ ap (bit_xor a) h ∙ xor_cancel a c

pub xor_left_comm : (a b c : ℕ) → bit_xor a (bit_xor b c) ≡ bit_xor b (bit_xor a c)
xor_left_comm a b c = sym (xor_assoc a b c) ∙ ap (λ (x : ℕ). bit_xor x c) (xor_comm a b) ∙ xor_assoc b a c

-- the two in the middle change places
pub xor_middle : (a b c d : ℕ) → bit_xor (bit_xor a b) (bit_xor c d) ≡ bit_xor (bit_xor a c) (bit_xor b d)
xor_middle a b c d = xor_assoc a b (bit_xor c d) ∙ ap (bit_xor a) (xor_left_comm b c d) ∙ sym (xor_assoc a c (bit_xor b d))

-- a ^ b ^ c is 0 exactly when c is a ^ b
pub xor_third : (a b c : ℕ) → bit_xor (bit_xor a b) c ≡ 0 → c ≡ bit_xor a b
xor_third a b c h = sym (xor_cancel (bit_xor a b) c) ∙ ap (bit_xor (bit_xor a b)) h ∙ xor_zero_r (bit_xor a b)

pub xor_third_of : (a b c : ℕ) → c ≡ bit_xor a b → bit_xor (bit_xor a b) c ≡ 0
xor_third_of a b c h = ap (bit_xor (bit_xor a b)) h ∙ xor_self (bit_xor a b)
