-- Numbers in base ten: the digits that `io` gives are the fewest, and how long a word with a number is.
-- Assumes nothing.
use mathlib.Core.Path.{◌≡◌, refl, ap, ◌∙◌}
use mathlib.Core.Bool.{Bool, true, false, cond}
use mathlib.Core.List.{List, []}
use Prim.Native.Nat.{ℕ, zero, suc, ◌+◌, ◌-◌, ◌/◌, ◌^◌, ◌≤◌, ◌<◌}
use native.Mathlib.Nat.{le_trans, pow-le-pow_right}
use native.Mathlib.Decide.{ℕ_discrete, dec_lt}
use native.Mathlib.Omega.{arith}
use borrow.Author.Tests.{lt-ltb, le-ltb}
use lib.Dec.{ltb}
use lib.ListN.{length, length-append}
use Rattle.base.specs.Ranges.{first_from}
use Rattle.io.specs.Digits.{last_digits, IsDigitCount}
use Rattle.base.proofs.Tests.{not_both}
use Rattle.base.proofs.First.{first_of}
use Rattle.planning.specs.Plan.{Step}
use Rattle.listing.specs.Text.{ascii, decimal, field, first_line, step_line, last_line, refusal_line}

length_digits : (b k n : ℕ) → length (last_digits b k n) ≡ k
length_digits b zero n = refl
length_digits b (suc k) n = simp length-append (omega (arith, length_digits b k (n / b)))

-- the first number that passes a test is at most any other that passes
first_most : (test : ℕ → Bool) (j m i : ℕ) → j ≤ i → i < j + m → test i ≡ true → first_from test j m ≤ i
unfolding first_from
first_most test j zero i a b t = omega arith
first_most test j (suc m) i a b t = go (test j) refl (ℕ_discrete j i) (λ h. first_most test (suc j) m i h (omega arith) t)
  where
    go : (p : Bool) → test j ≡ p → Dec (j ≡ i) → (suc j ≤ i → first_from test (suc j) m ≤ i) → cond p j (first_from test (suc j) m) ≤ i
    go true e d later = a
    go false e (yes q) later = absurd (not_both (test j) (ap test q ∙ t) e)
    go false e (no q) later = later (omega arith)

-- ---- the digits of a number

few_digits : (n r : ℕ) → n < 2 ^ 64 → IsDigitCount 10 1 n r → r ≤ 20
few_digits n r h f = go (dec_lt 20 r)
  where
    go : Dec (20 < r) → r ≤ 20
    go (yes l) = absurd (omega (arith, pow-le-pow_right {n = 10} (omega arith) {i = 20} {j = r - 1} (omega arith), f.2 (omega arith)))
    go (no l) = omega arith

pub decimal_is : (n r : ℕ) → n < 2 ^ 64 → IsDigitCount 10 1 n r → last_digits 10 r n ≡ decimal n
unfolding decimal
decimal_is n r h f =
    let l = few_digits n r h f in
    rw (first_of (λ count. ltb n (10 ^ count)) 1 20 r f.0 (omega arith) (lt-ltb n (10 ^ r) f.1)
    (λ i a b. le-ltb n (10 ^ i) (le_trans (pow-le-pow_right {n = 10} (omega arith) {i = i} {j = r - 1} (omega arith)) (f.2 (omega arith)))))

decimal_most : (n m : ℕ) → 1 ≤ m → m ≤ 20 → n < 10 ^ m → length (decimal n) ≤ m
unfolding decimal
decimal_most n m a b h =
    rw length_digits (first_most (λ count. ltb n (10 ^ count)) 1 20 m a (omega arith) (lt-ltb n (10 ^ m) h))

-- ---- a word and a number after it

length-field : (word : List ℕ) (n : ℕ) → length (field word n) ≡ length word + length (decimal n)
unfolding field
length-field word n = length-append word (decimal n)

-- a number of 64 bits has at most 20 digits, a byte 3
wide_field : (word : List ℕ) (n : ℕ) → n < 2 ^ 64 → length (field word n) ≤ length word + 20
wide_field word n h = omega (arith, length-field word n, decimal_most n 20 (omega arith) (omega arith) (omega arith))

pub byte_field : (word : List ℕ) (n : ℕ) → n < 256 → length (field word n) ≤ length word + 3
byte_field word n h = omega (arith, length-field word n, decimal_most n 3 (omega arith) (omega arith) (omega arith))

-- ---- how long the lines are

-- where the longest has room, the line has
pub enough : (at : ℕ) {line most room : ℕ} → line ≤ most → at + most ≤ room → at + line ≤ room
enough at h g = omega arith

pub first_line_most : (family k L live : ℕ) → family < 2 ^ 64 → k < 2 ^ 64 → L < 2 ^ 64 → live < 2 ^ 64 → length (first_line family k L live) ≤ 105
unfolding first_line
first_line_most family k L live f g h i =
    simp length-append (omega (arith, wide_field (ascii "family ") family f, wide_field (ascii " k ") k g, wide_field (ascii " length ") L h, wide_field (ascii " live ") live i))

pub step_line_most : (step : Step) → step.round < 256 → step.node < 256 → step.smaller < 256 → step.larger < 256 → length (step_line step) ≤ 16
unfolding step_line
step_line_most step f g h i =
    simp length-append (omega (arith, byte_field [] step.round f, byte_field (ascii " ") step.node g, byte_field (ascii " ") step.smaller h, byte_field (ascii " ") step.larger i))

pub last_line_most : (steps rounds left : ℕ) → steps < 2 ^ 64 → rounds < 2 ^ 64 → left < 2 ^ 64 → length (last_line steps rounds left) ≤ 81
unfolding last_line
last_line_most steps rounds left f g h =
    simp length-append (omega (arith, wide_field (ascii "steps ") steps f, wide_field (ascii " rounds ") rounds g, wide_field (ascii " left ") left h))

pub refusal_line_most : (number : ℕ) → number < 2 ^ 64 → length (refusal_line number) ≤ 29
unfolding refusal_line
refusal_line_most number f = simp length-append (omega (arith, wide_field (ascii "refused ") number f))
