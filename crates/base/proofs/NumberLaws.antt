-- Numbers that count from 1.
-- Assumes nothing.
use mathlib.Core.Path.{◌≡◌, refl}
use Prim.Native.Nat.{ℕ, zero, suc, ◌+◌}
use native.Mathlib.Numerals.{add-one}
use native.Mathlib.Omega.{arith}
use Rattle.std.specs.Prelude.{None, Some}
use Rattle.base.specs.Numbers.{numbered}

pub numbered_next : (i : ℕ) → Some (i + 1) ≡ numbered (i + 1)
numbered_next i = rw (add-one i)

pub numbered_some : (n : ℕ) → (n ≡ 0 → ⊥) → Some n ≡ numbered n
numbered_some zero h = absurd (h refl)
numbered_some (suc n) h = refl

pub numbered_none : (n : ℕ) → n ≡ 0 → None ≡ numbered n
numbered_none n e = rw e

-- the number of what has one, and 0 of what has none
pub numbered_is : (n : ℕ) {i : ℕ} → Some i ≡ numbered n → (i ≡ n) × (i ≡ 0 → ⊥)
numbered_is zero e = grind arith
numbered_is (suc n) e = (grind arith, grind arith)

pub numbered_not : (n : ℕ) → None ≡ numbered n → n ≡ 0
numbered_not zero e = refl
numbered_not (suc n) e = grind arith
