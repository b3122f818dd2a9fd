-- Places in a matrix that stands row by row: byte j of row i, from 0, of rows of n bytes, is at i × n + j.
-- Assumes nothing.
use mathlib.Core.Path.{◌≡◌, ◌∙◌}
use Prim.Native.Nat.{ℕ, zero, suc, ◌+◌, ◌*◌, ◌/◌, ◌%◌, ◌≤◌, ◌<◌}
use native.Mathlib.Nat.{add-zero, mul_comm, suc-mul, mul-zero, mul-le-mul_right, mul-add-div_right, mul-add-mod_self_right, div-eq_of_lt, mod-eq_of_lt, mod-lt, div-lt_iff_lt-mul, div-add-mod'}
use native.Mathlib.Omega.{arith}

-- its row and its place in the row
pub place_div : (i j n : ℕ) → j < n → (i * n + j) / n ≡ i
place_div i j n h = mul-add-div_right (omega arith) i j ∙ rw (div-eq_of_lt h, add-zero i)

pub place_mod : (i j n : ℕ) → j < n → (i * n + j) % n ≡ j
place_mod i j n h = mul-add-mod_self_right i n j ∙ mod-eq_of_lt h

-- row i ends where row i + 1 begins, and m rows have m × n bytes
pub row_end : (i n m : ℕ) → i < m → i * n + n ≤ m * n
row_end i n m h =
    let b : suc i * n ≤ m * n = mul-le-mul_right n h in
    rw (suc-mul i n) at b

pub place_lt : (i j m n : ℕ) → i < m → j < n → i * n + j < n * m
place_lt i j m n h g = rw (mul_comm n m) (omega (arith, row_end i n m h))

-- every place is of a row and a place in it
pub record PlaceOf (u m n : ℕ) : Type 0 where
  pub row : u / n < m
  pub within : u % n < n
  pub is : u / n * n + u % n ≡ u

pub place_of : (u m n : ℕ) → u < n * m → PlaceOf u m n
place_of u m zero h = absurd (omega (arith, rw (mul_comm zero m, mul-zero m) at h))
place_of u m (suc n) h =
    let p : 0 < suc n = omega arith in
    record { row = (div-lt_iff_lt-mul p).1 (rw (mul_comm m (suc n)) h); within = mod-lt u p; is = div-add-mod' u (suc n) }
