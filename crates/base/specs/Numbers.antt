-- Lists of numbers: what holds of each of them, and the XOR of what they stand for; and numbers that count from 1.
use mathlib.Core.List.{List, foldr, map}
use Rattle.std.specs.Prelude.{ℕ, zero, suc, ◌<◌, Option, None, Some, length, get_or}
use Rattle.std.specs.Int.Bits.{bit_xor}

-- P holds of each number of a list
abbrev pub Each : (ℕ → Type 0) → List ℕ → Type 0
Each P list = (i : ℕ) → i < length list → P (get_or list i 0)

-- the XOR of the values of a list's numbers; 0 where there are none
abbrev pub xor_of : (ℕ → ℕ) → List ℕ → ℕ
xor_of value list = foldr bit_xor 0 (map value list)

-- what has a number, from 1; none for 0
abbrev pub numbered : ℕ → Option ℕ
numbered zero = None
numbered (suc n) = Some (suc n)
