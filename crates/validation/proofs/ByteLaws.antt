-- The four bytes of a step.
-- Assumes nothing.
use mathlib.Core.Path.{◌≡◌, refl}
use mathlib.Core.List.{List, [], ◌∷◌}
use Prim.Native.Nat.{ℕ}
use native.Mathlib.Omega.{arith}
use lib.ListN.{length, get_or, drop}

-- those after the first
pub three_bytes : (list : List ℕ) → length list ≡ 4 → drop 1 list ≡ get_or list 1 0 ∷ get_or list 2 0 ∷ get_or list 3 0 ∷ []
three_bytes [] h = absurd (omega arith)
three_bytes (w ∷ []) h = absurd (omega arith)
three_bytes (w ∷ x ∷ []) h = absurd (omega arith)
three_bytes (w ∷ x ∷ y ∷ []) h = absurd (omega arith)
three_bytes (w ∷ x ∷ y ∷ z ∷ []) h = refl
three_bytes (w ∷ x ∷ y ∷ z ∷ v ∷ list) h = absurd (omega arith)
