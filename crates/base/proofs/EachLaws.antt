-- What holds of each number of a list: of one number more, of lists put together, and of the parts of one.
-- Assumes nothing.
use mathlib.Core.List.{List, [], ◌∷◌, ◌++◌}
use Prim.Native.Nat.{ℕ, zero, suc}
use native.Mathlib.Omega.{arith}
use lib.ListN.{take, drop}
use Rattle.base.specs.Numbers.{Each}

module _ (P : ℕ → Type 0) where
  pub each_none : Each P []
  each_none i h = absurd (omega arith)

  pub each_cons : (x : ℕ) (list : List ℕ) → P x → Each P list → Each P (x ∷ list)
  each_cons x list p q zero h = p
  each_cons x list p q (suc i) h = q i (omega arith)

  pub each_first : (x : ℕ) (list : List ℕ) → Each P (x ∷ list) → P x
  each_first x list p = p 0 (omega arith)

  pub each_rest : (x : ℕ) (list : List ℕ) → Each P (x ∷ list) → Each P list
  each_rest x list p i h = p (suc i) (omega arith)

  pub each_append : (a b : List ℕ) → Each P a → Each P b → Each P (a ++ b)
  each_append [] b p q = q
  each_append (x ∷ a) b p q = each_cons x (a ++ b) (each_first x a p) (each_append a b (each_rest x a p) q)

  pub each_take : (m : ℕ) (list : List ℕ) → Each P list → Each P (take m list)
  each_take zero list p = each_none
  each_take (suc m) [] p = each_none
  each_take (suc m) (x ∷ list) p = each_cons x (take m list) (each_first x list p) (each_take m list (each_rest x list p))

  pub each_drop : (m : ℕ) (list : List ℕ) → Each P list → Each P (drop m list)
  each_drop zero list p = p
  each_drop (suc m) [] p = each_none
  each_drop (suc m) (x ∷ list) p = each_drop m list (each_rest x list p)
