-- Ranges of numbers: from a least to a most, and j, j + 1, .., of which there are m, with a test of them or a value for each.
use Rattle.std.specs.Prelude.{Bool, cond, ◌||◌, List, [], ◌∷◌, ℕ, zero, suc, ltb}

-- the number is below the least or above the most
abbrev pub outside : ℕ → ℕ → ℕ → Bool
outside least most number = ltb number least || ltb most number

-- of the numbers from j on the first that passes; 0 where none does
unfoldable pub first_from : (ℕ → Bool) → ℕ → ℕ → ℕ
first_from test j zero = 0
first_from test j (suc m) = let later = first_from test (suc j) m in cond (test j) j later

-- those of them that pass, rising
unfoldable pub those_from : (ℕ → Bool) → ℕ → ℕ → List ℕ
those_from test j zero = []
those_from test j (suc m) = let later = those_from test (suc j) m in cond (test j) (j ∷ later) later

module _ {A : Type 0} where
  -- a value for each of them
  unfoldable pub list_from : (ℕ → A) → ℕ → ℕ → List A
  list_from g j zero = []
  list_from g j (suc m) = g j ∷ list_from g (suc j) m
