-- Refusals 1 to 3: a family, its k and L.
use Rattle.std.specs.Prelude.{ℕ, List, [], ◌∷◌}
use Rattle.base.specs.Ranges.{outside}
use Rattle.families.specs.Families.{family_of, least_k, most_k}
use Rattle.checks.specs.Checks.{Check, ◌gives◌}

-- the largest L (document 02, K2)
abbrev pub most_l : ℕ
most_l = 1536

-- 1 family unknown, 2 k outside its family's range, 3 L is 0 or above the largest
unfoldable pub parameter_checks : ℕ → ℕ → ℕ → List Check
parameter_checks family k L =
    (outside 1 3 family gives 1)
    ∷ (outside (least_k (family_of family)) (most_k (family_of family)) k gives 2)
    ∷ (outside 1 most_l L gives 3)
    ∷ []
