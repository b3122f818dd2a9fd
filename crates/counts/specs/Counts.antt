-- Counts, one for each of the numbers 0 to 255 (document 02, K8: how often each node's block was read).
use Rattle.std.specs.Prelude.{ℕ, ◌+◌, Bool, List, [], ◌∷◌, ltb, get_or, set, replicate}
use Rattle.lists.specs.Lists.{passes_outside}

-- every count 0
abbrev pub no_counts : List ℕ
no_counts = replicate 256 0

-- the count of a number
abbrev pub count_of : List ℕ → ℕ → ℕ
count_of counts j = get_or counts j 0

-- one more for a number
abbrev pub one_more : List ℕ → ℕ → List ℕ
one_more counts j = set counts j (count_of counts j + 1)

-- one more for each number of a list
unfoldable pub count_all : List ℕ → List ℕ → List ℕ
count_all counts [] = counts
count_all counts (j ∷ list) = count_all (one_more counts j) list

-- the sum of counts
unfoldable pub sum_of : List ℕ → ℕ
sum_of [] = 0
sum_of (count ∷ counts) = count + sum_of counts

-- a count stands against 0 or above n
abbrev pub counted_outside : ℕ → List ℕ → Bool
counted_outside n counts = passes_outside n (λ j. ltb 0 (count_of counts j))
