-- The three code families (document 01, "Families"): the range of k, the number of nodes, each node's column, the node of
-- a column, and which nodes are related.
use Rattle.std.specs.Prelude.{ℕ, zero, suc, ◌+◌, ◌-◌, ◌*◌, ◌/◌, ◌^◌, ◌≤◌, Bool, cond, List, [], ◌∷◌, get_or, eqb, leb, ltb}
use Rattle.std.specs.Int.Bits.{bit_xor}
use Rattle.base.specs.Ranges.{first_from}
use Rattle.families.specs.declared.Family.{Family}
use Rattle.families.specs.declared.Family.TheVariants.{Simplex, WeightTwo, Tetrahedron}

-- the family of a number: 1 simplex, 2 weight-two, 3 tetrahedron; any other counts as 3, and nothing shows it: it is turned away before
abbrev pub family_of : ℕ → Family
family_of number = cond (eqb number 1) Simplex (cond (eqb number 2) WeightTwo Tetrahedron)

-- the least k of a family
abbrev pub least_k : Family → ℕ
least_k Simplex = 2
least_k WeightTwo = 2
least_k Tetrahedron = 4

-- the largest k of a family
abbrev pub most_k : Family → ℕ
most_k Simplex = 8
most_k WeightTwo = 22
most_k Tetrahedron = 4

-- k is in its family's range
pub record KInRange (f : Family) (k : ℕ) : Type 0 where
  pub least : least_k f ≤ k
  pub most : k ≤ most_k f

-- n, the number of nodes
unfoldable pub node_count : Family → ℕ → ℕ
node_count Simplex k = 2 ^ k - 1
node_count WeightTwo k = k * (k + 1) / 2
node_count Tetrahedron k = 14

-- j is a node's number: 1 to n
pub record IsNode (f : Family) (k j : ℕ) : Type 0 where
  pub first : 1 ≤ j
  pub last : j ≤ node_count f k

-- Weight-two: of the pairs i < j of some data blocks, by i and then j, the column of the one at a place, from 0; 0 past the last.
-- First comes block 1 with each of the others, then the pairs of the others, whose bits stand one further up
unfoldable pub pair_at : ℕ → ℕ → ℕ
pair_at zero place = 0
pair_at (suc others) place = cond (ltb place others) (1 + 2 ^ suc place) (2 * pair_at others (place - others))

-- document 01's number of the pair i < j; that the columns have this order is a claim of Claims.antt
abbrev pub pair_node : ℕ → ℕ → ℕ → ℕ
pair_node k i j = k + (i - 1) * (2 * k - i) / 2 + (j - i)

-- the columns of the tetrahedron, node 1 first (document 002, matrix 7)
abbrev pub tetrahedron : List ℕ
tetrahedron = 1 ∷ 2 ∷ 4 ∷ 8 ∷ 5 ∷ 3 ∷ 6 ∷ 7 ∷ 10 ∷ 12 ∷ 14 ∷ 9 ∷ 11 ∷ 13 ∷ []

-- node j's column; weight-two: nodes 1 to k are the data blocks, then come the pairs
unfoldable pub column_of : Family → ℕ → ℕ → ℕ
column_of Simplex k j = j
column_of WeightTwo k j = cond (leb j k) (2 ^ (j - 1)) (pair_at k (j - 1 - k))
column_of Tetrahedron k j = get_or tetrahedron (j - 1) 0

-- the node with a column; 0 where there is no such node
unfoldable pub node_of : Family → ℕ → ℕ → ℕ
node_of f k column = first_from (λ j. eqb (column_of f k j) column) 1 (node_count f k)

-- three nodes are related: the XOR of their columns is 0
unfoldable pub are_related : Family → ℕ → ℕ → ℕ → ℕ → Bool
are_related f k a b c = eqb (bit_xor (bit_xor (column_of f k a) (column_of f k b)) (column_of f k c)) 0
