-- What is proved of every family and every k in its range; proofs/Proved.antt has the proofs.
use Rattle.std.specs.Prelude.{◌≡◌, true, ℕ, ◌+◌, ◌-◌, ◌^◌, ◌≤◌, ◌<◌}
use Rattle.families.specs.Families.{KInRange, IsNode, node_count, column_of, node_of, are_related, pair_node}
use Rattle.families.specs.declared.Family.{Family}
use Rattle.families.specs.declared.Family.TheVariants.{WeightTwo, Tetrahedron}

-- of a family with k data blocks
pub record FamilyClaims (f : Family) (k : ℕ) : Type 0 where
  -- every column is between 1 and 2^k − 1
  pub positive : (j : ℕ) → IsNode f k j → 1 ≤ column_of f k j
  pub below : (j : ℕ) → IsNode f k j → column_of f k j < 2 ^ k
  -- no two nodes have the same column
  pub once : (i j : ℕ) → IsNode f k i → IsNode f k j → column_of f k i ≡ column_of f k j → i ≡ j
  -- column and node undo each other
  pub back : (j : ℕ) → IsNode f k j → node_of f k (column_of f k j) ≡ j
  pub node : (c : ℕ) → (node_of f k c ≡ 0 → ⊥) → IsNode f k (node_of f k c)
  pub forth : (c : ℕ) → (node_of f k c ≡ 0 → ⊥) → column_of f k (node_of f k c) ≡ c
  -- there is no such node for column 0, and for 2^k and above
  pub none_at_0 : node_of f k 0 ≡ 0
  pub none_above : (c : ℕ) → 2 ^ k ≤ c → node_of f k c ≡ 0
  -- three related nodes differ
  pub differ : (a b c : ℕ) → IsNode f k a → IsNode f k b → IsNode f k c → are_related f k a b c ≡ true → (a ≡ b → ⊥) × (b ≡ c → ⊥) × (a ≡ c → ⊥)
  -- there are at most 255 nodes
  pub few : node_count f k ≤ 255

-- of every family and every k in its range
abbrev pub FamilyClaim : Type 0
FamilyClaim = (f : Family) (k : ℕ) → KInRange f k → FamilyClaims f k

-- of the weight-two family, for every k: nodes 1 to k are the data blocks, and the pair i < j is the node that document 01 says
pub record PairClaim : Type 0 where
  pub data_blocks : (k i : ℕ) → 1 ≤ i → i ≤ k → column_of WeightTwo k i ≡ 2 ^ (i - 1)
  pub pairs : (k i j : ℕ) → 1 ≤ i → i < j → j ≤ k → column_of WeightTwo k (pair_node k i j) ≡ 2 ^ (i - 1) + 2 ^ (j - 1)
  pub pairs_are_nodes : (k i j : ℕ) → 1 ≤ i → i < j → j ≤ k → IsNode WeightTwo k (pair_node k i j)

-- of the tetrahedron: column 15 does not occur
abbrev pub TetrahedronClaim : Type 0
TetrahedronClaim = node_of Tetrahedron 4 15 ≡ 0
