-- What is proved of the pairs of every node besides the contracts; proofs/Proved.antt has the proofs.
use Rattle.std.specs.Prelude.{◌≡◌, Bool, true, List, ◌↔◌, ℕ, ◌≤◌, ◌<◌}
use Rattle.families.specs.declared.Family.{Family}
use Rattle.families.specs.Families.{KInRange, IsNode, are_related}
use Rattle.lists.specs.Lists.{is_live}
use Rattle.pairing.specs.Pairs.{pair_count, pairs_of, most_pairs, LiveNode}

-- a and b, of which a is the smaller, are live and related to node j
pub record IsPair (f : Family) (k : ℕ) (marks : List Bool) (j a b : ℕ) : Type 0 where
  pub order : a < b
  pub smaller : LiveNode f k marks a
  pub larger : LiveNode f k marks b
  pub related : are_related f k a b j ≡ true

-- of the pairs of node j
pub record SearchClaims (f : Family) (k : ℕ) (marks : List Bool) (j : ℕ) : Type 0 where
  -- their number is 0 exactly where no two live nodes are related to j
  pub none : (pair_count f k marks j ≡ 0) ↔ ((a b : ℕ) → LiveNode f k marks a → LiveNode f k marks b → are_related f k a b j ≡ true → ⊥)
  -- it is never more than where every node is live
  pub most : pair_count f k marks j ≤ most_pairs f k
  -- and where every node is live it is that: (n − 1)/2 for simplex, k − 1 for weight-two, 6 for the tetrahedron
  pub all : ((a : ℕ) → IsNode f k a → is_live marks a ≡ true) → pair_count f k marks j ≡ most_pairs f k
  -- it is what the search gives as the count
  pub count : (pairs_of f k marks j).count ≡ pair_count f k marks j
  -- which gives zeros exactly where it is 0
  pub zeros : (pairs_of f k marks j ≡ record { smaller = 0; larger = 0; count = 0 }) ↔ (pair_count f k marks j ≡ 0)
  -- and elsewhere a pair
  pub given : 1 ≤ pair_count f k marks j → IsPair f k marks j (pairs_of f k marks j).smaller (pairs_of f k marks j).larger
  -- of which the smaller node is least
  pub least : (a b : ℕ) → IsPair f k marks j a b → (pairs_of f k marks j).smaller ≤ a

-- of every family, every k in its range, all marks and every node, live or missing
abbrev pub SearchClaim : Type 0
SearchClaim = (f : Family) (k : ℕ) → KInRange f k → (marks : List Bool) (j : ℕ) → IsNode f k j → SearchClaims f k marks j
