-- The pairs of a node: two live nodes related to it. The pair that repairs it is the one of which the smaller node is least (document 01,
-- "Plan"), of the nodes that may still be read (document 02, K11), and besides there is how many pairs it has (document 02, K4).
use Rattle.std.specs.Prelude.{◌≡◌, Bool, true, false, cond, ◌&&◌, ℕ, suc, ◌-◌, ◌/◌, eqb, ltb, length}
use mathlib.Core.List.{List, flat_map}
use Rattle.base.specs.Ranges.{first_from, those_from}
use Rattle.families.specs.declared.Family.{Family}
use Rattle.families.specs.declared.Family.TheVariants.{Simplex, WeightTwo, Tetrahedron}
use Rattle.families.specs.Families.{IsNode, node_count, are_related}
use Rattle.lists.specs.Lists.{is_live, live_nodes}
use Rattle.pairing.specs.declared.Pairs.{Pairs}

-- the live node above a that is related to a and j; 0 where there is none
unfoldable pub larger_node : Family → ℕ → List Bool → ℕ → ℕ → ℕ
larger_node f k marks j a = first_from (λ b. is_live marks b && are_related f k a b j) (suc a) (node_count f k - a)

-- the least live node that has such a one above it; 0 where there is none
unfoldable pub smaller_node : Family → ℕ → List Bool → ℕ → ℕ
smaller_node f k marks j = first_from (λ a. is_live marks a && ltb 0 (larger_node f k marks j a)) 1 (node_count f k)

-- those of a kind above a that are related to a and j
abbrev pub related_above : Family → ℕ → (ℕ → Bool) → ℕ → ℕ → List ℕ
related_above f k kind j a = those_from (λ b. kind b && are_related f k a b j) (suc a) (node_count f k - a)

-- how many related pairs of node j are both live: for each live a, the live nodes above it that are related to a and j
unfoldable pub pair_count : Family → ℕ → List Bool → ℕ → ℕ
pair_count f k marks j = length (flat_map (related_above f k (is_live marks) j) (live_nodes marks (node_count f k)))

-- what the search for a pair of node j gives, where of the live nodes only those of `free` may be read: the least pair of these, and how
-- many pairs are live, whether they may be read or not; zeros where there is no such pair
unfoldable pub pairs_among : Family → ℕ → List Bool → List Bool → ℕ → Pairs
pairs_among f k marks free j =
    let a = smaller_node f k free j in
    cond (eqb a 0) (record { smaller = 0; larger = 0; count = 0 }) (record { smaller = a; larger = larger_node f k free j a; count = pair_count f k marks j })

-- by itself, for any node: every live node may be read
abbrev pub pairs_of : Family → ℕ → List Bool → ℕ → Pairs
pairs_of f k marks j = pairs_among f k marks marks j

-- how many pairs a node has where every node is live
unfoldable pub most_pairs : Family → ℕ → ℕ
most_pairs Simplex k = (node_count Simplex k - 1) / 2
most_pairs WeightTwo k = k - 1
most_pairs Tetrahedron k = 6

-- no missing node has a related pair with both nodes live
abbrev pub NoPairLeft : Family → ℕ → (ℕ → Bool) → Type 0
NoPairLeft f k live =
    (j a b : ℕ) → IsNode f k j → IsNode f k a → IsNode f k b
    → live j ≡ false → live a ≡ true → live b ≡ true → are_related f k a b j ≡ true → ⊥

-- j is a node of 1 to n, and live
pub record LiveNode (f : Family) (k : ℕ) (marks : List Bool) (j : ℕ) : Type 0 where
  pub node : IsNode f k j
  pub live : is_live marks j ≡ true
