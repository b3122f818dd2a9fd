-- For inner functions: third nodes, the numbers of weight-two's nodes, the counts that a search is handed and what they are made by, and what it finds.
use Rattle.std.specs.Prelude.{◌≡◌, Option, None, Some, Bool, cond, ◌&&◌, List, [], ◌∷◌, ◌++◌, map, ℕ, suc, ◌+◌, ◌-◌, ◌^◌, eqb, ltb, set, replicate}
use Rattle.std.specs.Int.Count.{count_trailing_zeros}
use Rattle.base.specs.Ranges.{first_from}
use Rattle.families.specs.declared.Family.{Family}
use Rattle.families.specs.declared.Family.TheVariants.{Simplex, WeightTwo, Tetrahedron}
use Rattle.families.specs.Families.{node_count, column_of}
use Rattle.families.specs.Inner.{third_node}
use Rattle.lists.specs.Lists.{is_live, live_nodes, missing_nodes}
use Rattle.counts.specs.Counts.{no_counts, count_of, count_all, sum_of}
use Rattle.pairing.specs.Pairs.{larger_node, smaller_node, pair_count}
use Rattle.pairing.specs.declared.Found.{Found}
use Rattle.pairing.specs.declared.count.Tally.{Tally}
use Rattle.pairing.specs.declared.count.Tally.TheVariants.{Live, Missing}

-- that of a and j, where it is live; 0 where there is none
unfoldable pub live_partner : Family → ℕ → List Bool → ℕ → ℕ → ℕ
live_partner f k marks j a = cond (is_live marks (third_node f k j a)) (third_node f k j a) 0

-- the nodes related to two of a list, and 0 where two have none
unfoldable pub thirds : Family → ℕ → List ℕ → List ℕ
thirds f k [] = []
thirds f k (a ∷ list) = map (third_node f k a) list ++ thirds f k list

-- how many of a list have a third node with j
abbrev pub with_third : Family → ℕ → List ℕ → ℕ → ℕ
with_third f k list j = sum_of (map (λ a. cond (ltb 0 (third_node f k j a)) 1 0) list)

-- how many of a list have a live third node with j
abbrev pub live_ends : Family → ℕ → List Bool → List ℕ → ℕ → ℕ
live_ends f k marks list j = sum_of (map (λ a. cond (ltb 0 (live_partner f k marks j a)) 1 0) list)

-- weight-two: the number of a column's lowest bit
abbrev pub first_end : ℕ → ℕ
first_end c = count_trailing_zeros 64 c + 1

-- and that of what is left without it; 0 where nothing is left
unfoldable pub second_end : ℕ → ℕ
second_end c = let rest = c - 2 ^ count_trailing_zeros 64 c in cond (eqb rest 0) 0 (count_trailing_zeros 64 rest + 1)

-- the two numbers of each node of a list
unfoldable pub ends_of : ℕ → List ℕ → List ℕ
ends_of k [] = []
ends_of k (a ∷ list) = first_end (column_of WeightTwo k a) ∷ second_end (column_of WeightTwo k a) ∷ ends_of k list

-- a 0 for each number, of which there are at most 23
abbrev pub no_degrees : List ℕ
no_degrees = replicate 32 0

-- how many nodes of a list have each number; those of another family have none
unfoldable pub degrees_of : Family → ℕ → List ℕ → List ℕ
degrees_of Simplex k list = no_degrees
degrees_of WeightTwo k list = count_all no_degrees (ends_of k list)
degrees_of Tetrahedron k list = no_degrees

-- counts in which each node of a list has its own
unfoldable pub count_each : Family → ℕ → List Bool → List ℕ → List ℕ → List ℕ
count_each f k marks counts [] = counts
count_each f k marks counts (j ∷ list) = count_each f k marks (set counts j (pair_count f k marks j)) list

-- the first node above another one whose count is not 0 and that has a pair of the nodes that may be read; 0 where there is none
abbrev pub next_found : Family → ℕ → List Bool → List ℕ → ℕ → ℕ
next_found f k free counts after = first_from (λ j. ltb 0 (count_of counts j) && ltb 0 (smaller_node f k free j)) (suc after) (node_count f k - after)

-- a node with its least pair of the nodes that may be read, and its count; zeros for node 0
unfoldable pub found_at : Family → ℕ → List Bool → List ℕ → ℕ → Found
found_at f k free counts j =
    let a = smaller_node f k free j in
    cond (eqb j 0) (record { node = 0; pairs = record { smaller = 0; larger = 0; count = 0 } }) (record { node = j; pairs = record { smaller = a; larger = larger_node f k free j a; count = count_of counts j } })

-- the node that is found, with its pair; none for node 0
unfoldable pub found_in : Family → ℕ → List Bool → List ℕ → ℕ → Option Found
found_in f k free counts j = cond (eqb j 0) None (Some (found_at f k free counts j))

-- a tally of the live nodes counts the pairs within them; one of the missing nodes those within these, and each number of weight-two
abbrev pub Tallies : Family → ℕ → List Bool → Tally → Type 0
Tallies f k marks (Live table) = table ≡ count_all no_counts (thirds f k (live_nodes marks (node_count f k)))
Tallies f k marks (Missing table degrees) = let missing = missing_nodes marks (node_count f k) in (table ≡ count_all no_counts (thirds f k missing)) × (degrees ≡ degrees_of f k missing)
