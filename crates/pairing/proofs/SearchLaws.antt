-- How far the search has come: the walk over the nodes that are counted, and at one of them the search for its pair of free nodes.
-- Assumes nothing.
use mathlib.Core.Path.{◌≡◌, refl, ap, ◌∙◌}
use mathlib.Core.Bool.{Bool, true, false, cond, ◌&&◌, and-false}
use mathlib.Core.List.{List}
use Prim.Native.Nat.{ℕ, ◌+◌, ◌-◌, ◌≤◌, ◌<◌}
use native.Mathlib.Omega.{arith}
use borrow.Author.Tests.{lt-ltb, le-ltb, ne_eqb, eqb-true, eqb-false}
use lib.Dec.{eqb, ltb}
use lib.ListN.{length, get_or, drop}
use Rattle.std.specs.Prelude.{None, Some}
use Rattle.pairing.specs.declared.Found.{Found}
use Rattle.base.specs.Ranges.{first_from}
use Rattle.base.proofs.Tests.{and_both}
use Rattle.families.specs.declared.Family.{Family}
use Rattle.families.specs.Families.{KInRange, IsNode, node_count}
use Rattle.lists.specs.Lists.{live_nodes}
use Rattle.lists.proofs.Laws.{outside_none, live_nodes_inside}
use Rattle.counts.specs.Counts.{count_of}
use Rattle.pairing.specs.Pairs.{larger_node, smaller_node}
use Rattle.pairing.specs.Inner.{live_partner, next_found, found_at, found_in}
use Rattle.pairing.proofs.PairLaws.{first_in, first_step, first_end, has_partner, smaller_first, partner_is, pair_of, next_skip, next_is, next_end}

-- the test by which nodes are found
abbrev pub is_found : Family → ℕ → List Bool → List ℕ → ℕ → Bool
is_found f k free counts j = ltb 0 (count_of counts j) && ltb 0 (smaller_node f k free j)

-- no node above `after` and below `node` is found
pub record Walking (f : Family) (k : ℕ) (list : List ℕ) (free : List Bool) (counts : List ℕ) (after node : ℕ) : Type 0 where
  pub range : KInRange f k
  pub nodes : list ≡ live_nodes free (node_count f k)
  pub first : 1 ≤ node
  pub last : node ≤ node_count f k + 1
  pub rest : next_found f k free counts after ≡ first_from (is_found f k free counts) node (node_count f k + 1 - node)

-- none of the first i free nodes has a free partner with which it is a pair of `node`
pub record Searching (f : Family) (k : ℕ) (list : List ℕ) (free : List Bool) (node i : ℕ) : Type 0 where
  pub within : i ≤ length list
  pub rest : smaller_node f k free node ≡ first_in (has_partner f k free node) (drop i list)

module _ {f : Family} {k : ℕ} {list : List ℕ} {free : List Bool} {counts : List ℕ} {after : ℕ} where
  module _ {node : ℕ} (w : Walking f k list free counts after node) where
    pub walk_done : node_count f k < node → None ≡ found_in f k free counts (next_found f k free counts after)
    unfolding found_in
    walk_done h = rw (w.rest, next_end (is_found f k free counts) (node_count f k) node h)

    pub walk_node : node ≤ node_count f k → IsNode f k node
    walk_node l = record { first = w.first; last = l }

    module _ (l : node ≤ node_count f k) where
      skip : is_found f k free counts node ≡ false → Walking f k list free counts after (node + 1)
      skip e = record { range = w.range; nodes = w.nodes; first = omega arith; last = omega arith; rest = w.rest ∙ next_skip (is_found f k free counts) (node_count f k) node l e }

      -- a node whose count is 0 is not found
      pub walk_skip : count_of counts node ≡ 0 → Walking f k list free counts after (node + 1)
      walk_skip e = skip (rw (le-ltb 0 (count_of counts node) (omega arith)))

      pub search_none : Searching f k list free node 0
      search_none = record { within = omega arith; rest = rw w.nodes (smaller_first f k w.range free node (walk_node l)) }

      module _ {i : ℕ} (s : Searching f k list free node i) where
        -- nor is one for which the search comes to the end of the free nodes
        pub walk_over : length list ≤ i → Walking f k list free counts after (node + 1)
        walk_over h =
            let none = s.rest ∙ first_end (has_partner f k free node) list i h in
            skip (rw none (and-false (ltb 0 (count_of counts node))))

        module _ (h : i < length list) where
          abbrev a : ℕ
          a = get_or list i 0

          abbrev b : ℕ
          b = live_partner f k free node a

          pub search_node : IsNode f k a
          search_node =
              let e = w.nodes in
              let p = outside_none (node_count f k) (live_nodes free (node_count f k)) (live_nodes_inside free (node_count f k)) i (rw e at h) in
              rw e (record { first = p.0; last = p.1 })

          step : smaller_node f k free node ≡ cond (ltb 0 b) a (first_in (has_partner f k free node) (drop (i + 1) list))
          step = s.rest ∙ first_step (has_partner f k free node) list i h

          -- x is the i-th free node, and y its free partner
          module _ {x y : ℕ} (ex : x ≡ a) (ey : y ≡ live_partner f k free node x) where
            ends : y ≡ b
            ends = ey ∙ ap (live_partner f k free node) ex

            pub search_more : y ≡ 0 → Searching f k list free node (i + 1)
            search_more e = record { within = omega arith; rest = step ∙ simp (le-ltb 0 b (omega (arith, ends))) }

            pub search_found : (count_of counts node ≡ 0 → ⊥) → (y ≡ 0 → ⊥)
                → Some (record { node = node; pairs = record { smaller = x; larger = y; count = count_of counts node } }) ≡ found_in f k free counts (next_found f k free counts after)
            unfolding found_in found_at
            search_found some ne =
                let e : smaller_node f k free node ≡ a = step ∙ simp (lt-ltb 0 b (omega (arith, ne, ends))) in
                let small : 0 < smaller_node f k free node = omega (arith, e, search_node.first) in
                let n =
                next_is (is_found f k free counts) (node_count f k) node l
                (and_both _ _ (lt-ltb 0 (count_of counts node) (omega (arith, some))) (lt-ltb 0 (smaller_node f k free node) small)) in
                let p = pair_of f k w.range free node small in
                let g : larger_node f k free node a ≡ b = partner_is f k w.range free node a (larger_node f k free node a) (rw e at p.larger) (rw e at p.larger_live) (rw e at p.related) in
                rw (w.rest, n, ne_eqb node 0 (λ z. omega arith), e, g, ← ends, ← ex)

-- what is found is a node's, and nothing is found for node 0 alone
module _ (f : Family) (k : ℕ) (free : List Bool) (counts : List ℕ) (j : ℕ) where
  pub found_none : None ≡ found_in f k free counts j → j ≡ 0
  unfolding found_in
  found_none e = go (eqb j 0) refl
    where
      go : (b : Bool) → eqb j 0 ≡ b → j ≡ 0
      go true p = eqb-true j 0 p
      go false p = grind arith

  pub found_some : {x : Found} → Some x ≡ found_in f k free counts j → (x ≡ found_at f k free counts j) × (j ≡ 0 → ⊥)
  unfolding found_in
  found_some {x} e = go (eqb j 0) refl
    where
      go : (b : Bool) → eqb j 0 ≡ b → (x ≡ found_at f k free counts j) × (j ≡ 0 → ⊥)
      go true p = grind arith
      go false p = (grind arith, eqb-false j 0 p)
