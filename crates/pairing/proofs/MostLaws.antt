-- The number of the nodes that have a third node with node j is twice that of the pairs of a node where every node is live.
-- Assumes nothing.
use mathlib.Core.Path.{◌≡◌, refl, ◌∙◌}
use mathlib.Core.Bool.{Bool}
use Prim.Native.Nat.{ℕ, zero, suc, ◌+◌, ◌-◌, ◌*◌, ◌/◌}
use native.Mathlib.Nat.{pow-suc}
use native.Mathlib.Decide.{ℕ_discrete}
use native.Mathlib.Omega.{arith}
use borrow.Author.Tests.{eqb-true}
use lib.Bits.{bit_xor, xor_lt}
use lib.Dec.{eqb, ltb}
use lib.ListN.{length}
use lib.Pow.{pow_pos}
use Rattle.base.specs.Ranges.{first_from, those_from}
use Rattle.base.proofs.Tests.{all_below, all_below_lem}
use Rattle.base.proofs.Sums.{sum_same, sum_const}
use Rattle.families.specs.declared.Family.{Family}
use Rattle.families.specs.declared.Family.TheVariants.{Simplex, WeightTwo, Tetrahedron}
use Rattle.families.specs.Families.{KInRange, IsNode, node_count, column_of, node_of}
use Rattle.families.proofs.Laws.{column}
use Rattle.families.proofs.FullLaws.{full_column, simplex_full}
use Rattle.pairing.specs.Pairs.{most_pairs}
use Rattle.pairing.proofs.Thirds.{third_count, counted, counted_sum, counted_itself, counted_other}
use Rattle.pairing.proofs.EdgeThirds.{pair_thirds}

-- ---- simplex: every node but j itself

module _ (k : ℕ) (r : KInRange Simplex k) (j : ℕ) (n : IsNode Simplex k j) where
  pub all_one : (a : ℕ) → IsNode Simplex k a → counted Simplex k j 1 a ≡ 1
  all_one a i = go (ℕ_discrete a j)
    where
      go : Dec (a ≡ j) → counted Simplex k j 1 a ≡ 1
      go (yes e) = counted_itself Simplex k r j n 1 a e
      go (no d) =
          counted_other Simplex k r j n 1 a i d
          (full_column (simplex_full k r) _ (xor_lt k _ _ (column Simplex k j r n).below (column Simplex k a r i).below) (λ e. e))

  simplex_thirds : third_count Simplex k j + 1 ≡ node_count Simplex k
  simplex_thirds =
      counted_sum Simplex k r j n 1
      ∙ sum_same (counted Simplex k j 1) (λ a. 1) 1 (node_count Simplex k) (λ a l h. all_one a (record { first = l; last = omega arith }))
      ∙ sum_const 1 1 (node_count Simplex k) ∙ omega arith

-- one less than 2 to a power that is not 0 is odd
odd_count : (k : ℕ) → KInRange Simplex k → 2 * ((node_count Simplex k - 1) / 2) + 1 ≡ node_count Simplex k
unfolding node_count
odd_count zero r = absurd (omega (arith, r.least))
odd_count (suc k) r = omega (arith, pow-suc 2 k, pow_pos k)

-- ---- tetrahedron: 12, by a computed test of its nodes

tetrahedron_test : ℕ → Bool
tetrahedron_test i = eqb (third_count Tetrahedron 4 (suc i)) 12

tetrahedron-thirds : (j : ℕ) → IsNode Tetrahedron 4 j → third_count Tetrahedron 4 j ≡ 12
unfolding tetrahedron_test all_below those_from node_of first_from column_of node_count
tetrahedron-thirds j n =
    let e : suc (j - 1) ≡ j = omega (arith, n.first) in
    rw e at (eqb-true (third_count Tetrahedron 4 (suc (j - 1))) 12 (all_below_lem tetrahedron_test 14 refl (j - 1) (omega (arith, n.first, n.last))))

-- ---- every family

pub thirds_count : (f : Family) (k : ℕ) → KInRange f k → (j : ℕ) → IsNode f k j
    → length (those_from (λ a. ltb 0 (node_of f k (bit_xor (column_of f k j) (column_of f k a)))) 1 (node_count f k)) ≡ 2 * most_pairs f k
unfolding most_pairs
thirds_count Simplex k r j n = omega (arith, simplex_thirds k r j n, odd_count k r)
thirds_count WeightTwo k r j n = omega (arith, pair_thirds k r j n)
thirds_count Tetrahedron k r j n = let e : k ≡ 4 = omega (arith, r.least, r.most) in rw e (tetrahedron-thirds j (rw e at n))
