-- A node's count is 0 exactly where the search finds no pair.
-- Assumes nothing.
use mathlib.Core.Path.{◌≡◌, refl, ap, ◌∙◌}
use mathlib.Core.Bool.{Bool, true, false, cond, ◌&&◌}
use mathlib.Core.List.{List}
use mathlib.Core.Logic.{◌⊎◌, inl, inr}
use Prim.Native.Nat.{ℕ, suc, ◌-◌, ◌≤◌, ◌<◌}
use native.Mathlib.Nat.{eq-zero-or-pos}
use native.Mathlib.Omega.{arith}
use borrow.Author.Tests.{ltb-true, ltb-false}
use lib.ListN.{length}
use Rattle.base.proofs.First.{first_zero, found}
use Rattle.base.proofs.RangeLaws.{those_none, those_first}
use Rattle.base.proofs.Sums.{sum_zero, sum_least}
use Rattle.base.proofs.Tests.{and_left, and_right}
use Rattle.families.specs.declared.Family.{Family}
use Rattle.families.specs.Families.{node_count, are_related}
use Rattle.lists.specs.Lists.{is_live}
use Rattle.pairing.specs.Pairs.{related_above, larger_node, smaller_node, pair_count}
use Rattle.pairing.proofs.PairLaws.{has_larger}
use Rattle.pairing.proofs.CountLaws.{count_sums}

module _ (f : Family) (k : ℕ) (marks : List Bool) (j : ℕ) where
  -- b is the larger node of a pair with a
  abbrev test : ℕ → ℕ → Bool
  test a b = is_live marks b && are_related f k a b j

  -- a is the smaller node of a pair
  abbrev is_smaller : ℕ → Bool
  is_smaller a = is_live marks a && has_larger f k marks j a

  pub count_none : smaller_node f k marks j ≡ 0 → pair_count f k marks j ≡ 0
  unfolding smaller_node larger_node
  count_none e =
      count_sums f k marks j
      ∙ sum_zero _ 1 (node_count f k) (λ a l u. go a (is_live marks a) (first_zero is_smaller 1 (node_count f k) (omega arith) e a l u))
    where
      go : (a : ℕ) (b : Bool) → (b && has_larger f k marks j a) ≡ false → cond b (length (related_above f k (is_live marks) j a)) 0 ≡ 0
      go a true h = ap length (those_none (test a) (suc a) (node_count f k - a) (omega arith) (omega (arith, ltb-false 0 (larger_node f k marks j a) h)))
      go a false h = refl

  pub count_some : 1 ≤ smaller_node f k marks j → 1 ≤ pair_count f k marks j
  unfolding smaller_node larger_node
  count_some h =
      let a = smaller_node f k marks j in
      let g = found is_smaller 1 (node_count f k) h in
      let live = and_left (is_live marks a) (has_larger f k marks j a) g.passes in
      let some = ltb-true 0 (larger_node f k marks j a) (and_right (is_live marks a) (has_larger f k marks j a) g.passes) in
      let one = ap length (those_first (test a) (suc a) (node_count f k - a) (larger_node f k marks j a) refl some) in
      let least = sum_least (λ x. cond (is_live marks x) (length (related_above f k (is_live marks) j x)) 0) 1 (node_count f k) a g.from g.below in
      omega (arith, count_sums f k marks j, rw live at least, one)

  -- and the other way round
  pub some_count : 1 ≤ pair_count f k marks j → 1 ≤ smaller_node f k marks j
  some_count h = go (eq-zero-or-pos (smaller_node f k marks j))
    where
      go : (smaller_node f k marks j ≡ 0) ⊎ (0 < smaller_node f k marks j) → 1 ≤ smaller_node f k marks j
      go (inl z) = absurd (omega (arith, count_none z))
      go (inr l) = l

  pub none_count : pair_count f k marks j ≡ 0 → smaller_node f k marks j ≡ 0
  none_count e = go (eq-zero-or-pos (smaller_node f k marks j))
    where
      go : (smaller_node f k marks j ≡ 0) ⊎ (0 < smaller_node f k marks j) → smaller_node f k marks j ≡ 0
      go (inl z) = z
      go (inr h) = absurd (omega (arith, e, count_some h))
