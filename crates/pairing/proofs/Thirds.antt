-- Every family: which nodes have a third node with node j, and their number as a sum.
-- Assumes nothing.
use mathlib.Core.Path.{◌≡◌, sym, ap₂, ◌∙◌}
use mathlib.Core.Bool.{Bool, false, cond}
use mathlib.Core.Logic.{inl, inr}
use Prim.Native.Nat.{ℕ, ◌+◌}
use native.Mathlib.Omega.{arith}
use borrow.Author.Tests.{lt-ltb, eq-eqb, ne_eqb}
use lib.Bits.{bit_xor, xor_self}
use lib.Dec.{eqb, ltb}
use lib.ListN.{length}
use Rattle.base.specs.Ranges.{those_from}
use Rattle.base.proofs.Sums.{sum_from, count_sum, sum_add, sum_only}
use Rattle.base.proofs.Xor.{xor_same}
use Rattle.families.specs.declared.Family.{Family}
use Rattle.families.specs.Families.{KInRange, IsNode, node_count, column_of, node_of}
use Rattle.families.proofs.Laws.{ZeroOrNode, column_once, zero_none}

-- the XOR of the columns of j and a is a node's
abbrev pub has_third : Family → ℕ → ℕ → ℕ → Bool
has_third f k j a = ltb 0 (node_of f k (bit_xor (column_of f k j) (column_of f k a)))

-- so many nodes have a third node with j
abbrev pub third_count : Family → ℕ → ℕ → ℕ
third_count f k j = length (those_from (has_third f k j) 1 (node_count f k))

-- node a as it is counted: 1 with a third node, 0 without, and m besides for j itself
unfoldable pub counted : Family → ℕ → ℕ → ℕ → ℕ → ℕ
counted f k j m a = cond (has_third f k j a) 1 0 + cond (eqb a j) m 0

module _ (f : Family) (k : ℕ) (r : KInRange f k) (j : ℕ) (n : IsNode f k j) (m : ℕ) where
  pub counted_sum : third_count f k j + m ≡ sum_from (counted f k j m) 1 (node_count f k)
  unfolding counted
  counted_sum =
      ap₂ ◌+◌ (count_sum (has_third f k j) 1 (node_count f k)) (sym (sum_only (λ a. m) 1 (node_count f k) j n.first (omega (arith, n.last))))
      ∙ sym (sum_add (λ a. cond (has_third f k j a) 1 0) (λ a. cond (eqb a j) m 0) 1 (node_count f k))

  -- the XOR of its column with itself is 0
  pub counted_itself : (a : ℕ) → a ≡ j → counted f k j m a ≡ m
  unfolding counted
  counted_itself a e = rw (eq-eqb a j e, e, xor_self (column_of f k j), zero_none f k r) (omega arith)

  pub counted_other : (a : ℕ) → IsNode f k a → (a ≡ j → ⊥) → ZeroOrNode f k (bit_xor (column_of f k j) (column_of f k a)) → counted f k j m a ≡ 1
  unfolding counted
  counted_other a i d (inl e) = absurd (d (sym (column_once f k j a r n i (xor_same (column_of f k j) _ _ (xor_self (column_of f k j) ∙ sym e)))))
  counted_other a i d (inr h) = rw (ne_eqb a j d, lt-ltb 0 _ h)

  pub counted_none : (a : ℕ) → (a ≡ j → ⊥) → has_third f k j a ≡ false → counted f k j m a ≡ 0
  unfolding counted
  counted_none a d h = rw (ne_eqb a j d, h)
