-- Weight-two: a node joins two of the numbers 0 to k, and its column is the XOR of theirs. Two numbers are equal or joined by a node.
-- Assumes nothing.
use mathlib.Core.Path.{◌≡◌, sym, ap, ◌∙◌}
use mathlib.Core.Logic.{inl, inr}
use Prim.Native.Nat.{ℕ, zero, suc, ◌+◌, ◌^◌, ◌≤◌, ◌<◌}
use native.Mathlib.Nat.{le_of_suc-le-suc, not-suc-le-zero, one-mul, add_comm}
use native.Mathlib.Decide.{dec_lt}
use native.Mathlib.Omega.{arith}
use lib.Bits.{bit_xor, xor_comm, xor_self, xor_shifted}
use lib.Pow.{pow-lt}
use Rattle.base.proofs.Xor.{xor_assoc, xor_cancel}
use Rattle.families.specs.Families.{KInRange, column_of, node_of}
use Rattle.families.specs.Inner.{unit}
use Rattle.families.specs.declared.Family.TheVariants.{WeightTwo}
use Rattle.families.proofs.Laws.{node_is, ZeroOrNode}
use Rattle.families.proofs.PairLaws.{PairOf, Placed, placed, placed_column, place_of, pair_count}

-- the column of the node that joins a and b
abbrev pub both : ℕ → ℕ → ℕ
both a b = bit_xor (unit a) (unit b)

both_sum : (a b : ℕ) → a < b → unit a + unit b ≡ both a b
both_sum zero b h = omega arith
both_sum (suc a) zero h = absurd (not-suc-le-zero h)
both_sum (suc a) (suc b) h =
    let s : bit_xor (2 ^ b) (2 ^ a) ≡ 2 ^ b + 2 ^ a = rw (one-mul (2 ^ b)) at (xor_shifted 1 b (2 ^ a) (pow-lt (le_of_suc-le-suc h))) in
    add_comm (2 ^ a) (2 ^ b) ∙ sym s ∙ xor_comm (2 ^ b) (2 ^ a)

pub both_through : (a b c : ℕ) → bit_xor (both a b) (both b c) ≡ both a c
both_through a b c = xor_assoc (unit a) (unit b) (both b c) ∙ ap (bit_xor (unit a)) (xor_cancel (unit b) (unit c))

module _ (k : ℕ) (r : KInRange WeightTwo k) where
  pair_node : (a b : ℕ) → a < b → b ≤ k → 1 ≤ node_of WeightTwo k (both a b)
  pair_node a b h g =
      let p : Placed k a b = placed k a b h g in
      let e = node_is WeightTwo k r (both a b) (suc (place_of k a b)) (record { first = omega arith; last = omega (arith, p.room, pair_count k) })
      (placed_column k a b h g ∙ both_sum a b h) in
      omega (arith, e)

  -- two numbers are equal or joined by a node
  pub joined : (a b : ℕ) → a ≤ k → b ≤ k → ZeroOrNode WeightTwo k (both a b)
  joined a b ha hb = go (dec_lt a b) (dec_lt b a)
    where
      go : Dec (a < b) → Dec (b < a) → ZeroOrNode WeightTwo k (both a b)
      go (yes l) d = inr (pair_node a b l hb)
      go (no n) (yes l) = inr (rw (xor_comm (unit a) (unit b)) (pair_node b a l ha))
      go (no n) (no m) = let e : a ≡ b = omega arith in inl (rw e (xor_self (unit b)))

-- the pair of a node
module _ {k j : ℕ} (p : PairOf k j) where
  pub smaller_within : p.smaller ≤ k
  smaller_within = omega (arith, p.order, p.within)

  pub column_both : column_of WeightTwo k j ≡ both p.smaller p.larger
  column_both = p.column ∙ both_sum p.smaller p.larger p.order
