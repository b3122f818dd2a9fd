-- Weight-two: digits of two sides. Each of the numbers 0 to k is on a side, and a data block's digit says whether its number is on
-- another side than 0; then the digits of a node's column say whether it joins two sides.
-- Assumes nothing.
use mathlib.Core.Path.{◌≡◌, sym, ap, ap₂, ◌∙◌}
use Prim.Native.Nat.{ℕ, zero, suc, ◌^◌, ◌≤◌}
use native.Mathlib.Nat.{zero-div}
use lib.Bits.{bit_xor, xor_self, xor_zero_r}
use Rattle.base.proofs.Xor.{xor_middle}
use Rattle.families.specs.declared.Family.TheVariants.{WeightTwo}
use Rattle.families.specs.Families.{column_of}
use Rattle.families.specs.Inner.{unit}
use Rattle.families.proofs.EdgeLaws.{both, smaller_within, column_both}
use Rattle.families.proofs.PairLaws.{PairOf}
use Rattle.encoding.proofs.Linear.{has_bit, xor_over, xor_over_none, xor_over_xor, xor_over_unit}

module _ (k : ℕ) (side : ℕ → ℕ) where
  abbrev pub digit : ℕ → ℕ
  digit i = bit_xor (side (suc i)) (side 0)

  at_unit : (a : ℕ) → a ≤ k → xor_over k (has_bit (unit a)) digit ≡ bit_xor (side a) (side 0)
  at_unit zero h = xor_over_none k (has_bit 0) digit (λ i l. rw (zero-div (2 ^ i))) ∙ sym (xor_self (side 0))
  at_unit (suc a) h = xor_over_unit k a digit h

  pub at_both : (a b : ℕ) → a ≤ k → b ≤ k → xor_over k (has_bit (both a b)) digit ≡ bit_xor (side a) (side b)
  at_both a b ha hb =
      xor_over_xor k (unit a) (unit b) digit ∙ ap₂ bit_xor (at_unit a ha) (at_unit b hb) ∙ xor_middle (side a) (side 0) (side b) (side 0)
      ∙ ap (bit_xor (bit_xor (side a) (side b))) (xor_self (side 0)) ∙ xor_zero_r (bit_xor (side a) (side b))

  pub at_node : {j : ℕ} (p : PairOf k j) → xor_over k (has_bit (column_of WeightTwo k j)) digit ≡ bit_xor (side p.smaller) (side p.larger)
  at_node p = rw (column_both p) (at_both p.smaller p.larger (smaller_within p) p.within)
