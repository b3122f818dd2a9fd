-- Weight-two: where no pair is left, a missing node's column is cut off from the live ones.
-- Assumes nothing.
use mathlib.Core.Path.{◌≡◌, ap, ◌∙◌}
use mathlib.Core.Bool.{Bool, true, false, cond}
use Prim.Native.Nat.{ℕ, suc, ◌≤◌, ◌<◌}
use native.Mathlib.Omega.{arith}
use lib.Bits.{xor_comm, xor_self, xor_lt}
use Rattle.base.proofs.Tests.{same_answer}
use Rattle.families.specs.declared.Family.TheVariants.{WeightTwo}
use Rattle.families.specs.Families.{KInRange, IsNode, column_of}
use Rattle.families.specs.Inner.{unit}
use Rattle.families.proofs.EdgeLaws.{both, both_through, joined, smaller_within, column_both}
use Rattle.families.proofs.PairLaws.{PairOf, pair_of}
use Rattle.encoding.proofs.Linear.{has_bit, xor_over}
use Rattle.encoding.proofs.SideLaws.{digit, at_node}
use Rattle.pairing.specs.Pairs.{NoPairLeft}
use Rattle.leftover.proofs.Cut.{Cut}
use Rattle.leftover.proofs.Known.{known, known_zero, known_live, known_xor, missing_unknown}
use Rattle.leftover.proofs.Tests.{choice_below}

-- the class of a number
module _ (k : ℕ) (r : KInRange WeightTwo k) (live : ℕ → Bool) (done : NoPairLeft WeightTwo k live) where
  -- equal or joined by a live node
  abbrev linked : ℕ → ℕ → Bool
  linked a b = known WeightTwo k r live (both a b)

  linked_through : (a b c : ℕ) → a ≤ k → c ≤ k → linked a b ≡ true → linked b c ≡ true → linked a c ≡ true
  linked_through a b c ha hc p q =
      rw (both_through a b c) at (known_xor WeightTwo k r live done (both a b) (both b c) p q (rw (both_through a b c) (joined k r a c ha hc)))

  linked_back : (a b : ℕ) → linked a b ≡ true → linked b a ≡ true
  linked_back a b h = rw (xor_comm (unit b) (unit a)) h

  -- the numbers linked to p are on side 1
  side : ℕ → ℕ → ℕ
  side p a = cond (linked p a) 1 0

  side_small : (p a : ℕ) → side p a < 2
  unfolding side
  side_small p a = choice_below (linked p a) (omega arith) (omega arith)

  same_side : (p a b : ℕ) → p ≤ k → a ≤ k → b ≤ k → linked a b ≡ true → side p a ≡ side p b
  unfolding side
  same_side p a b hp ha hb h =
      ap (λ (t : Bool). cond t 1 0)
      (same_answer (linked p a) (linked p b) (λ t. linked_through p a b hp hb t h) (λ t. linked_through p b a hp ha t (linked_back a b h)))

  pub pair_cut : (j : ℕ) → IsNode WeightTwo k j → live j ≡ false → Cut WeightTwo k live j
  unfolding side
  pair_cut j n l =
      record {
        digit = digit k (side p.smaller);
        small = λ i. xor_lt 1 (side p.smaller (suc i)) (side p.smaller 0) (side_small p.smaller (suc i)) (side_small p.smaller 0);
        zero_live = λ m i t.
            let q : PairOf k m = pair_of k m i.first i.last in
            let s : side p.smaller q.smaller ≡ side p.smaller q.larger
            = same_side p.smaller q.smaller q.larger (smaller_within p) (smaller_within q) q.within (rw (column_both q) at (known_live WeightTwo k r live m i t)) in
            at_node k (side p.smaller) q ∙ rw s (xor_self (side p.smaller q.larger));
        not_at = λ z. omega (arith, at_missing);
      }
    where
      p : PairOf k j
      p = pair_of k j n.first n.last

      at_missing : xor_over k (has_bit (column_of WeightTwo k j)) (digit k (side p.smaller)) ≡ 1
      at_missing =
          let own : linked p.smaller p.smaller ≡ true = rw (xor_self (unit p.smaller)) (known_zero WeightTwo k r live) in
          let other : linked p.smaller p.larger ≡ false = rw (column_both p) at (missing_unknown WeightTwo k r live j n l) in
          at_node k (side p.smaller) p ∙ rw (own, other)
