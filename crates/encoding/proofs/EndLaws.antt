-- Weight-two: which of the numbers 0 to k a node ends at, by its pair and by its column.
-- Assumes nothing.
use mathlib.Core.Path.{◌≡◌, refl, sym, ap, ap₂, ◌∙◌}
use mathlib.Core.Bool.{cond}
use mathlib.Core.Logic.{◌⊎◌, inl, inr}
use Prim.Native.Nat.{ℕ, ◌+◌, ◌≤◌, ◌<◌}
use native.Mathlib.Decide.{ℕ_discrete}
use native.Mathlib.Omega.{arith}
use borrow.Author.Tests.{eq-eqb, ne_eqb}
use lib.Bits.{bit_xor, xor_comm, xor_self, xor_zero_r}
use lib.Dec.{eqb}
use Rattle.families.specs.declared.Family.TheVariants.{WeightTwo}
use Rattle.families.specs.Families.{column_of}
use Rattle.families.specs.Inner.{unit}
use Rattle.families.proofs.EdgeLaws.{both, smaller_within, column_both}
use Rattle.families.proofs.PairLaws.{PairOf}
use Rattle.encoding.proofs.Linear.{has_bit, xor_over, xor_over_xor}
use Rattle.encoding.proofs.SideLaws.{digit, at_both, at_node}

-- the sides where x alone is on side 1
unfoldable pub alone : ℕ → ℕ → ℕ
alone x y = cond (eqb y x) 1 0

pub alone_yes : (x y : ℕ) → y ≡ x → alone x y ≡ 1
unfolding alone
alone_yes x y e = rw (eq-eqb y x e)

pub alone_no : (x y : ℕ) → (y ≡ x → ⊥) → alone x y ≡ 0
unfolding alone
alone_no x y n = rw (ne_eqb y x n)

-- 1 for a node's column that joins x to another number, 0 for one that does not
unfoldable pub ends : ℕ → ℕ → ℕ → ℕ
ends k x c = xor_over k (has_bit c) (digit k (alone x))

pub ends_xor : (k x c d : ℕ) → ends k x (bit_xor c d) ≡ bit_xor (ends k x c) (ends k x d)
unfolding ends
ends_xor k x c d = xor_over_xor k c d (digit k (alone x))

-- two different numbers are joined
pub ends_both : (k x y : ℕ) → x ≤ k → y ≤ k → (x ≡ y → ⊥) → ends k x (both x y) ≡ 1
unfolding ends
ends_both k x y hx hy n = at_both k (alone x) x y hx hy ∙ ap₂ bit_xor (alone_yes x x refl) (alone_no x y (λ e. n (sym e)))

pub ends_none : (k x : ℕ) → ends k x 0 ≡ 0
unfolding ends
ends_none k x = at_both k (alone x) 0 0 (omega arith) (omega arith) ∙ xor_self (alone x 0)

-- ---- a node, by its pair

module _ {k j : ℕ} (p : PairOf k j) where
  -- x is one of its two numbers
  abbrev pub Has : ℕ → Type 0
  Has x = (p.smaller ≡ x) ⊎ (p.larger ≡ x)

  pub has : (x : ℕ) → Dec (Has x)
  has x = go (ℕ_discrete p.smaller x) (ℕ_discrete p.larger x)
    where
      go : Dec (p.smaller ≡ x) → Dec (p.larger ≡ x) → Dec (Has x)
      go (yes e) d = yes (inl e)
      go (no n) (yes e) = yes (inr e)
      go (no n) (no m) = no (λ h. neither h)
        where
          neither : Has x → ⊥
          neither (inl e) = n e
          neither (inr e) = m e

  -- it joins x to another number
  pub record Joins (x : ℕ) : Type 0 where
    pub end : ℕ
    pub within : end ≤ k
    pub joins : column_of WeightTwo k j ≡ both x end

  pub other_end : (x : ℕ) → Has x → Joins x
  other_end x (inl e) = record { end = p.larger; within = p.within; joins = column_both p ∙ ap (λ (y : ℕ). both y p.larger) e }
  other_end x (inr e) =
      record { end = p.smaller; within = smaller_within p; joins = column_both p ∙ ap (λ (y : ℕ). both p.smaller y) e ∙ xor_comm (unit p.smaller) (unit x) }

  -- as its two numbers differ, at most one of them is x
  pub ends_sum : (x : ℕ) → ends k x (column_of WeightTwo k j) ≡ alone x p.smaller + alone x p.larger
  unfolding ends
  ends_sum x = at_node k (alone x) p ∙ go (ℕ_discrete p.smaller x)
    where
      go : Dec (p.smaller ≡ x) → bit_xor (alone x p.smaller) (alone x p.larger) ≡ alone x p.smaller + alone x p.larger
      go (yes e) = rw (alone_no x p.larger (λ g. omega (arith, p.order))) (xor_zero_r (alone x p.smaller) ∙ omega arith)
      go (no n) = rw (alone_no x p.smaller n) (omega arith)

  pub ends_yes : (x : ℕ) → Has x → ends k x (column_of WeightTwo k j) ≡ 1
  ends_yes x (inl e) = omega (arith, ends_sum x, alone_yes x p.smaller e, alone_no x p.larger (λ g. omega (arith, p.order)))
  ends_yes x (inr e) = omega (arith, ends_sum x, alone_yes x p.larger e, alone_no x p.smaller (λ g. omega (arith, p.order)))

  pub ends_no : (x : ℕ) → (Has x → ⊥) → ends k x (column_of WeightTwo k j) ≡ 0
  ends_no x n = omega (arith, ends_sum x, alone_no x p.smaller (λ e. n (inl e)), alone_no x p.larger (λ e. n (inr e)))

  pub has_of : (x : ℕ) → ends k x (column_of WeightTwo k j) ≡ 1 → Has x
  has_of x e = go (has x)
    where
      go : Dec (Has x) → Has x
      go (yes h) = h
      go (no n) = absurd (omega (arith, ends_no x n))

  -- a node that has two numbers is the node of these
  pub has_two : (x y : ℕ) → x < y → Has x → Has y → (p.smaller ≡ x) × (p.larger ≡ y)
  has_two x y l (inl e) (inl g) = absurd (omega arith)
  has_two x y l (inl e) (inr g) = (e, g)
  has_two x y l (inr e) (inl g) = absurd (omega (arith, p.order))
  has_two x y l (inr e) (inr g) = absurd (omega arith)

  -- and has no third
  pub has_only : (x y z : ℕ) → x < y → Has x → Has y → Has z → (x ≡ z) ⊎ (y ≡ z)
  has_only x y z l a b (inl e) = inl (sym (has_two x y l a b).0 ∙ e)
  has_only x y z l a b (inr e) = inr (sym (has_two x y l a b).1 ∙ e)
