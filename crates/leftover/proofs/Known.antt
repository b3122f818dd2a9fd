-- The known columns, 0 and those of the live nodes, and their XORs where no pair is left.
-- Assumes nothing.
use mathlib.Core.Path.{◌≡◌, refl, sym, ap, ap₂, ◌∙◌}
use mathlib.Core.Bool.{Bool, true, false, ◌&&◌, ◌||◌, or-true}
use mathlib.Core.Logic.{inl, inr, ⊎_elim}
use Prim.Native.Nat.{ℕ, ◌^◌, ◌<◌}
use native.Mathlib.Omega.{arith}
use borrow.Author.Tests.{eq-eqb, eqb-true, ltb-true, lt-ltb}
use lib.Bits.{bit_xor, xor_zero_r}
use lib.Dec.{eqb, ltb}
use lib.Pow.{pow_pos}
use Rattle.base.proofs.Tests.{and_left, and_right, is_false, not_both}
use Rattle.base.proofs.Xor.{xor_third_of}
use Rattle.families.specs.declared.Family.{Family}
use Rattle.families.specs.Families.{KInRange, IsNode, column_of, node_of, are_related}
use Rattle.families.proofs.Laws.{ZeroOrNode, Known, nothing, of_node, column, column_once, node_is, node_of_lem}
use Rattle.pairing.specs.Pairs.{NoPairLeft}
use Rattle.leftover.proofs.Tests.{or_either}

module _ (f : Family) (k : ℕ) (r : KInRange f k) (live : ℕ → Bool) where
  -- the same as a test
  pub known : ℕ → Bool
  known c = eqb c 0 || (ltb 0 (node_of f k c) && live (node_of f k c))

  pub known_is : (c : ℕ) → known c ≡ true → Known f k live c
  unfolding known
  known_is c h = ⊎_elim (λ e. nothing (eqb-true c 0 e)) node (or_either (eqb c 0) (ltb 0 (node_of f k c) && live (node_of f k c)) h)
    where
      node : (ltb 0 (node_of f k c) && live (node_of f k c)) ≡ true → Known f k live c
      node e =
          let n = node_of_lem f k r c (ltb-true 0 (node_of f k c) (and_left (ltb 0 (node_of f k c)) (live (node_of f k c)) e)) in
          of_node (node_of f k c) n.is_node (and_right (ltb 0 (node_of f k c)) (live (node_of f k c)) e) n.has

  pub is_known : {c : ℕ} → Known f k live c → known c ≡ true
  unfolding known
  is_known {c} (nothing e) = rw (eq-eqb c 0 e)
  is_known {c} (of_node m n l e) =
      let i : node_of f k c ≡ m = node_is f k r c m n e in
      rw (i, lt-ltb 0 m n.first, l) (or-true (eqb c 0))

  pub known_zero : known 0 ≡ true
  known_zero = is_known (nothing refl)

  pub known_live : (m : ℕ) → IsNode f k m → live m ≡ true → known (column_of f k m) ≡ true
  known_live m n l = is_known (of_node m n l refl)

  pub known_below : (c : ℕ) → known c ≡ true → c < 2 ^ k
  known_below c h = go (known_is c h)
    where
      go : Known f k live c → c < 2 ^ k
      go (nothing e) = omega (arith, pow_pos k)
      go (of_node m n l e) = rw (sym e) (column f k m r n).below

  -- a missing node's column is not known
  pub missing_unknown : (j : ℕ) → IsNode f k j → live j ≡ false → known (column_of f k j) ≡ false
  missing_unknown j n l = is_false (known (column_of f k j)) (λ h. go (known_is (column_of f k j) h))
    where
      go : Known f k live (column_of f k j) → ⊥
      go (nothing e) = omega (arith, (column f k j r n).positive)
      go (of_node m i t e) = not_both (live m) t (ap live (column_once f k m j r i n e) ∙ l)

  module _ (done : NoPairLeft f k live) where
    third_live : (a b j : ℕ) → IsNode f k a → IsNode f k b → IsNode f k j → live a ≡ true → live b ≡ true
        → column_of f k j ≡ bit_xor (column_of f k a) (column_of f k b) → live j ≡ true
    unfolding are_related
    third_live a b j na nb nj la lb e = go (live j) refl
      where
        go : (t : Bool) → live j ≡ t → live j ≡ true
        go true l = l
        go false l = absurd (done j a b nj na nb l la lb (eq-eqb _ 0 (xor_third_of (column_of f k a) (column_of f k b) (column_of f k j) e)))

    -- the XOR of two known columns, where it is 0 or a node's column
    pub known_xor : (x y : ℕ) → known x ≡ true → known y ≡ true → ZeroOrNode f k (bit_xor x y) → known (bit_xor x y) ≡ true
    known_xor x y p q z = go (known_is x p) (known_is y q) z
      where
        go : Known f k live x → Known f k live y → ZeroOrNode f k (bit_xor x y) → known (bit_xor x y) ≡ true
        go (nothing d) b z = rw d q
        go (of_node a na la ea) (nothing e) z = rw (e, xor_zero_r x) p
        go (of_node a na la ea) (of_node b nb lb eb) (inl e) = is_known (nothing e)
        go (of_node a na la ea) (of_node b nb lb eb) (inr h) =
            let n = node_of_lem f k r (bit_xor x y) h in
            let l : live (node_of f k (bit_xor x y)) ≡ true
            = third_live a b (node_of f k (bit_xor x y)) na nb n.is_node la lb (n.has ∙ ap₂ bit_xor (sym ea) (sym eb)) in
            is_known (of_node (node_of f k (bit_xor x y)) n.is_node l n.has)
