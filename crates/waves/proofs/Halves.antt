-- Live after r waves, and the XOR of at most 2^r nodes live at the start: the first gives the second by doubling, and the second the
-- first by halving, where a sum that is a node's column can be cut into two halves that are 0 or nodes' columns.
-- Assumes nothing.
use mathlib.Core.Path.{◌≡◌, refl, sym, ap, ap₂, ◌∙◌}
use mathlib.Core.Bool.{Bool, true, false}
use mathlib.Core.List.{List}
use mathlib.Core.Logic.{inl, inr}
use Prim.Native.Nat.{ℕ, zero, suc, ◌+◌, ◌^◌, ◌≤◌}
use native.Mathlib.Nat.{pow-suc}
use native.Mathlib.Omega.{arith}
use borrow.Author.Tests.{eq-eqb, eqb-true}
use lib.Bits.{bit_xor, xor_zero_r}
use lib.ListN.{length}
use lib.Pow.{pow_pos}
use Rattle.base.proofs.Xor.{xor_third, xor_third_of}
use Rattle.families.specs.declared.Family.{Family}
use Rattle.families.specs.Families.{KInRange, IsNode, column_of, node_of, are_related}
use Rattle.families.proofs.Laws.{ZeroOrNode, Known, nothing, of_node, column, column_once, node_of_lem}
use Rattle.lists.specs.Lists.{is_live}
use Rattle.waves.proofs.WaveLaws.{after_waves, waves_keep, waves_only, waves_get}
use Rattle.waves.specs.Waves.{SumOf, Reached}
use Rattle.waves.proofs.Sums.{Parts, sum_more, sum_is, sum_one, one_is, sum_join}

-- a sum of m + m nodes in two of m, each of which is 0 or a node's column
pub record Halves (f : Family) (k : ℕ) (marks : List Bool) (m c : ℕ) : Type 0 where
  pub parts : Parts f k marks m m c
  pub left_column : ZeroOrNode f k parts.left
  pub right_column : ZeroOrNode f k parts.right

-- every sum that is a node's column can be halved so
abbrev pub Halving : Family → ℕ → List Bool → Type 0
Halving f k marks = (m j : ℕ) → 1 ≤ m → IsNode f k j → SumOf f k marks (m + m) (column_of f k j) → Halves f k marks m (column_of f k j)

-- live after r waves
abbrev pub live_after : Family → ℕ → List Bool → ℕ → ℕ → Bool
live_after f k marks r j = is_live (after_waves f k marks r) j

module _ (f : Family) (k : ℕ) (range : KInRange f k) (marks : List Bool) where
  abbrev live : ℕ → ℕ → Bool
  live = live_after f k marks

  -- ---- upward

  pub upward : (r j : ℕ) → IsNode f k j → live r j ≡ true → Reached f k marks j r
  unfolding after_waves are_related
  upward zero j n h = sum_one j (record { node = n; live = h })
  upward (suc r) j n h = go (live r j) refl (λ i m g. upward r i m g)
    where
      go : (b : Bool) → live r j ≡ b → ((i : ℕ) → IsNode f k i → live r i ≡ true → Reached f k marks i r) → Reached f k marks j (suc r)
      go true e before = sum_more (omega (arith, pow-suc 2 r)) (before j n e)
      go false e before =
          let p = waves_only f k range marks r j e h in
          let s : column_of f k j ≡ bit_xor (column_of f k p.one) (column_of f k p.other)
          = xor_third (column_of f k p.one) (column_of f k p.other) (column_of f k j) (eqb-true _ 0 p.related) in
          sum_is (sym s) (sum_more (omega (arith, pow-suc 2 r))
          (sum_join (before p.one p.one_live.node p.one_live.live) (before p.other p.other_live.node p.other_live.live)))

  -- ---- downward

  -- a sum of one node is the node itself
  single : (j : ℕ) → IsNode f k j → SumOf f k marks 1 (column_of f k j) → is_live marks j ≡ true
  single j n s = go (one_is s)
    where
      go : Known f k (is_live marks) (column_of f k j) → is_live marks j ≡ true
      go (nothing e) = absurd (omega (arith, (column f k j range n).positive))
      go (of_node x m l e) = rw (column_once f k x j range m n e) at l

  module _ (size : length marks ≡ 256) where
    -- two halves that are live after r waves make the whole live after one more
    from_halves : (r j : ℕ) → IsNode f k j → ((i : ℕ) → IsNode f k i → Reached f k marks i r → live r i ≡ true)
        → Halves f k marks (2 ^ r) (column_of f k j) → live (suc r) j ≡ true
    unfolding are_related
    from_halves r j n before h = go h.left_column h.right_column
      where
        x : ℕ
        x = h.parts.left

        y : ℕ
        y = h.parts.right

        go : ZeroOrNode f k x → ZeroOrNode f k y → live (suc r) j ≡ true
        go (inl e) c = waves_keep f k marks r j (before j n (sum_is (ap (λ (z : ℕ). bit_xor z y) (sym e) ∙ h.parts.whole) h.parts.right_sum))
        go (inr l) (inl e) =
            waves_keep f k marks r j (before j n (sum_is (sym (xor_zero_r x) ∙ ap (bit_xor x) (sym e) ∙ h.parts.whole) h.parts.left_sum))
        go (inr l) (inr q) =
            let a = node_of_lem f k range x l in
            let b = node_of_lem f k range y q in
            waves_get f k range marks size r j n
            (record {
              one = node_of f k x;
              other = node_of f k y;
              one_live = record { node = a.is_node; live = before (node_of f k x) a.is_node (sum_is (sym a.has) h.parts.left_sum) };
              other_live = record { node = b.is_node; live = before (node_of f k y) b.is_node (sum_is (sym b.has) h.parts.right_sum) };
              related = eq-eqb _ 0 (xor_third_of (column_of f k (node_of f k x)) (column_of f k (node_of f k y)) (column_of f k j) (sym h.parts.whole ∙ ap₂ bit_xor (sym a.has) (sym b.has)));
            })

    pub downward : Halving f k marks → (r j : ℕ) → IsNode f k j → Reached f k marks j r → live r j ≡ true
    unfolding after_waves
    downward halving zero j n s = single j n s
    downward halving (suc r) j n s =
        from_halves r j n (λ i m t. downward halving r i m t) (halving (2 ^ r) j (pow_pos r) n (sum_more (omega (arith, pow-suc 2 r)) s))
