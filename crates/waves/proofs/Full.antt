-- Simplex and tetrahedron: how a sum that is a node's column is halved.
-- Assumes nothing.
use mathlib.Core.Path.{◌≡◌, sym, ap, ◌∙◌}
use mathlib.Core.Bool.{Bool}
use mathlib.Core.List.{List}
use mathlib.Core.Logic.{inl, inr}
use Prim.Native.Nat.{ℕ, zero, suc, ◌+◌, ◌≤◌}
use native.Mathlib.Decide.{ℕ_discrete}
use native.Mathlib.Omega.{arith}
use lib.Bits.{bit_xor, xor_comm, xor_self, xor_zero_r, xor_lt}
use Rattle.base.proofs.Xor.{xor_middle, xor_same}
use Rattle.families.specs.declared.Family.{Family}
use Rattle.families.specs.declared.Family.TheVariants.{Simplex, Tetrahedron}
use Rattle.families.specs.Families.{KInRange, IsNode, column_of}
use Rattle.families.proofs.FullLaws.{Full, full_column, simplex_full, tetrahedron_full}
use Rattle.families.proofs.Laws.{ZeroOrNode, Known, nothing, of_node, node_is}
use Rattle.lists.specs.Lists.{is_live}
use Rattle.waves.specs.Waves.{SumOf}
use Rattle.waves.proofs.Sums.{sum_more, one_is, sum_join, sum_cut, sum_below, sum_few}
use Rattle.waves.proofs.Halves.{Halves, Halving}

-- ---- simplex: every number of k digits is 0 or a column, so that any halves will do

pub simplex_halving : (k : ℕ) → KInRange Simplex k → (marks : List Bool) → Halving Simplex k marks
simplex_halving k r marks m j h n s =
    let p = sum_cut m m s in
    record {
      parts = p;
      left_column = full_column (simplex_full k r) p.left (sum_below Simplex k r marks p.left_sum) (λ e. e);
      right_column = full_column (simplex_full k r) p.right (sum_below Simplex k r marks p.right_sum) (λ e. e);
    }

-- ---- with a hole, and at most four digits: four nodes are enough

module _ (f : Family) (k hole : ℕ) (range : KInRange f k) (full : Full f k hole) (marks : List Bool) where
  -- of one node at most
  abbrev One : ℕ → Type 0
  One c = SumOf f k marks 1 c

  one_column : {c : ℕ} → One c → ZeroOrNode f k c
  one_column {c} s = go (one_is s)
    where
      go : Known f k (is_live marks) c → ZeroOrNode f k c
      go (nothing e) = inl e
      go (of_node x m l e) = inr (omega (arith, node_is f k range c x m e, m.first))

  -- the XOR of two sums of one node, unless it is the hole
  two : {x y : ℕ} → One x → One y → (bit_xor x y ≡ hole → ⊥) → ZeroOrNode f k (bit_xor x y)
  two {x} {y} s t n = full_column full (bit_xor x y) (xor_lt k x y (sum_below f k range marks s) (sum_below f k range marks t)) (λ e. absurd (n e))

  module _ (j : ℕ) (n : IsNode f k j) where
    abbrev whole : ℕ
    whole = column_of f k j

    in_halves : {a b c d : ℕ} → One a → One b → One c → One d → bit_xor (bit_xor a b) (bit_xor c d) ≡ whole
        → ZeroOrNode f k (bit_xor a b) → ZeroOrNode f k (bit_xor c d) → Halves f k marks 2 whole
    in_halves {a} {b} {c} {d} sa sb sc sd e p q =
        record {
          parts = record { left = bit_xor a b; right = bit_xor c d; left_sum = sum_join sa sb; right_sum = sum_join sc sd; whole = e };
          left_column = p;
          right_column = q;
        }

    -- where b and d are equal, a and c alone are the whole
    equal : {a b c d : ℕ} → One a → One b → One c → One d → bit_xor (bit_xor a b) (bit_xor c d) ≡ whole → b ≡ d → Halves f k marks 2 whole
    equal {a} {b} {c} {d} sa sb sc sd e q =
        let z : bit_xor b d ≡ 0 = rw q (xor_self d) in
        let m : bit_xor (bit_xor a c) (bit_xor b d) ≡ whole = sym (xor_middle a b c d) ∙ e in
        let w : bit_xor a c ≡ whole = sym (xor_zero_r (bit_xor a c)) ∙ ap (bit_xor (bit_xor a c)) (sym z) ∙ m in
        in_halves sa sc sb sd m (inr (omega (arith, node_is f k range (bit_xor a c) j n (sym w), n.first))) (inl z)

    -- of the three ways to pair four sums one has no pair that is the hole
    halves : {a b c d : ℕ} → One a → One b → One c → One d → bit_xor (bit_xor a b) (bit_xor c d) ≡ whole → Halves f k marks 2 whole
    halves {a} {b} {c} {d} sa sb sc sd e =
        go (ℕ_discrete (bit_xor a b) hole) (ℕ_discrete (bit_xor c d) hole) (ℕ_discrete (bit_xor a d) hole) (ℕ_discrete (bit_xor b c) hole)
      where
        turned : a ≡ c → Halves f k marks 2 whole
        turned q = equal sb sa sd sc (rw (xor_comm b a, xor_comm d c) e) q

        across : bit_xor (bit_xor a d) (bit_xor b c) ≡ whole
        across = ap (bit_xor (bit_xor a d)) (xor_comm b c) ∙ xor_middle a d c b ∙ sym (xor_middle a b c d ∙ ap (bit_xor (bit_xor a c)) (xor_comm b d)) ∙ e

        -- two pairs that are the hole have a node in common, so that the others are equal
        go : Dec (bit_xor a b ≡ hole) → Dec (bit_xor c d ≡ hole) → Dec (bit_xor a d ≡ hole) → Dec (bit_xor b c ≡ hole) → Halves f k marks 2 whole
        go (no p) (no q) x y = in_halves sa sb sc sd e (two sa sb p) (two sc sd q)
        go (no p) (yes q) (no x) (no y) = in_halves sa sd sb sc across (two sa sd x) (two sb sc y)
        go (no p) (yes q) (no x) (yes y) = equal sa sb sc sd e (xor_same c b d (xor_comm c b ∙ y ∙ sym q))
        go (no p) (yes q) (yes x) y = turned (xor_same d a c (xor_comm d a ∙ x ∙ sym q ∙ xor_comm c d))
        go (yes p) q (no x) (no y) = in_halves sa sd sb sc across (two sa sd x) (two sb sc y)
        go (yes p) q (no x) (yes y) = turned (xor_same b a c (xor_comm b a ∙ p ∙ sym y))
        go (yes p) q (yes x) y = equal sa sb sc sd e (xor_same a b d (p ∙ sym x))

    four : SumOf f k marks 4 whole → Halves f k marks 2 whole
    four s =
        let p = sum_cut 2 2 s in
        let q = sum_cut 1 1 p.left_sum in
        let t = sum_cut 1 1 p.right_sum in
        halves q.left_sum q.right_sum t.left_sum t.right_sum (rw (q.whole, t.whole) p.whole)

    halve : k ≤ 4 → (m : ℕ) → 1 ≤ m → SumOf f k marks (m + m) whole → Halves f k marks m whole
    halve l zero h s = absurd (omega arith)
    halve l (suc zero) h s =
        let p = sum_cut 1 1 s in
        record { parts = p; left_column = one_column p.left_sum; right_column = one_column p.right_sum }
    halve l (suc (suc m)) h s =
        let q = four (sum_more l (sum_few f k range marks s)) in
        record {
          parts = record {
            left = q.parts.left;
            right = q.parts.right;
            left_sum = sum_more (omega arith) q.parts.left_sum;
            right_sum = sum_more (omega arith) q.parts.right_sum;
            whole = q.parts.whole;
          };
          left_column = q.left_column;
          right_column = q.right_column;
        }

pub tetrahedron_halving : (k : ℕ) → KInRange Tetrahedron k → (marks : List Bool) → Halving Tetrahedron k marks
tetrahedron_halving k r marks m j h n s = halve Tetrahedron k 15 r (tetrahedron_full k r) marks j n r.most m h s
