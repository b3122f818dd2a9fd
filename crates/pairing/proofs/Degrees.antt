-- Weight-two: of each of the numbers 0 to k there are k nodes that have it as one of their two.
-- Assumes nothing.
use mathlib.Core.Path.{◌≡◌, refl, sym, ap, ap₂, ◌∙◌}
use Prim.Native.Nat.{ℕ, zero, suc, ◌+◌, ◌-◌, ◌≤◌, ◌<◌}
use native.Mathlib.Decide.{ℕ_discrete}
use native.Mathlib.Omega.{arith}
use Rattle.base.proofs.Sums.{sum_from, sum_same, sum_const, sum_append, sum_shift, sum_only}
use Rattle.families.specs.declared.Family.TheVariants.{WeightTwo}
use Rattle.families.specs.Families.{node_count, column_of}
use Rattle.families.proofs.PairLaws.{smaller_at, larger_at, smaller_near, larger_near, smaller_far, larger_far, pairs, pair_count, PairOf, pair_of, placed, place_of}
use Rattle.encoding.proofs.EndLaws.{alone, alone_yes, alone_no, ends, ends_sum}

-- 1 where x is one of the two numbers of the pair at a place of the pairs of 0 to m, else 0
at : ℕ → ℕ → ℕ → ℕ
at m x place = alone x (smaller_at m place) + alone x (larger_at m place)

-- first comes the row of 0 with each other number, and then the pairs of the others, which are those of one number fewer, one up
module _ (m x : ℕ) (g h : ℕ → ℕ) (first : (i : ℕ) → alone x 0 + alone x (suc i) ≡ g i)
    (later : (i : ℕ) → alone x (suc (smaller_at m i)) + alone x (suc (larger_at m i)) ≡ h i) where
  rows : sum_from (at (suc m) x) 0 (pairs (suc m)) ≡ sum_from g 0 (suc m) + sum_from h 0 (pairs m)
  unfolding at
  rows =
      sum_append (at (suc m) x) 0 (suc m) (pairs m)
      ∙ ap₂ ◌+◌ (sum_same (at (suc m) x) g 0 (suc m) (λ i l u. near i (omega arith)))
      (sym (sum_shift (at (suc m) x) 0 (pairs m) (suc m)) ∙ sum_same (λ i. at (suc m) x (i + suc m)) h 0 (pairs m) (λ i l u. far i))
    where
      near : (i : ℕ) → i < suc m → at (suc m) x i ≡ g i
      near i l = rw (smaller_near m i l, larger_near m i l) (first i)

      far : (i : ℕ) → at (suc m) x (i + suc m) ≡ h i
      far i =
          let e : i + suc m - suc m ≡ i = omega arith in
          rw (smaller_far m (i + suc m) (omega arith), larger_far m (i + suc m) (omega arith), e) (later i)

alone_suc : (x y : ℕ) → alone (suc x) (suc y) ≡ alone x y
alone_suc x y = go (ℕ_discrete y x)
  where
    go : Dec (y ≡ x) → alone (suc x) (suc y) ≡ alone x y
    go (yes e) = alone_yes (suc x) (suc y) (ap suc e) ∙ sym (alone_yes x y e)
    go (no n) = alone_no (suc x) (suc y) (λ e. n (omega arith)) ∙ sym (alone_no x y n)

alone_zero : (y : ℕ) → alone 0 (suc y) ≡ 0
alone_zero y = alone_no 0 (suc y) (λ e. omega arith)

alone_once : (x m : ℕ) → x < m → sum_from (alone x) 0 m ≡ 1
unfolding alone
alone_once x m h = sum_only (λ i. 1) 0 m x (omega arith) (omega arith)

-- of the pairs of 0 to m, m have x
at_all : (m x : ℕ) → x ≤ m → sum_from (at m x) 0 (pairs m) ≡ m
unfolding sum_from at
at_all zero x h = refl
at_all (suc m) zero h =
    rows m 0 (λ i. 1) (λ i. 0) (λ i. rw (alone_zero i, alone_yes 0 0 refl)) (λ i. rw (alone_zero (smaller_at m i), alone_zero (larger_at m i)))
    ∙ ap₂ ◌+◌ (sum_const 1 0 (suc m)) (sum_const 0 0 (pairs m)) ∙ omega arith
at_all (suc m) (suc x) h =
    rows m (suc x) (alone x) (at m x) (λ i. rw (alone_no (suc x) 0 (λ e. omega arith), alone_suc x i) (omega arith))
    (λ i. rw (alone_suc x (smaller_at m i), alone_suc x (larger_at m i)))
    ∙ ap₂ ◌+◌ (alone_once x (suc m) h) (at_all m x (omega arith)) ∙ omega arith

module _ (k : ℕ) where
  at_node : (x a : ℕ) → 1 ≤ a → a ≤ node_count WeightTwo k → ends k x (column_of WeightTwo k a) ≡ at k x (a - 1)
  unfolding at
  at_node x a h g =
      let p : PairOf k a = pair_of k a h g in
      let q = placed k p.smaller p.larger p.order p.within in
      let e : a - 1 ≡ place_of k p.smaller p.larger = omega (arith, p.node) in
      ends_sum p x ∙ rw (e, q.smaller, q.larger)

  -- k nodes end at x
  pub degree : (x : ℕ) → x ≤ k → sum_from (λ a. ends k x (column_of WeightTwo k a)) 1 (node_count WeightTwo k) ≡ k
  degree x h =
      sum_same _ (λ a. at k x (a - 1)) 1 (node_count WeightTwo k) (λ a l u. at_node x a l (omega arith))
      ∙ sym (sum_shift (λ a. at k x (a - 1)) 0 (node_count WeightTwo k) 1)
      ∙ sum_same _ (at k x) 0 (node_count WeightTwo k) (λ i l u. ap (at k x) (omega arith))
      ∙ rw (pair_count k) (at_all k x h)
