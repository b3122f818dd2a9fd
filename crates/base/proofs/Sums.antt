-- Sums of numbers over a range: term by term, one after the other in either order, of a single term, and turned by an involution.
-- Assumes nothing.
use mathlib.Core.Path.{◌≡◌, refl, sym, ap, ap₂, ◌∙◌}
use mathlib.Core.Bool.{Bool, true, false, cond}
use mathlib.Core.List.{List, ◌∷◌}
use Prim.Native.Nat.{ℕ, zero, suc, ◌+◌, ◌*◌, ◌≤◌, ◌<◌}
use native.Mathlib.Nat.{zero-add, add-zero, add-suc, suc-add}
use native.Mathlib.Decide.{ℕ_discrete}
use native.Mathlib.Omega.{arith}
use borrow.Author.Tests.{eq-eqb, ne_eqb, eqb-true, lt-ltb}
use lib.Dec.{eqb, ltb}
use lib.ListN.{length}
use Rattle.base.specs.Ranges.{those_from}
use Rattle.base.proofs.Tests.{same_answer}

-- the sum of g over j, j + 1, .., of which there are m
unfoldable pub sum_from : (ℕ → ℕ) → ℕ → ℕ → ℕ
sum_from g j zero = 0
sum_from g j (suc m) = g j + sum_from g (suc j) m

-- so many pass a test
pub count_sum : (test : ℕ → Bool) (j m : ℕ) → length (those_from test j m) ≡ sum_from (λ i. cond (test i) 1 0) j m
unfolding those_from sum_from
count_sum test j zero = refl
count_sum test j (suc m) = go (test j) (those_from test (suc j) m) (count_sum test (suc j) m)
  where
    go : (b : Bool) (later : List ℕ) {s : ℕ} → length later ≡ s → length (cond b (j ∷ later) later) ≡ cond b 1 0 + s
    go true later e = omega arith
    go false later e = omega arith

-- ---- term by term

pub sum_same : (g h : ℕ → ℕ) (j m : ℕ) → ((i : ℕ) → j ≤ i → i < j + m → g i ≡ h i) → sum_from g j m ≡ sum_from h j m
unfolding sum_from
sum_same g h j zero e = refl
sum_same g h j (suc m) e = ap₂ ◌+◌ (e j (omega arith) (omega arith)) (sum_same g h (suc j) m (λ i a b. e i (omega arith) (omega arith)))

pub sum_add : (g h : ℕ → ℕ) (j m : ℕ) → sum_from (λ i. g i + h i) j m ≡ sum_from g j m + sum_from h j m
unfolding sum_from
sum_add g h j zero = refl
sum_add g h j (suc m) = omega (arith, sum_add g h (suc j) m)

pub sum_const : (c j m : ℕ) → sum_from (λ i. c) j m ≡ m * c
unfolding sum_from
sum_const c j zero = omega arith
sum_const c j (suc m) = omega (arith, sum_const c (suc j) m)

pub sum_zero : (g : ℕ → ℕ) (j m : ℕ) → ((i : ℕ) → j ≤ i → i < j + m → g i ≡ 0) → sum_from g j m ≡ 0
sum_zero g j m e = sum_same g (λ i. 0) j m e ∙ sum_const 0 j m ∙ omega arith

pub sum_most : (g h : ℕ → ℕ) (j m : ℕ) → ((i : ℕ) → j ≤ i → i < j + m → g i ≤ h i) → sum_from g j m ≤ sum_from h j m
unfolding sum_from
sum_most g h j zero e = omega arith
sum_most g h j (suc m) e = omega (arith, e j (omega arith) (omega arith), sum_most g h (suc j) m (λ i a b. e i (omega arith) (omega arith)))

-- one term is at most the sum
pub sum_least : (g : ℕ → ℕ) (j m x : ℕ) → j ≤ x → x < j + m → g x ≤ sum_from g j m
unfolding sum_from
sum_least g j zero x l h = absurd (omega arith)
sum_least g j (suc m) x l h = go (ℕ_discrete j x) (λ n. sum_least g (suc j) m x n (omega arith))
  where
    go : Dec (j ≡ x) → (suc j ≤ x → g x ≤ sum_from g (suc j) m) → g x ≤ g j + sum_from g (suc j) m
    go (yes e) later = omega (arith, ap g e)
    go (no n) later = omega (arith, later (omega arith))

-- ---- of one range after the other, and of one that begins c further on

pub sum_append : (g : ℕ → ℕ) (j m n : ℕ) → sum_from g j (m + n) ≡ sum_from g j m + sum_from g (j + m) n
unfolding sum_from
sum_append g j zero n = rw (zero-add n, add-zero j) (omega arith)
sum_append g j (suc m) n = rw (suc-add m n, add-suc j m) (omega (arith, rw (suc-add j m) at (sum_append g (suc j) m n)))

pub sum_shift : (g : ℕ → ℕ) (j m c : ℕ) → sum_from (λ i. g (i + c)) j m ≡ sum_from g (j + c) m
unfolding sum_from
sum_shift g j zero c = refl
sum_shift g j (suc m) c = ap (λ (x : ℕ). g (j + c) + x) (rw (suc-add j c) at (sum_shift g (suc j) m c))

-- ---- the sum of sums, in either order

pub sum_swap : (g : ℕ → ℕ → ℕ) (j m i n : ℕ) → sum_from (λ a. sum_from (λ b. g a b) i n) j m ≡ sum_from (λ b. sum_from (λ a. g a b) j m) i n
unfolding sum_from
sum_swap g j zero i n = sym (sum_zero (λ b. 0) i n (λ b l h. refl))
sum_swap g j (suc m) i n = ap (λ (x : ℕ). sum_from (g j) i n + x) (sum_swap g (suc j) m i n) ∙ sym (sum_add (g j) (λ b. sum_from (λ a. g a b) (suc j) m) i n)

-- ---- of all terms that at x alone

pub sum_none : (g : ℕ → ℕ) (j m x : ℕ) → (j ≤ x → x < j + m → ⊥) → sum_from (λ i. cond (eqb i x) (g i) 0) j m ≡ 0
sum_none g j m x out = sum_zero _ j m (λ i l h. rw (ne_eqb i x (λ e. out (omega arith) (omega arith))))

pub sum_only : (g : ℕ → ℕ) (j m x : ℕ) → j ≤ x → x < j + m → sum_from (λ i. cond (eqb i x) (g i) 0) j m ≡ g x
unfolding sum_from
sum_only g j zero x l h = absurd (omega arith)
sum_only g j (suc m) x l h = go (ℕ_discrete j x) (λ n. sum_only g (suc j) m x n (omega arith))
  where
    go : Dec (j ≡ x) → (suc j ≤ x → sum_from (λ i. cond (eqb i x) (g i) 0) (suc j) m ≡ g x) → cond (eqb j x) (g j) 0 + sum_from (λ i. cond (eqb i x) (g i) 0) (suc j) m ≡ g x
    go (yes e) later = rw (eq-eqb j x e, sum_none g (suc j) m x (λ a b. omega arith)) (omega (arith, ap g e))
    go (no n) later = rw (ne_eqb j x n) (omega (arith, later (omega arith)))

-- the same of the numbers 1 to n and x of 0 to n: it is not there where x is 0
pub sum_at : (g : ℕ → ℕ) (n x : ℕ) → x ≤ n → sum_from (λ i. cond (eqb i x) (g i) 0) 1 n ≡ cond (ltb 0 x) (g x) 0
sum_at g n zero h = sum_none g 1 n 0 (λ a b. omega arith)
sum_at g n (suc x) h = rw (lt-ltb 0 (suc x) (omega arith)) (sum_only g 1 n (suc x) (omega arith) (omega arith))

-- ---- t is an involution on those of the numbers 1 to n for which it is not 0

module _ (n : ℕ) (t : ℕ → ℕ) (within : (a : ℕ) → 1 ≤ a → a ≤ n → t a ≤ n) (back : (a : ℕ) → 1 ≤ a → a ≤ n → 1 ≤ t a → t (t a) ≡ a) where
  -- b is where a turns to, and so a where b does
  turned : (a b : ℕ) → 1 ≤ a → a ≤ n → 1 ≤ b → eqb b (t a) ≡ true → eqb a (t b) ≡ true
  turned a b ha la hb e = let q : b ≡ t a = eqb-true b (t a) e in eq-eqb a (t b) (sym (ap t q ∙ back a ha la (omega arith)))

  pub sum_turn : (g : ℕ → ℕ) → sum_from (λ a. cond (ltb 0 (t a)) (g (t a)) 0) 1 n ≡ sum_from (λ a. cond (ltb 0 (t a)) (g a) 0) 1 n
  sum_turn g =
      sum_same _ (λ a. sum_from (λ b. cond (eqb b (t a)) (g b) 0) 1 n) 1 n (λ a l h. sym (sum_at g n (t a) (within a l (omega arith))))
      ∙ sum_swap (λ a b. cond (eqb b (t a)) (g b) 0) 1 n 1 n ∙ sum_same (λ b. sum_from (λ a. cond (eqb b (t a)) (g b) 0) 1 n) _ 1 n column
    where
      column : (b : ℕ) → 1 ≤ b → b < 1 + n → sum_from (λ a. cond (eqb b (t a)) (g b) 0) 1 n ≡ cond (ltb 0 (t b)) (g b) 0
      column b l h =
          sum_same _ (λ a. cond (eqb a (t b)) (g b) 0) 1 n
          (λ a i u. ap (λ (x : Bool). cond x (g b) 0) (same_answer _ _ (turned a b i (omega arith) l) (turned b a l (omega arith) i)))
          ∙ sum_at (λ a. g b) n (t b) (within b l (omega arith))
