-- The numbers of a range that pass a test: those of one range after another, from the first of them on, which and how many they are; a
-- number outside a range; a value for each number of one.
-- Assumes nothing.
use mathlib.Core.Path.{◌≡◌, refl, sym, ap, ◌∙◌}
use mathlib.Core.Bool.{Bool, true, false, cond, not, ◌||◌}
use mathlib.Core.List.Memᴰ
use mathlib.Core.List.{List, Memᴰ, [], ◌∷◌, ◌++◌, append-nil}
use mathlib.Core.Logic.{◌⊎◌, inl, inr}
use Prim.Native.Nat.{ℕ, zero, suc, ◌+◌, ◌-◌, ◌≤◌, ◌<◌}
use native.Mathlib.Nat.{zero-add, add-zero, add-suc, suc-add, eq-zero-or-pos, le_of_suc-le-suc, not-suc-le-zero}
use native.Mathlib.Decide.{ℕ_discrete}
use native.Mathlib.Omega.{arith}
use borrow.Author.Tests.{ltb-false, lt-ltb, le-ltb}
use lib.Dec.{ltb}
use lib.ListN.{length, get_or}
use Rattle.base.specs.Ranges.{outside, first_from, those_from, list_from}
use Rattle.base.proofs.Tests.{or_neither, not_both}
use Rattle.base.proofs.First.{first_zero}

module _ (test : ℕ → Bool) where
  -- ---- those that pass, of one range after the other

  pub those_append : (j m n : ℕ) → those_from test j (m + n) ≡ those_from test j m ++ those_from test (j + m) n
  unfolding those_from
  those_append j zero n = rw (zero-add n, add-zero j)
  those_append j (suc m) n =
      rw (suc-add m n, add-suc j m, those_append (suc j) m n, suc-add j m) (front (test j) (those_from test (suc j) m) (those_from test (suc (j + m)) n))
    where
      front : (b : Bool) (xs ys : List ℕ) → cond b (j ∷ xs ++ ys) (xs ++ ys) ≡ cond b (j ∷ xs) xs ++ ys
      front true xs ys = refl
      front false xs ys = refl

  those_next : (j : ℕ) → those_from test 1 (j + 1) ≡ those_from test 1 j ++ cond (test (j + 1)) ((j + 1) ∷ []) []
  unfolding those_from
  those_next j =
      let e : 1 + j ≡ j + 1 = omega arith in
      those_append 1 j 1 ∙ rw e

  pub those_more : (j : ℕ) → test (j + 1) ≡ true → those_from test 1 (j + 1) ≡ those_from test 1 j ++ (j + 1) ∷ []
  those_more j h = those_next j ∙ simp h

  pub those_same : (j : ℕ) → test (j + 1) ≡ false → those_from test 1 (j + 1) ≡ those_from test 1 j
  those_same j h = those_next j ∙ simp (h, append-nil)

  -- ---- those that pass, from the first of them on

  pub those_none : (j m : ℕ) → 1 ≤ j → first_from test j m ≡ 0 → those_from test j m ≡ []
  unfolding first_from those_from
  those_none j zero h e = refl
  those_none j (suc m) h e = go (test j) e (λ g. those_none (suc j) m (omega arith) g)
    where
      go : (b : Bool) → cond b j (first_from test (suc j) m) ≡ 0 → (first_from test (suc j) m ≡ 0 → those_from test (suc j) m ≡ [])
          → cond b (j ∷ those_from test (suc j) m) (those_from test (suc j) m) ≡ []
      go true g later = absurd (omega arith)
      go false g later = later g

  pub those_first : (j m i : ℕ) → first_from test j m ≡ i → 1 ≤ i → those_from test j m ≡ i ∷ those_from test (suc i) (j + m - suc i)
  unfolding first_from those_from
  those_first j zero i e h = absurd (omega arith)
  those_first j (suc m) i e h = go (test j) e (λ g. those_first (suc j) m i g h)
    where
      go : (b : Bool) → cond b j (first_from test (suc j) m) ≡ i
          → (first_from test (suc j) m ≡ i → those_from test (suc j) m ≡ i ∷ those_from test (suc i) (suc j + m - suc i))
          → cond b (j ∷ those_from test (suc j) m) (those_from test (suc j) m) ≡ i ∷ those_from test (suc i) (j + suc m - suc i)
      go true g later =
          let e : j + suc m - suc j ≡ m = omega arith in
          rw (← g, e)
      go false g later =
          let e : j + suc m - suc i ≡ suc j + m - suc i = omega arith in
          rw e (later g)

  -- where there are none, none passes
  pub none_those : (j m : ℕ) → 1 ≤ j → those_from test j m ≡ [] → (i : ℕ) → j ≤ i → i < j + m → test i ≡ false
  none_those j m h e = first_zero test j m h (go (eq-zero-or-pos (first_from test j m)))
    where
      go : (first_from test j m ≡ 0) ⊎ (0 < first_from test j m) → first_from test j m ≡ 0
      go (inl g) = g
      go (inr g) = absurd (omega (arith, ap length (sym e ∙ those_first j m (first_from test j m) refl g)))

  -- ---- which are among them

  -- a number of the range that passes is one of those
  pub those_has : (j m i : ℕ) → j ≤ i → i < j + m → test i ≡ true → Memᴰ i (those_from test j m)
  unfolding those_from
  those_has j zero i l h t = absurd (omega arith)
  those_has j (suc m) i l h t = go (test j) refl (ℕ_discrete i j) (λ g. those_has (suc j) m i g (omega arith) t)
    where
      rest : List ℕ
      rest = those_from test (suc j) m

      go : (b : Bool) → test j ≡ b → Dec (i ≡ j) → (suc j ≤ i → Memᴰ i rest) → Memᴰ i (cond b (j ∷ rest) rest)
      go true e (yes q) later = Memᴰ.head q
      go true e (no n) later = Memᴰ.tail (later (omega arith))
      go false e (yes q) later = absurd (not_both (test i) t (ap test q ∙ e))
      go false e (no n) later = later (omega arith)

  -- what one of those is
  pub record Passing (j m i : ℕ) : Type 0 where
    pub from : j ≤ i
    pub below : i < j + m
    pub passes : test i ≡ true

  pub those_are : (j m i : ℕ) → Memᴰ i (those_from test j m) → Passing j m i
  unfolding those_from
  those_are j zero i h = absurd (Memᴰ.not-nil h)
  those_are j (suc m) i h = go (test j) refl h (λ g. those_are (suc j) m i g)
    where
      rest : List ℕ
      rest = those_from test (suc j) m

      wider : Passing (suc j) m i → Passing j (suc m) i
      wider p = record { from = omega (arith, p.from); below = omega (arith, p.below); passes = p.passes }

      go : (b : Bool) → test j ≡ b → Memᴰ i (cond b (j ∷ rest) rest) → (Memᴰ i rest → Passing (suc j) m i) → Passing j (suc m) i
      go true e (Memᴰ.head q) later = record { from = omega arith; below = omega arith; passes = ap test q ∙ e }
      go true e (Memᴰ.tail g) later = wider (later g)
      go false e g later = wider (later g)

  -- ---- how many

  -- as many do not pass as are not among those that do
  pub others_count : (j m : ℕ) → length (those_from (λ i. not (test i)) j m) + length (those_from test j m) ≡ m
  unfolding those_from
  others_count j zero = refl
  others_count j (suc m) = go (test j) (those_from (λ i. not (test i)) (suc j) m) (those_from test (suc j) m) (others_count (suc j) m)
    where
      go : (b : Bool) (others those : List ℕ) → length others + length those ≡ m → length (cond (not b) (j ∷ others) others) + length (cond b (j ∷ those) those) ≡ suc m
      go true others those e = omega arith
      go false others those e = omega arith

  -- where all pass, there are as many as numbers
  pub all_pass : (j m : ℕ) → ((i : ℕ) → j ≤ i → i < j + m → test i ≡ true) → length (those_from test j m) ≡ m
  unfolding those_from
  all_pass j zero h = refl
  all_pass j (suc m) h = rw (h j (omega arith) (omega arith)) (ap suc (all_pass (suc j) m (λ i a b. h i (omega arith) (omega arith))))

-- tests that agree pass alike
pub same_from : (s t : ℕ → Bool) (j m : ℕ) → ((i : ℕ) → j ≤ i → i < j + m → s i ≡ t i) → those_from s j m ≡ those_from t j m
unfolding those_from
same_from s t j zero h = refl
same_from s t j (suc m) h = rw (h j (omega arith) (omega arith), same_from s t (suc j) m (λ i a b. h i (omega arith) (omega arith)))

-- two tests that differ at x alone, where the first passes: it passes once more
module _ (p q : ℕ → Bool) (x : ℕ) (passes : p x ≡ true) (fails : q x ≡ false) (others : (i : ℕ) → (i ≡ x → ⊥) → p i ≡ q i) where
  pub count_one : (j m : ℕ) → j ≤ x → x < j + m → length (those_from p j m) ≡ suc (length (those_from q j m))
  unfolding those_from
  count_one j zero l h = absurd (omega arith)
  count_one j (suc m) l h = go (ℕ_discrete j x) (λ g. count_one (suc j) m g (omega arith))
    where
      go : Dec (j ≡ x) → (suc j ≤ x → length (those_from p (suc j) m) ≡ suc (length (those_from q (suc j) m))) → length (those_from p j (suc m)) ≡ suc (length (those_from q j (suc m)))
      go (yes e) later = rw (e, passes, fails, same_from p q (suc x) m (λ i a b. others i (λ g. omega arith)))
      go (no e) later = rw (others j e) (push (q j) (those_from p (suc j) m) (those_from q (suc j) m) (later (omega arith)))
        where
          push : (b : Bool) (s t : List ℕ) → length s ≡ suc (length t) → length (cond b (j ∷ s) s) ≡ suc (length (cond b (j ∷ t) t))
          push true s t g = ap suc g
          push false s t g = g

-- ---- a number outside a range

pub outside_low : (least most number : ℕ) → number < least → outside least most number ≡ true
outside_low least most number h = rw (lt-ltb number least h)

pub outside_high : (least most number : ℕ) → most < number → outside least most number ≡ true
outside_high least most number h = or-true (ltb number least) (ltb most number) (lt-ltb most number h)
  where
    or-true : (a b : Bool) → b ≡ true → (a || b) ≡ true
    or-true true b e = refl
    or-true false b e = e

pub outside_no : (least most number : ℕ) → least ≤ number → number ≤ most → outside least most number ≡ false
outside_no least most number h g = simp (le-ltb number least h, le-ltb most number g)

pub inside : (least most number : ℕ) → outside least most number ≡ false → (least ≤ number) × (number ≤ most)
inside least most number h =
    let n = or_neither (ltb number least) (ltb most number) h in
    (ltb-false number least n.0, ltb-false most number n.1)

-- ---- a value for each number of a range

module _ {A : Type 0} (g : ℕ → A) where
  pub length-list_from : (j m : ℕ) → length (list_from g j m) ≡ m
  unfolding list_from
  length-list_from j zero = refl
  length-list_from j (suc m) = ap suc (length-list_from (suc j) m)

  from : (j m i : ℕ) (d : A) → i < m → get_or (list_from g j m) i d ≡ g (j + i)
  unfolding list_from
  from j zero i d h = absurd (not-suc-le-zero h)
  from j (suc m) zero d h = ap g (sym (add-zero j))
  from j (suc m) (suc i) d h = from (suc j) m i d (le_of_suc-le-suc h) ∙ ap g (suc-add j i ∙ sym (add-suc j i))

  pub get_or-list_from : (m i : ℕ) (d : A) → i < m → get_or (list_from g 0 m) i d ≡ g i
  get_or-list_from m i d h = from 0 m i d h ∙ ap g (zero-add i)
