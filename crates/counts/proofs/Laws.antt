-- Counts: their sum and what one more for a number does to it, and counts against numbers that are no nodes'.
-- Assumes nothing.
use mathlib.Core.Path.{◌≡◌, refl, sym, ap, ◌∙◌}
use mathlib.Core.Bool.{true, false, cond, false≢true}
use mathlib.Core.List.{List, [], ◌∷◌, ◌++◌, map}
use Prim.Native.Nat.{ℕ, zero, suc, ◌+◌, ◌≤◌, ◌<◌}
use native.Mathlib.Decide.{ℕ_discrete}
use native.Mathlib.Omega.{arith}
use borrow.Author.Tests.{eq-eqb, ne_eqb}
use lib.Dec.{eqb, ltb}
use lib.ListN.{length, replicate, length-set}
use lib.Seq.{get_or-set_same, get_or-set_other}
use Rattle.std.proofs.lemmas.List.Sums.{sum_by-cons}
use Rattle.std.specs.Prelude.{sum}
use Rattle.lists.specs.Lists.{some_outside}
use Rattle.lists.proofs.Laws.{outside_both, passes_inside, passes_one_more}
use Rattle.counts.specs.Counts.{no_counts, count_of, one_more, count_all, sum_of, counted_outside}

-- ---- the sum

pub sum_is : (counts : List ℕ) → sum_of counts ≡ sum counts
unfolding sum_of
sum_is [] = refl
sum_is (x ∷ counts) = rw (sum_is counts) (sym (sum_by-cons (λ y. y) x counts))

-- one count is at most the sum
pub count_most : (counts : List ℕ) (j : ℕ) → count_of counts j ≤ sum_of counts
unfolding sum_of
count_most [] j = omega arith
count_most (x ∷ counts) zero = omega arith
count_most (x ∷ counts) (suc j) = omega (arith, count_most counts j)

pub sum_none : (m : ℕ) → sum_of (replicate m 0) ≡ 0
unfolding sum_of
sum_none zero = refl
sum_none (suc m) = omega (arith, sum_none m)

-- ---- one more

pub sum_one : (counts : List ℕ) (j : ℕ) → j < length counts → sum_of (one_more counts j) ≡ suc (sum_of counts)
unfolding sum_of
sum_one [] j h = absurd (omega arith)
sum_one (x ∷ counts) zero h = omega arith
sum_one (x ∷ counts) (suc j) h = omega (arith, sum_one counts j (omega arith))

-- a number without a count adds nothing
pub sum_one_most : (counts : List ℕ) (j : ℕ) → sum_of (one_more counts j) ≤ suc (sum_of counts)
unfolding sum_of
sum_one_most [] j = omega arith
sum_one_most (x ∷ counts) zero = omega arith
sum_one_most (x ∷ counts) (suc j) = omega (arith, sum_one_most counts j)

pub count_same : (counts : List ℕ) (j : ℕ) → j < length counts → count_of (one_more counts j) j ≡ count_of counts j + 1
count_same counts j h = get_or-set_same counts j (count_of counts j + 1) 0 h

pub count_other : (counts : List ℕ) (j i : ℕ) → (i ≡ j → ⊥) → count_of (one_more counts j) i ≡ count_of counts i
count_other counts j i h = get_or-set_other counts j i (count_of counts j + 1) 0 h

-- ---- one more for each number of a list

pub length-count_all : (counts list : List ℕ) → length (count_all counts list) ≡ length counts
unfolding count_all
length-count_all counts [] = refl
length-count_all counts (j ∷ list) = length-count_all (one_more counts j) list ∙ length-set counts j (count_of counts j + 1)

pub count_append : (counts a b : List ℕ) → count_all counts (a ++ b) ≡ count_all (count_all counts a) b
unfolding count_all
count_append counts [] b = refl
count_append counts (j ∷ a) b = count_append (one_more counts j) a b

-- the sum grows by the length of the list at most
pub sum_all_most : (counts list : List ℕ) → sum_of (count_all counts list) ≤ sum_of counts + length list
unfolding count_all
sum_all_most counts [] = omega arith
sum_all_most counts (j ∷ list) = omega (arith, sum_all_most (one_more counts j) list, sum_one_most counts j)

-- a count grows by how often its number is in the list
pub count_times : (counts list : List ℕ) (j : ℕ) → j < length counts → count_of (count_all counts list) j ≡ count_of counts j + sum_of (map (λ i. cond (eqb i j) 1 0) list)
unfolding count_all sum_of
count_times counts [] j h = omega arith
count_times counts (i ∷ list) j h = go (ℕ_discrete i j) (count_times (one_more counts i) list j (omega (arith, length-set counts i (count_of counts i + 1))))
  where
    times : ℕ
    times = sum_of (map (λ i. cond (eqb i j) 1 0) list)

    go : Dec (i ≡ j) → count_of (count_all (one_more counts i) list) j ≡ count_of (one_more counts i) j + times
        → count_of (count_all (one_more counts i) list) j ≡ count_of counts j + (cond (eqb i j) 1 0 + times)
    go (yes e) later = rw (eq-eqb i j e) (omega (arith, later, ap (λ (x : ℕ). count_of (one_more counts x) j) e, count_same counts j h))
    go (no n) later = rw (ne_eqb i j n) (omega (arith, later, count_other counts i j (λ e. n (sym e))))

-- the sum grows by the length of the list, whose numbers all have a count
pub sum_all : (n : ℕ) (counts list : List ℕ) → n < length counts → some_outside n list ≡ false → sum_of (count_all counts list) ≡ sum_of counts + length list
unfolding count_all
sum_all n counts [] h o = omega arith
sum_all n counts (j ∷ list) h o =
    let p = outside_both n j list o in
    omega (arith, sum_all n (one_more counts j) list (omega (arith, length-set counts j (count_of counts j + 1))) p.1, sum_one counts j (omega arith))

-- ---- counts against 0 and above n

pub none_outside : (n : ℕ) → counted_outside n no_counts ≡ false
none_outside n = passes_inside n (λ j. ltb 0 (count_of no_counts j)) (λ i h t. absurd (zeros 256 i t))
  where
    zeros : (m i : ℕ) → ltb 0 (count_of (replicate m 0) i) ≡ true → ⊥
    zeros zero i t = false≢true t
    zeros (suc m) zero t = false≢true t
    zeros (suc m) (suc i) t = zeros m i t

pub one_outside : (n : ℕ) (counts : List ℕ) (j : ℕ) → 1 ≤ j → j ≤ n → counted_outside n counts ≡ false → counted_outside n (one_more counts j) ≡ false
one_outside n counts j h g o = passes_one_more n (λ i. ltb 0 (count_of counts i)) (λ i. ltb 0 (count_of (one_more counts j) i)) j h g (λ i e. ap (ltb 0) (count_other counts j i e)) o

pub all_outside : (n : ℕ) (counts list : List ℕ) → some_outside n list ≡ false → counted_outside n counts ≡ false → counted_outside n (count_all counts list) ≡ false
unfolding count_all
all_outside n counts [] l o = o
all_outside n counts (j ∷ list) l o =
    let p = outside_both n j list l in
    all_outside n (one_more counts j) list p.1 (one_outside n counts j p.0.0 p.0.1 o)
