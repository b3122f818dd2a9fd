-- The walk over the table that leaves out what is at a bound or above, and the array of what is left.
-- Assumes nothing.
use mathlib.Core.Path.{◌≡◌, refl, ap, ◌∙◌}
use mathlib.Core.Bool.{Bool, true, false, cond}
use mathlib.Core.List.{List, [], ◌∷◌, ◌++◌, append-nil}
use Prim.Native.Nat.{ℕ, suc, ◌+◌, ◌-◌, ◌^◌, ◌≤◌, ◌<◌}
use native.Mathlib.Numerals.{add-one}
use native.Mathlib.Omega.{arith}
use borrow.Author.Tests.{lt-ltb, le-ltb}
use lib.Dec.{ltb}
use lib.ListN.{length, get_or, set, take, replicate, length-take, get_or-append}
use lib.Seq.{take-suc, take_all}
use Rattle.families.specs.Families.{KInRange}
use Rattle.families.specs.declared.Family.TheVariants.{Simplex}
use Rattle.lists.proofs.Walks.{padded, pad_more}
use Rattle.lists.proofs.Laws.{either, outside_none}
use Rattle.graded.specs.Order.{graded_table, below, columns_left}
use Rattle.graded.proofs.TableLaws.{table_size}
use Rattle.graded.proofs.NumberLaws.{left_size, left_inside}

module _ (bound : ℕ) where
  below-append : (s t : List ℕ) → below bound (s ++ t) ≡ below bound s ++ below bound t
  unfolding below
  below-append [] t = refl
  below-append (x ∷ s) t = rw (below-append s t) (front (ltb x bound))
    where
      front : (b : Bool) → cond b (x ∷ (below bound s ++ below bound t)) (below bound s ++ below bound t) ≡ cond b (x ∷ below bound s) (below bound s) ++ below bound t
      front true = refl
      front false = refl

  pub below_few : (list : List ℕ) → length (below bound list) ≤ length list
  unfolding below
  below_few [] = omega arith
  below_few (x ∷ list) =
      let h = below_few list in
      either (λ s. length s ≤ suc (length list)) (ltb x bound) x (below bound list) (λ t. omega arith) (λ f. omega arith)

  -- what is left of the first i columns of the table
  abbrev pub left_of : ℕ → List ℕ
  left_of i = below bound (take i graded_table)

  next : (i : ℕ) → i < 255 → left_of (i + 1) ≡ left_of i ++ cond (ltb (get_or graded_table i 0) bound) (get_or graded_table i 0 ∷ []) []
  unfolding below
  next i h =
      ap (λ (m : ℕ). below bound (take m graded_table)) (add-one i) ∙ ap (below bound) (take-suc graded_table i 0 (omega (arith, table_size)))
      ∙ below-append (take i graded_table) (get_or graded_table i 0 ∷ [])

  pub left_more : (i : ℕ) → i < 255 → get_or graded_table i 0 < bound → left_of (i + 1) ≡ left_of i ++ get_or graded_table i 0 ∷ []
  left_more i h t = next i h ∙ rw (lt-ltb (get_or graded_table i 0) bound t)

  pub left_same : (i : ℕ) → i < 255 → bound ≤ get_or graded_table i 0 → left_of (i + 1) ≡ left_of i
  left_same i h f = next i h ∙ rw (le-ltb (get_or graded_table i 0) bound f) (append-nil (left_of i))

  pub left_few : (i : ℕ) → length (left_of i) ≤ i
  left_few i = omega (arith, below_few (take i graded_table), length-take i graded_table)

  pub left_all : (i : ℕ) → 255 ≤ i → left_of i ≡ below bound graded_table
  left_all i h = ap (below bound) (take_all i graded_table (omega (arith, table_size)))

-- the array: 0, then what is left, then zeros
abbrev pub array_of : List ℕ → List ℕ
array_of left = padded (0 ∷ left)

pub array_more : (left : List ℕ) (c : ℕ) → length left < 255 → set (array_of left) (length left + 1) c ≡ array_of (left ++ c ∷ [])
array_more left c h = ap (λ (m : ℕ). set (array_of left) m c) (add-one (length left)) ∙ pad_more (0 ∷ left) c (omega arith)

pub array_all : (left : List ℕ) → array_of left ≡ 0 ∷ left ++ replicate (255 - length left) 0
array_all left =
    let e : 256 - suc (length left) ≡ 255 - length left = omega arith in
    ap (λ (m : ℕ). 0 ∷ left ++ replicate m 0) e

-- what the array has at a position
module _ (k : ℕ) (r : KInRange Simplex k) (p : ℕ) (h : 1 ≤ p) (g : p ≤ 2 ^ k - 1) where
  pub array_at : get_or (0 ∷ columns_left k ++ replicate (256 - 2 ^ k) 0) p 0 ≡ get_or (columns_left k) (p - 1) 0
  array_at =
      let e : p ≡ suc (p - 1) = omega arith in
      ap (λ (i : ℕ). get_or (0 ∷ columns_left k ++ replicate (256 - 2 ^ k) 0) i 0) e ∙ get_or-append (columns_left k) (replicate (256 - 2 ^ k) 0) 0 (p - 1) (omega (arith, left_size k r))

  pub column_in : (1 ≤ get_or (columns_left k) (p - 1) 0) × (get_or (columns_left k) (p - 1) 0 ≤ 2 ^ k - 1)
  column_in = outside_none (2 ^ k - 1) (columns_left k) (left_inside k r) (p - 1) (omega (arith, left_size k r))
