-- Weight-two: the table of how many nodes of a list have each number, and how many missing nodes have a third node with node j by it.
-- Assumes nothing.
use Rattle.families.specs.Inner.{third_node, unit}
use mathlib.Core.Path.{◌≡◌, refl, ap₂, ◌∙◌}
use mathlib.Core.Bool.{Bool, true, false, cond}
use mathlib.Core.List.{List, [], ◌∷◌, map}
use Prim.Native.Nat.{ℕ, zero, suc, ◌+◌, ◌-◌, ◌*◌, ◌/◌, ◌^◌, ◌≤◌, ◌<◌}
use native.Mathlib.Nat.{zero-add}
use native.Mathlib.Numerals.{add-one}
use native.Mathlib.Omega.{arith}
use borrow.Author.Tests.{ne_eqb}
use lib.Count.{count_trailing_zeros}
use lib.Dec.{eqb, ltb}
use lib.ListN.{length, get_or, drop, length-replicate, get_or-replicate, drop_of_length-le}
use lib.Pow.{pow_pos}
use lib.Seq.{drop-cons}
use Rattle.base.specs.Ranges.{those_from}
use Rattle.base.proofs.LowestBit.{lowest_power, lowest_sum}
use Rattle.base.proofs.Sums.{sum_same, sum_add, sum_only}
use Rattle.families.specs.declared.Family.{Family}
use Rattle.families.specs.declared.Family.TheVariants.{Simplex, WeightTwo, Tetrahedron}
use Rattle.families.specs.Families.{KInRange, IsNode, node_count, column_of}
use Rattle.families.proofs.EdgeLaws.{smaller_within}
use Rattle.families.proofs.PairLaws.{PairOf, pair_of}
use Rattle.encoding.proofs.EndLaws.{alone, ends, ends_sum}
use Rattle.lists.specs.Lists.{some_outside}
use Rattle.lists.proofs.Laws.{outside_both, nodes_inside}
use Rattle.counts.specs.Counts.{count_of, one_more, count_all, sum_of}
use Rattle.counts.proofs.Laws.{count_times, count_most, sum_one_most, sum_none}
use Rattle.pairing.specs.Inner.{with_third, first_end, second_end, ends_of, no_degrees, degrees_of}
use Rattle.pairing.proofs.Thirds.{counted}
use Rattle.pairing.proofs.EdgeThirds.{shared}
use Rattle.pairing.proofs.CountLaws.{sum_those}

-- ---- how far the table has come

-- an empty list has no numbers
pub degrees_none : (f : Family) (k : ℕ) → degrees_of f k [] ≡ no_degrees
unfolding degrees_of ends_of count_all
degrees_none Simplex k = refl
degrees_none WeightTwo k = refl
degrees_none Tetrahedron k = refl

-- what is left to be counted, from place i of the list on
pub record Ending (k : ℕ) (list now : List ℕ) (i : ℕ) : Type 0 where
  pub rest : count_all now (ends_of k (drop i list)) ≡ degrees_of WeightTwo k list
  pub few : sum_of now ≤ 2 * i

pub ending_none : (k : ℕ) (list : List ℕ) → Ending k list no_degrees 0
unfolding degrees_of
ending_none k list = record { rest = refl; few = omega (arith, sum_none 32) }

module _ {k : ℕ} {list now : List ℕ} {i : ℕ} (w : Ending k list now i) where
  pub ending_more : (column : ℕ) → i < length list → column ≡ column_of WeightTwo k (get_or list i 0)
      → Ending k list (one_more (one_more now (first_end column)) (second_end column)) (i + 1)
  unfolding count_all ends_of
  ending_more column h e =
      record {
        rest = rw (e, add-one i) (rw (drop-cons list i 0 h) at w.rest);
        few = omega (arith, w.few, sum_one_most now (first_end column), sum_one_most (one_more now (first_end column)) (second_end column));
      }

  -- no count is the most that 16 bits hold
  pub ending_fits : i ≤ 255 → (j x : ℕ) → (count_of now x < 65535) × (count_of (one_more now j) x < 65535)
  ending_fits h j x = (omega (arith, w.few, count_most now x), omega (arith, w.few, sum_one_most now j, count_most (one_more now j) x))

  pub ending_done : length list ≤ i → now ≡ degrees_of WeightTwo k list
  unfolding count_all ends_of
  ending_done h = rw (drop_of_length-le list h) at w.rest

-- ---- the two numbers of a column

-- they are the pair's, in either order: a value for each adds up to the same
both_ends : (g : ℕ → ℕ) (a b : ℕ) → a < b → b ≤ 22 → g (first_end (unit a + unit b)) + g (second_end (unit a + unit b)) ≡ g a + g b
unfolding second_end
both_ends g a zero h l = absurd (omega arith)
both_ends g zero (suc b) h l =
    let t : count_trailing_zeros 64 (0 + 2 ^ b) ≡ b = rw (zero-add (2 ^ b)) (lowest_power 64 b (omega arith)) in
    let d : 0 + 2 ^ b - 2 ^ b ≡ 0 = omega arith in
    rw (t, d, add-one b) (omega arith)
both_ends g (suc a) (suc b) h l =
    let t : count_trailing_zeros 64 (2 ^ a + 2 ^ b) ≡ a = lowest_sum 64 a b (omega arith) (omega arith) in
    let d : 2 ^ a + 2 ^ b - 2 ^ a ≡ 2 ^ b = omega arith in
    rw (t, d, ne_eqb (2 ^ b) 0 (λ e. omega (arith, pow_pos b)), lowest_power 64 b (omega arith), add-one a, add-one b)

module _ (k : ℕ) (r : KInRange WeightTwo k) where
  abbrev col : ℕ → ℕ
  col = column_of WeightTwo k

  abbrev pair : (a : ℕ) → IsNode WeightTwo k a → PairOf k a
  pair a n = pair_of k a n.first n.last

  node_ends : (g : ℕ → ℕ) (a : ℕ) (n : IsNode WeightTwo k a) → g (first_end (col a)) + g (second_end (col a)) ≡ g (pair a n).smaller + g (pair a n).larger
  node_ends g a n = let p = pair a n in rw p.column (both_ends g p.smaller p.larger p.order (omega (arith, p.within, r.most)))

  -- both are in the table
  pub ends_few : (a : ℕ) → IsNode WeightTwo k a → (first_end (col a) < 32) × (second_end (col a) < 32)
  ends_few a n =
      let p = pair a n in
      let none = node_ends (λ x. x / 32) a n in
      (omega (arith, none, p.order, p.within, r.most), omega (arith, none, p.order, p.within, r.most))

  -- ---- the table's counts

  -- how many nodes of a list have x
  abbrev having : ℕ → List ℕ → ℕ
  having x list = sum_of (map (λ a. ends k x (col a)) list)

  times : (x : ℕ) (list : List ℕ) → some_outside (node_count WeightTwo k) list ≡ false → sum_of (map (λ i. cond (eqb i x) 1 0) (ends_of k list)) ≡ having x list
  unfolding ends_of sum_of alone
  times x [] o = refl
  times x (a ∷ list) o =
      let p = outside_both (node_count WeightTwo k) a list o in
      let n : IsNode WeightTwo k a = record { first = p.0.0; last = p.0.1 } in
      omega (arith, node_ends (alone x) a n, ends_sum (pair a n) x, times x list p.1)

  degree_is : (x : ℕ) (list : List ℕ) → x < 32 → some_outside (node_count WeightTwo k) list ≡ false → count_of (degrees_of WeightTwo k list) x ≡ having x list
  unfolding degrees_of
  degree_is x list h o =
      count_times no_degrees (ends_of k list) x (rw (length-replicate {A = ℕ} 32 0) h) ∙ ap₂ ◌+◌ (get_or-replicate 32 x 0 0 h) (times x list o) ∙ zero-add _

  -- ---- the missing nodes that have a third node with j

  module _ (j : ℕ) (nj : IsNode WeightTwo k j) (missing : ℕ → Bool) where
    abbrev list : List ℕ
    list = those_from missing 1 (node_count WeightTwo k)

    abbrev p : PairOf k j
    p = pair j nj

    by_ends : with_third WeightTwo k list j + cond (missing j) 2 0 ≡ having p.smaller list + having p.larger list
    unfolding counted
    by_ends =
        let n = node_count WeightTwo k in
        let s : ℕ → ℕ = λ a. ends k p.smaller (col a) in
        let l : ℕ → ℕ = λ a. ends k p.larger (col a) in
        let seen = sum_those (λ a. cond (ltb 0 (third_node WeightTwo k j a)) 1 0) missing 1 n in
        let own = sum_only (λ a. cond (missing a) 2 0) 1 n j nj.first (omega (arith, nj.last)) in
        let left = sum_add (λ a. cond (missing a) (cond (ltb 0 (third_node WeightTwo k j a)) 1 0) 0) (λ a. cond (eqb a j) (cond (missing a) 2 0) 0) 1 n in
        let same = sum_same (λ a. cond (missing a) (cond (ltb 0 (third_node WeightTwo k j a)) 1 0) 0 + cond (eqb a j) (cond (missing a) 2 0) 0)
        (λ a. cond (missing a) (s a) 0 + cond (missing a) (l a) 0) 1 n
        (λ a h u. each (missing a) (ltb 0 (third_node WeightTwo k j a)) (eqb a j) (s a) (l a) (shared k r j nj a (record { first = h; last = omega arith }))) in
        let right = sum_add (λ a. cond (missing a) (s a) 0) (λ a. cond (missing a) (l a) 0) 1 n in
        omega (arith, seen, own, left, same, right, sum_those s missing 1 n, sum_those l missing 1 n)
      where
        each : (x y z : Bool) (s l : ℕ) → cond y 1 0 + cond z 2 0 ≡ s + l → ◌≡◌ {A = ℕ} (cond x (cond y 1 0) 0 + cond z (cond x 2 0) 0) (cond x s 0 + cond x l 0)
        each true y z s l e = e
        each false y true s l e = refl
        each false y false s l e = refl

    -- by the table, at the two numbers of j's column
    pub by_table : with_third WeightTwo k list j + cond (missing j) 2 0
        ≡ count_of (degrees_of WeightTwo k list) (first_end (col j)) + count_of (degrees_of WeightTwo k list) (second_end (col j))
    by_table =
        let inside = nodes_inside missing (node_count WeightTwo k) in
        let both = node_ends (count_of (degrees_of WeightTwo k list)) j nj in
        let first = degree_is p.smaller list (omega (arith, smaller_within p, r.most)) inside in
        let second = degree_is p.larger list (omega (arith, p.within, r.most)) inside in
        omega (arith, by_ends, both, first, second)
