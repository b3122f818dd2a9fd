-- The search by itself: where one node alone is counted, the walk from the number before it finds that node, or nothing.
-- Assumes nothing.
use mathlib.Core.Path.{◌≡◌, refl, ap, ◌∙◌}
use mathlib.Core.Bool.{Bool}
use mathlib.Core.List.Memᴰ
use mathlib.Core.List.{List, Memᴰ, [], ◌∷◌}
use mathlib.Core.Logic.{◌⊎◌, inl, inr}
use Prim.Native.Nat.{ℕ, suc, ◌-◌, ◌≤◌, ◌<◌}
use native.Mathlib.Nat.{eq-zero-or-pos}
use native.Mathlib.Decide.{ℕ_discrete}
use native.Mathlib.Omega.{arith}
use borrow.Author.Tests.{lt-ltb, le-ltb, ne_eqb}
use lib.ListN.{length-replicate, get_or-replicate}
use Rattle.base.proofs.First.{first_of, first_none}
use Rattle.base.proofs.Tests.{and_both}
use Rattle.families.specs.declared.Family.{Family}
use Rattle.families.specs.Families.{KInRange, IsNode, node_count}
use Rattle.families.proofs.Laws.{few}
use Rattle.counts.specs.Counts.{no_counts, count_of}
use Rattle.pairing.specs.Pairs.{smaller_node, pair_count, pairs_among, pairs_of}
use Rattle.pairing.specs.Inner.{count_each, next_found, found_at, found_in}
use Rattle.pairing.proofs.EachLaws.{each_listed, each_other}
use Rattle.pairing.proofs.NoneLaws.{some_count, none_count}
use Rattle.pairing.proofs.SearchLaws.{is_found, found_none, found_some}
use Rattle.pairing.specs.declared.Found.{Found}
use Rattle.std.specs.Prelude.{None, Some}

module _ (f : Family) (k : ℕ) (r : KInRange f k) (marks : List Bool) (j : ℕ) (nj : IsNode f k j) where
  abbrev counts : List ℕ
  counts = count_each f k marks no_counts (j ∷ [])

  own : count_of counts j ≡ pair_count f k marks j
  own = each_listed f k marks no_counts (rw (length-replicate {A = ℕ} 256 0) (omega (arith, nj.last, few f k r))) (Memᴰ.head refl)

  other : (i : ℕ) → i < 256 → (i ≡ j → ⊥) → count_of counts i ≡ 0
  other i h n = each_other f k marks no_counts (j ∷ []) i out ∙ get_or-replicate 256 i 0 0 h
    where
      out : Memᴰ i (j ∷ []) → ⊥
      out (Memᴰ.head e) = n e
      out (Memᴰ.tail m) = Memᴰ.not-nil m

  pub found_alone : (found_at f k marks counts (next_found f k marks counts (j - 1))).pairs ≡ pairs_of f k marks j
  unfolding found_at pairs_among
  found_alone = go (eq-zero-or-pos (pair_count f k marks j))
    where
      from : suc (j - 1) ≡ j
      from = omega (arith, nj.first)

      go : (pair_count f k marks j ≡ 0) ⊎ (0 < pair_count f k marks j) → (found_at f k marks counts (next_found f k marks counts (j - 1))).pairs ≡ pairs_of f k marks j
      go (inl e) =
          let none : next_found f k marks counts (j - 1) ≡ 0 =
          first_none (is_found f k marks counts) (suc (j - 1)) (node_count f k - (j - 1)) (λ i l u. rw (le-ltb 0 (count_of counts i) (zero_at i (omega (arith, few f k r)) (ℕ_discrete i j)))) in
          rw (none, none_count f k marks j e)
        where
          zero_at : (i : ℕ) → i < 256 → Dec (i ≡ j) → count_of counts i ≤ 0
          zero_at i h (yes q) = omega (arith, ap (count_of counts) q, own, e)
          zero_at i h (no n) = omega (arith, other i h n)
      go (inr h) =
          let small = some_count f k marks j h in
          let found : next_found f k marks counts (j - 1) ≡ j =
          first_of (is_found f k marks counts) (suc (j - 1)) (node_count f k - (j - 1)) j (omega (arith, from)) (omega (arith, nj.first, nj.last))
          (and_both _ _ (lt-ltb 0 (count_of counts j) (omega (arith, own))) (lt-ltb 0 (smaller_node f k marks j) small)) (λ i l u. absurd (omega (arith, from))) in
          rw (found, ne_eqb j 0 (λ z. omega (arith, nj.first)), ne_eqb (smaller_node f k marks j) 0 (λ z. omega arith), own)

  -- what the walk in which j alone is counted finds
  pub alone_some : {x : Found} {own_counts : List ℕ} → own_counts ≡ counts → Some x ≡ found_in f k marks own_counts (next_found f k marks own_counts (j - 1)) → x.pairs ≡ pairs_of f k marks j
  alone_some {x} {own_counts} c e =
      ap (λ (y : Found). y.pairs) (found_some f k marks own_counts (next_found f k marks own_counts (j - 1)) e).0 ∙ rw c found_alone

  pub alone_none : {own_counts : List ℕ} → own_counts ≡ counts → None ≡ found_in f k marks own_counts (next_found f k marks own_counts (j - 1)) → record { smaller = 0; larger = 0; count = 0 } ≡ pairs_of f k marks j
  unfolding found_at
  alone_none {own_counts} c e =
      let z : next_found f k marks counts (j - 1) ≡ 0 = rw (← c) (found_none f k marks own_counts (next_found f k marks own_counts (j - 1)) e) in
      (rw z at found_alone)
