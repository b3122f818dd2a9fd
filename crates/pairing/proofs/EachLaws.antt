-- Counts in which each node of a list has its own: how far they are made, and what they then are.
-- Assumes nothing.
use mathlib.Core.Path.{◌≡◌, refl, ◌∙◌}
use mathlib.Core.Bool.{Bool}
use mathlib.Core.List.{List, Memᴰ, [], ◌∷◌}
use Prim.Native.Nat.{ℕ, ◌+◌, ◌≤◌, ◌<◌}
use native.Mathlib.Decide.{ℕ_discrete}
use native.Mathlib.Numerals.{add-one}
use native.Mathlib.Omega.{arith}
use lib.ListN.{length, get_or, set, drop, drop_of_length-le, length-set}
use lib.Seq.{drop-cons, get_or-set_same, get_or-set_other}
use Rattle.families.specs.declared.Family.{Family}
use Rattle.counts.specs.Counts.{no_counts, count_of}
use Rattle.pairing.specs.Pairs.{pair_count}
use Rattle.pairing.specs.Inner.{count_each}

-- the counts of the nodes from place i of the list on are left to be made
pub record Making (f : Family) (k : ℕ) (marks : List Bool) (nodes counts : List ℕ) (i : ℕ) : Type 0 where
  pub rest : count_each f k marks counts (drop i nodes) ≡ count_each f k marks no_counts nodes

module _ {f : Family} {k : ℕ} {marks : List Bool} {nodes counts : List ℕ} {i : ℕ} (w : Making f k marks nodes counts i) where
  pub making_more : {j count : ℕ} → i < length nodes → j ≡ get_or nodes i 0 → count ≡ pair_count f k marks j → Making f k marks nodes (set counts j count) (i + 1)
  unfolding count_each
  making_more h e g = record { rest = rw (g, e, add-one i) (rw (drop-cons nodes i 0 h) at w.rest) }

  pub making_done : length nodes ≤ i → counts ≡ count_each f k marks no_counts nodes
  unfolding count_each
  making_done h = rw (drop_of_length-le nodes h) at w.rest

module _ (f : Family) (k : ℕ) (marks : List Bool) where
  pub each_other : (counts list : List ℕ) (j : ℕ) → (Memᴰ j list → ⊥) → count_of (count_each f k marks counts list) j ≡ count_of counts j
  unfolding count_each
  each_other counts [] j out = refl
  each_other counts (x ∷ list) j out =
      each_other (set counts x (pair_count f k marks x)) list j (λ m. out (Memᴰ.tail m))
      ∙ get_or-set_other counts x j (pair_count f k marks x) 0 (λ e. out (Memᴰ.head e))

  -- a number that has its own count keeps it
  each_keeps : (counts list : List ℕ) (j : ℕ) → j < length counts → count_of counts j ≡ pair_count f k marks j → count_of (count_each f k marks counts list) j ≡ pair_count f k marks j
  unfolding count_each
  each_keeps counts [] j h e = e
  each_keeps counts (x ∷ list) j h e = each_keeps (set counts x (pair_count f k marks x)) list j (omega (arith, length-set counts x (pair_count f k marks x))) (go (ℕ_discrete j x))
    where
      go : Dec (j ≡ x) → count_of (set counts x (pair_count f k marks x)) j ≡ pair_count f k marks j
      go (yes q) = rw q (get_or-set_same counts x (pair_count f k marks x) 0 (omega arith))
      go (no n) = get_or-set_other counts x j (pair_count f k marks x) 0 n ∙ e

  pub each_listed : {j : ℕ} {list : List ℕ} (counts : List ℕ) → j < length counts → Memᴰ j list → count_of (count_each f k marks counts list) j ≡ pair_count f k marks j
  unfolding count_each
  each_listed {j = j} counts h (Memᴰ.head {x} {xs} e) =
      each_keeps (set counts x (pair_count f k marks x)) xs j (omega (arith, length-set counts x (pair_count f k marks x))) (rw e (get_or-set_same counts x (pair_count f k marks x) 0 (omega arith)))
  each_listed counts h (Memᴰ.tail {x} m) = each_listed (set counts x (pair_count f k marks x)) (omega (arith, length-set counts x (pair_count f k marks x))) m
