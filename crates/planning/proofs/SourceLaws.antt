-- The nodes that steps read and repair: that they are nodes, and how often each is read.
-- Assumes nothing.
use mathlib.Core.Path.{◌≡◌, refl, sym, ap, ◌∙◌}
use mathlib.Core.Bool.{Bool, true, false, cond, ◌||◌}
use mathlib.Core.List.{List, [], ◌∷◌, ◌++◌, flat_map}
use Prim.Native.Nat.{ℕ, suc, ◌+◌, ◌*◌, ◌≤◌, ◌<◌}
use native.Mathlib.Decide.{ℕ_discrete}
use native.Mathlib.Omega.{arith}
use borrow.Author.Tests.{eq-eqb, ne_eqb}
use lib.Dec.{eqb}
use lib.ListN.{length, set, length-set}
use Rattle.base.proofs.ListLaws.{flat_map-append}
use Rattle.families.specs.declared.Family.{Family}
use Rattle.families.specs.Families.{KInRange, node_count}
use Rattle.families.proofs.Laws.{few, related_differ}
use Rattle.lists.specs.Lists.{some_outside}
use Rattle.lists.proofs.Laws.{outside_cons}
use Rattle.counts.specs.Counts.{count_of, one_more, count_all}
use Rattle.counts.proofs.Laws.{count_same, count_other}
use Rattle.planning.specs.Claims.{CanMakeAll}
use Rattle.planning.specs.Plan.{Step, repaired_nodes, sources_of, times_read}

-- two a step
pub length_sources : (steps : List Step) → length (sources_of steps) ≡ 2 * length steps
unfolding sources_of flat_map
length_sources [] = refl
length_sources (x ∷ steps) = omega (arith, length_sources steps)

pub sources_append : (s t : List Step) → sources_of (s ++ t) ≡ sources_of s ++ sources_of t
unfolding sources_of
sources_append s t = flat_map-append _ s t

module _ (f : Family) (k : ℕ) where
  pub sources_inside : (marks : List Bool) (steps : List Step) → CanMakeAll f k marks steps → some_outside (node_count f k) (sources_of steps) ≡ false
  unfolding sources_of flat_map some_outside
  sources_inside marks [] a = refl
  sources_inside marks (x ∷ steps) (m, a) =
      outside_cons (node_count f k) x.smaller (x.larger ∷ sources_of steps) m.smaller.first m.smaller.last
      (outside_cons (node_count f k) x.larger (sources_of steps) m.larger.first m.larger.last (sources_inside (set marks x.node true) steps a))

  pub repaired_inside : (marks : List Bool) (steps : List Step) → CanMakeAll f k marks steps → some_outside (node_count f k) (repaired_nodes steps) ≡ false
  unfolding some_outside
  repaired_inside marks [] a = refl
  repaired_inside marks (x ∷ steps) (m, a) =
      outside_cons (node_count f k) x.node (repaired_nodes steps) m.node.first m.node.last (repaired_inside (set marks x.node true) steps a)

-- ---- how many steps read a node

-- one of two sources, which differ, is counted once
read_once : (counts : List ℕ) (a b j : ℕ) → a < length counts → b < length counts → (a ≡ b → ⊥)
    → count_of (one_more (one_more counts a) b) j ≡ count_of counts j + cond (eqb j a || eqb j b) 1 0
read_once counts a b j la lb differ = go (ℕ_discrete j a) (ℕ_discrete j b)
  where
    go : Dec (j ≡ a) → Dec (j ≡ b) → count_of (one_more (one_more counts a) b) j ≡ count_of counts j + cond (eqb j a || eqb j b) 1 0
    go (yes e) (yes g) = absurd (differ (sym e ∙ g))
    go (yes e) (no g) =
        count_other (one_more counts a) b j g
        ∙ rw (eq-eqb j a e) (ap (count_of (one_more counts a)) e ∙ count_same counts a la ∙ ap (λ (i : ℕ). count_of counts i + 1) (sym e))
    go (no e) (yes g) =
        ap (count_of (one_more (one_more counts a) b)) g
        ∙ count_same (one_more counts a) b (omega (arith, length-set counts a (count_of counts a + 1)))
        ∙ ap (λ (i : ℕ). count_of (one_more counts a) i + 1) (sym g)
        ∙ simp (ne_eqb j a e, eq-eqb j b g) (ap (λ (c : ℕ). c + 1) (count_other counts a j e))
    go (no e) (no g) =
        count_other (one_more counts a) b j g
        ∙ count_other counts a j e
        ∙ simp (ne_eqb j a e, ne_eqb j b g) (omega arith)

module _ (f : Family) (k : ℕ) (range : KInRange f k) (j : ℕ) where
  -- a step that can be made reads two nodes that differ
  pub reads_are : (counts : List ℕ) (marks : List Bool) (steps : List Step) → length counts ≡ 256 → CanMakeAll f k marks steps
      → count_of (count_all counts (sources_of steps)) j ≡ count_of counts j + times_read j steps
  unfolding count_all sources_of flat_map times_read
  reads_are counts marks [] size a = omega arith
  reads_are counts marks (x ∷ steps) size (m, a) =
      let most = few f k range in
      let c = one_more counts x.smaller in
      let once =
      read_once counts x.smaller x.larger j (omega (arith, size, m.smaller.last, most)) (omega (arith, size, m.larger.last, most))
      (related_differ f k range x.smaller x.larger x.node m.node m.related) in
      let long : length (one_more c x.larger) ≡ 256 = length-set c x.larger (count_of c x.larger + 1) ∙ length-set counts x.smaller (count_of counts x.smaller + 1) ∙ size in
      omega (arith, once, reads_are (one_more c x.larger) (set marks x.node true) steps long a)

-- a step reads a node once at most
pub times_few : (j : ℕ) (steps : List Step) → times_read j steps ≤ length steps
unfolding times_read
times_few j [] = omega arith
times_few j (x ∷ steps) = go (eqb j x.smaller || eqb j x.larger) (times_few j steps)
  where
    go : (b : Bool) → times_read j steps ≤ length steps → cond b 1 0 + times_read j steps ≤ suc (length steps)
    go true h = omega arith
    go false h = omega arith
