-- Simplex and tetrahedron: the columns are all the numbers of k digits but 0 and one more, the hole.
-- Assumes nothing.
use mathlib.Core.Path.{◌≡◌, refl}
use mathlib.Core.Bool.{Bool}
use mathlib.Core.Logic.{inl, inr}
use Prim.Native.Nat.{ℕ, suc, ◌-◌, ◌^◌, ◌≤◌, ◌<◌}
use native.Mathlib.Decide.{ℕ_discrete}
use native.Mathlib.Omega.{arith}
use borrow.Author.Tests.{ltb-true}
use lib.Dec.{ltb}
use lib.ListN.{get_or}
use Rattle.base.proofs.Tests.{all_below, all_below_lem}
use Rattle.families.specs.Families.{KInRange, node_count, column_of, node_of}
use Rattle.families.specs.declared.Family.{Family}
use Rattle.families.specs.declared.Family.TheVariants.{Simplex, Tetrahedron}
use Rattle.families.proofs.Laws.{ZeroOrNode, zero_none, simplex_below}
use Rattle.families.proofs.Proved.{tetrahedron_claim}
use Rattle.families.proofs.TetrahedronLaws.{nodes, node_entry}

pub record Full (f : Family) (k hole : ℕ) : Type 0 where
  pub every : (c : ℕ) → 1 ≤ c → c < 2 ^ k → (c ≡ hole → ⊥) → 1 ≤ node_of f k c
  pub none_at_hole : node_of f k hole ≡ 0

-- a number of k digits is 0 or a node's column, unless it is a hole other than 0
pub full_column : {f : Family} {k hole : ℕ} → Full f k hole → (c : ℕ) → c < 2 ^ k → (c ≡ hole → c ≡ 0) → ZeroOrNode f k c
full_column {f} {k} {hole} full c below only = go (ℕ_discrete c 0)
  where
    go : Dec (c ≡ 0) → ZeroOrNode f k c
    go (yes e) = inl e
    go (no n) = inr (full.every c (omega arith) below (λ e. n (only e)))

-- here the hole is 0 itself
pub simplex_full : (k : ℕ) → KInRange Simplex k → Full Simplex k 0
simplex_full k r = record { every = λ c h l n. omega (arith, simplex_below k c r l); none_at_hole = zero_none Simplex k r }

abbrev entry_test : ℕ → Bool
entry_test i = ltb 0 (get_or nodes (suc i) 0)

pub tetrahedron_full : (k : ℕ) → KInRange Tetrahedron k → Full Tetrahedron k 15
unfolding all_below node_of column_of node_count
tetrahedron_full k r = record { every = λ c h l n. every c h (rw four at l) n; none_at_hole = tetrahedron_claim }
  where
    four : k ≡ 4
    four = omega (arith, r.least, r.most)

    every : (c : ℕ) → 1 ≤ c → c < 16 → (c ≡ 15 → ⊥) → 1 ≤ node_of Tetrahedron 4 c
    every c h l n =
        let e : suc (c - 1) ≡ c = omega arith in
        let t : 0 < get_or nodes (suc (c - 1)) 0 = ltb-true 0 (get_or nodes (suc (c - 1)) 0) (all_below_lem entry_test 14 refl (c - 1) (omega arith)) in
        rw (node_entry c l) (rw e at t)
