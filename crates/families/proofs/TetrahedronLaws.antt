-- The tetrahedron's table: its facts at all fourteen nodes and all sixteen columns, each by one computed test.
-- Assumes nothing.
use mathlib.Core.Path.{◌≡◌, refl, subst}
use mathlib.Core.Bool.{Bool, true, false, ◌&&◌, ◌||◌}
use mathlib.Core.List.{List, [], ◌∷◌}
use Prim.Native.Nat.{ℕ, suc, ◌-◌, ◌^◌, ◌≤◌, ◌<◌}
use native.Mathlib.Omega.{arith}
use borrow.Author.Tests.{eqb-true, ne_eqb, ltb-true, leb-true}
use lib.Count.{count_trailing_zeros}
use lib.Dec.{eqb, ltb, leb}
use lib.ListN.{get_or}
use Rattle.base.specs.Ranges.{first_from}
use Rattle.base.proofs.Tests.{and_left, and_right, all_below, all_below_lem}
use Rattle.base.proofs.First.{first_none}
use Rattle.families.specs.Families.{column_of, node_of, node_count}
use Rattle.families.specs.declared.Family.TheVariants.{Tetrahedron}

-- the nodes of columns 0 to 15, as the code has them
abbrev pub nodes : List ℕ
nodes = 0 ∷ 1 ∷ 2 ∷ 6 ∷ 3 ∷ 5 ∷ 7 ∷ 8 ∷ 4 ∷ 12 ∷ 9 ∷ 13 ∷ 10 ∷ 14 ∷ 11 ∷ 0 ∷ []

abbrev node_test : ℕ → Bool
node_test c = eqb (node_of Tetrahedron 4 c) (get_or nodes c 0)

pub node_entry : (c : ℕ) → c < 16 → node_of Tetrahedron 4 c ≡ get_or nodes c 0
unfolding all_below node_of first_from column_of node_count
node_entry c h = eqb-true (node_of Tetrahedron 4 c) (get_or nodes c 0) (all_below_lem node_test 16 refl c h)

abbrev column : ℕ → ℕ
column i = column_of Tetrahedron 4 (suc i)

abbrev column_test : ℕ → Bool
column_test i = ltb 0 (column i) && (ltb (column i) 16 && eqb (node_of Tetrahedron 4 (column i)) (suc i))

-- of a node
pub record Entry (j : ℕ) : Type 0 where
  pub positive : 1 ≤ column_of Tetrahedron 4 j
  pub below : column_of Tetrahedron 4 j < 16
  pub back : node_of Tetrahedron 4 (column_of Tetrahedron 4 j) ≡ j

pub entry : (j : ℕ) → 1 ≤ j → j ≤ 14 → Entry j
unfolding all_below node_of first_from column_of node_count
entry j h g = subst Entry (omega arith) (from_0 (j - 1) (omega arith))
  where
    from_0 : (i : ℕ) → i < 14 → Entry (suc i)
    from_0 i l =
        let t : column_test i ≡ true = all_below_lem column_test 14 refl i l in
        let u = and_right (ltb 0 (column i)) (ltb (column i) 16 && eqb (node_of Tetrahedron 4 (column i)) (suc i)) t in
        record {
          positive = ltb-true 0 (column i) (and_left (ltb 0 (column i)) _ t);
          below = ltb-true (column i) 16 (and_left (ltb (column i) 16) (eqb (node_of Tetrahedron 4 (column i)) (suc i)) u);
          back = eqb-true _ (suc i) (and_right (ltb (column i) 16) (eqb (node_of Tetrahedron 4 (column i)) (suc i)) u);
        }

-- column c stands at a node before i + 1
abbrev is_earlier : ℕ → ℕ → Bool
is_earlier i c = ltb 0 (node_of Tetrahedron 4 c) && leb (node_of Tetrahedron 4 c) i

-- the lowest bit of a node's column
abbrev bit : ℕ → ℕ
bit j = 2 ^ count_trailing_zeros 64 (column_of Tetrahedron 4 j)

abbrev source_test : ℕ → Bool
source_test i = eqb (column i - bit (suc i)) 0 || (is_earlier i (bit (suc i)) && is_earlier i (column i - bit (suc i)))

or_else : (a b : Bool) → (a || b) ≡ true → (a ≡ true → ⊥) → b ≡ true
or_else true b h n = absurd (n refl)
or_else false b h n = h

pub record Earlier (j c : ℕ) : Type 0 where
  pub first : 1 ≤ node_of Tetrahedron 4 c
  pub before : node_of Tetrahedron 4 c < j

earlier : (i c : ℕ) → is_earlier i c ≡ true → Earlier (suc i) c
earlier i c h =
    record {
      first = ltb-true 0 (node_of Tetrahedron 4 c) (and_left (ltb 0 (node_of Tetrahedron 4 c)) _ h);
      before = omega (arith, leb-true (node_of Tetrahedron 4 c) i (and_right (ltb 0 (node_of Tetrahedron 4 c)) _ h));
    }

pub record Sources (j : ℕ) : Type 0 where
  pub low : Earlier j (bit j)
  pub rest : Earlier j (column_of Tetrahedron 4 j - bit j)

pub sources : (j : ℕ) → 1 ≤ j → j ≤ 14 → (column_of Tetrahedron 4 j - bit j ≡ 0 → ⊥) → Sources j
unfolding all_below node_of first_from column_of node_count count_trailing_zeros
sources j h g = subst (λ (x : ℕ). (column_of Tetrahedron 4 x - bit x ≡ 0 → ⊥) → Sources x) (omega arith) (from_0 (j - 1) (omega arith))
  where
    from_0 : (i : ℕ) → i < 14 → (column i - bit (suc i) ≡ 0 → ⊥) → Sources (suc i)
    from_0 i l n =
        let t : source_test i ≡ true = all_below_lem source_test 14 refl i l in
        let u = or_else (eqb (column i - bit (suc i)) 0) (is_earlier i (bit (suc i)) && is_earlier i (column i - bit (suc i))) t (λ e. n (eqb-true (column i - bit (suc i)) 0 e)) in
        record {
          low = earlier i (bit (suc i)) (and_left (is_earlier i (bit (suc i))) _ u);
          rest = earlier i (column i - bit (suc i)) (and_right (is_earlier i (bit (suc i))) _ u);
        }

-- no column is 16 or above
pub node_above : (c : ℕ) → 16 ≤ c → node_of Tetrahedron 4 c ≡ 0
unfolding node_of node_count
node_above c h =
    first_none (λ j. eqb (column_of Tetrahedron 4 j) c) 1 14
    (λ j a b. ne_eqb (column_of Tetrahedron 4 j) c (λ e. omega (arith, e, (entry j a (omega arith)).below)))

-- each data block has a node
abbrev data_test : ℕ → Bool
data_test i = ltb 0 (node_of Tetrahedron 4 (2 ^ i))

pub data_node_lem : (i : ℕ) → i < 4 → 1 ≤ node_of Tetrahedron 4 (2 ^ i)
unfolding all_below node_of first_from column_of node_count
data_node_lem i h = ltb-true 0 (node_of Tetrahedron 4 (2 ^ i)) (all_below_lem data_test 4 refl i h)
