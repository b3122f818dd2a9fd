-- A list made of a function of the places, and the table of columns that is filled node by node.
-- Assumes nothing.
use mathlib.Core.Path.{◌≡◌, refl, sym, ◌∙◌, ap, subst}
use mathlib.Core.Bool.{Bool, true, false, cond, ◌&&◌}
use mathlib.Core.List.{List}
use Prim.Native.Nat.{ℕ, zero, suc, ◌+◌, ◌-◌, ◌≤◌, ◌<◌}
use native.Mathlib.Decide.{ℕ_discrete, dec_le}
use native.Mathlib.Omega.{arith}
use borrow.Author.Tests.{le-leb, lt-leb}
use lib.Dec.{leb}
use lib.ListN.{length, get_or, set, replicate, length-set}
use lib.Seq.{ext_get_or, get_or-set_same, get_or-set_other}
use Rattle.families.proofs.Laws.{few}
use Rattle.families.specs.Families.{KInRange, IsNode, node_count, column_of}
use Rattle.base.specs.Ranges.{list_from}
use Rattle.base.proofs.RangeLaws.{length-list_from, get_or-list_from}
use Rattle.families.specs.Inner.{column_table}
use Rattle.families.specs.declared.Family.{Family}

-- a store changes the function at one place
pub set-list_from : (g h : ℕ → ℕ) (m i v : ℕ) → h i ≡ v → ((p : ℕ) → (p ≡ i → ⊥) → h p ≡ g p) → set (list_from g 0 m) i v ≡ list_from h 0 m
set-list_from g h m i v here other =
    ext_get_or 0 (set (list_from g 0 m) i v) (list_from h 0 m) (long ∙ sym (length-list_from h 0 m)) (λ p l. at p (rw long at l))
  where
    long : length (set (list_from g 0 m) i v) ≡ m
    long = length-set (list_from g 0 m) i v ∙ length-list_from g 0 m

    at : (p : ℕ) → p < m → get_or (set (list_from g 0 m) i v) p 0 ≡ get_or (list_from h 0 m) p 0
    at p l = go (ℕ_discrete p i)
      where
        go : Dec (p ≡ i) → get_or (set (list_from g 0 m) i v) p 0 ≡ get_or (list_from h 0 m) p 0
        go (yes e) = rw e (get_or-set_same (list_from g 0 m) i v 0 (rw (length-list_from g 0 m, ← e) l) ∙ sym here) ∙ sym (get_or-list_from h m p 0 l)
        go (no e) = get_or-set_other (list_from g 0 m) i p v 0 e ∙ get_or-list_from g m p 0 l ∙ sym (other p e) ∙ sym (get_or-list_from h m p 0 l)

-- the columns by node number as far as node n, 0 elsewhere
module _ (f : Family) (k : ℕ) where
  entry : ℕ → ℕ → ℕ
  entry n j = cond (leb 1 j && leb j n) (column_of f k j) 0

  pub columns_to : ℕ → List ℕ
  unfolding entry
  columns_to n = list_from (entry n) 0 256

  pub columns_none : replicate 256 0 ≡ columns_to 0
  unfolding columns_to list_from
  columns_none = refl

  pub columns_all : columns_to (node_count f k) ≡ column_table f k
  unfolding columns_to column_table
  columns_all = refl

  in_entry : (n j : ℕ) → 1 ≤ j → j ≤ n → entry n j ≡ column_of f k j
  unfolding entry
  in_entry n j h g = simp (le-leb 1 j h, le-leb j n g)

  out_entry : (n j : ℕ) → n < j → entry n j ≡ 0
  unfolding entry
  out_entry n j h = and_no (leb 1 j) (leb j n) (lt-leb j n h)
    where
      and_no : (a b : Bool) → b ≡ false → cond (a && b) (column_of f k j) 0 ≡ 0
      and_no true b e = rw e
      and_no false b e = refl

  none_entry : (n : ℕ) → entry n 0 ≡ 0
  unfolding entry
  none_entry n = refl

  pub columns_more : (j v : ℕ) → v ≡ column_of f k (j + 1) → set (columns_to j) (j + 1) v ≡ columns_to (j + 1)
  unfolding columns_to
  columns_more j v e = set-list_from (entry j) (entry (j + 1)) 256 (j + 1) v (in_entry (j + 1) (j + 1) (omega arith) (omega arith) ∙ sym e) other
    where
      other : (p : ℕ) → (p ≡ j + 1 → ⊥) → entry (j + 1) p ≡ entry j p
      other zero n = none_entry (j + 1) ∙ sym (none_entry j)
      other (suc p) n = go (dec_le (suc p) j)
        where
          go : Dec (suc p ≤ j) → entry (j + 1) (suc p) ≡ entry j (suc p)
          go (yes l) = in_entry (j + 1) (suc p) (omega arith) (omega arith) ∙ sym (in_entry j (suc p) (omega arith) l)
          go (no l) = out_entry (j + 1) (suc p) (omega arith) ∙ sym (out_entry j (suc p) (omega arith))

  -- the same for node j, after those before it
  pub columns_next : (j v : ℕ) → 1 ≤ j → v ≡ column_of f k j → set (columns_to (j - 1)) j v ≡ columns_to (j + 1 - 1)
  columns_next j v l e =
      let there : j ≡ j - 1 + 1 = omega arith in
      let after : j + 1 - 1 ≡ j - 1 + 1 = omega arith in
      rw after (subst (λ (i : _). set (columns_to (j - 1)) i v ≡ columns_to (j - 1 + 1)) (sym there) (columns_more (j - 1) v (e ∙ ap (column_of f k) there)))

  -- a node's column in the table
  pub table_at : (j : ℕ) → KInRange f k → IsNode f k j → get_or (column_table f k) j 0 ≡ column_of f k j
  unfolding column_table entry
  table_at j r n = get_or-list_from (entry (node_count f k)) 256 j 0 (omega (arith, few f k r, n.last)) ∙ in_entry (node_count f k) j n.first n.last

-- the same in a table that is the table of columns
pub column_in : {f : Family} {k : ℕ} {j : ℕ} {table : List ℕ} → table ≡ column_table f k → KInRange f k → IsNode f k j → get_or table j 0 ≡ column_of f k j
column_in {f} {k} {j} table_is r n = rw table_is (table_at f k j r n)
