-- What is proved of graded order besides the contracts; proofs/Proved.antt has the proofs.
use Rattle.std.specs.Prelude.{◌≡◌, true, ℕ, suc, ◌≤◌, ◌<◌, length, get_or}
use Rattle.base.specs.Ranges.{those_from}
use Rattle.families.specs.Families.{KInRange, IsNode, node_count, column_of}
use Rattle.families.specs.declared.Family.TheVariants.{Simplex}
use Rattle.graded.specs.Order.{stands_before, graded_table, columns_left, column_at, node_at, position_of}

-- ---- the table

-- a column stands at a place of the table, from 0, and at no other
pub record OnePlace (column : ℕ) : Type 0 where
  pub place : ℕ
  pub within : place < 255
  pub there : get_or graded_table place 0 ≡ column
  pub only : (i : ℕ) → i < 255 → get_or graded_table i 0 ≡ column → i ≡ place

-- neighbouring entries stand in the rule's order, and every column from 1 to 255 has exactly one position
pub record TableClaim : Type 0 where
  pub size : length graded_table ≡ 255
  pub order : (i : ℕ) → suc i < 255 → stands_before (get_or graded_table i 0) (get_or graded_table (suc i) 0) ≡ true
  pub once : (column : ℕ) → 1 ≤ column → column ≤ 255 → OnePlace column

-- ---- the numbers of a k

pub record NumberClaims (k : ℕ) : Type 0 where
  -- there are as many positions as nodes, each with its node, and each node with its position
  pub count : length (columns_left k) ≡ node_count Simplex k
  pub node : (p : ℕ) → IsNode Simplex k p → IsNode Simplex k (node_at k p)
  pub position : (j : ℕ) → IsNode Simplex k j → IsNode Simplex k (position_of k j)
  -- the node at a position has the column there
  pub column : (p : ℕ) → IsNode Simplex k p → column_of Simplex k (node_at k p) ≡ column_at k p
  -- position and node undo each other
  pub back : (p : ℕ) → IsNode Simplex k p → position_of k (node_at k p) ≡ p
  pub forth : (j : ℕ) → IsNode Simplex k j → node_at k (position_of k j) ≡ j
  -- any two columns left stand in the rule's order
  pub order : (p q : ℕ) → 1 ≤ p → p < q → q ≤ node_count Simplex k → stands_before (column_at k p) (column_at k q) ≡ true
  -- by the rule alone: before a column of k stand as many others as there are positions before its own
  pub rank : (j : ℕ) → IsNode Simplex k j
      → position_of k j ≡ suc (length (those_from (λ column. stands_before column (column_of Simplex k j)) 1 (node_count Simplex k)))

-- for every k of the simplex family
abbrev pub NumberClaim : Type 0
NumberClaim = (k : ℕ) → KInRange Simplex k → NumberClaims k
