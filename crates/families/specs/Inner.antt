-- For inner functions: the column of a data block, the table of a family's columns, and third nodes.
use Rattle.std.specs.Prelude.{ℕ, zero, suc, ◌^◌, cond, ◌&&◌, List, leb}
use Rattle.base.specs.Ranges.{list_from}
use Rattle.std.specs.Int.Bits.{bit_xor}
use Rattle.families.specs.Families.{node_count, column_of, node_of}
use Rattle.families.specs.declared.Family.{Family}

-- the column of data block i alone, 2^(i − 1), and 0 for no block
abbrev pub unit : ℕ → ℕ
unit zero = 0
unit (suc i) = 2 ^ i

-- the columns by node number, 0 to 255: 0 for node 0 and above n, where there is no node
unfoldable pub column_table : Family → ℕ → List ℕ
column_table f k = list_from (λ j. cond (leb 1 j && leb j (node_count f k)) (column_of f k j) 0) 0 256

-- the node related to two others; 0 where there is none
abbrev pub third_node : Family → ℕ → ℕ → ℕ → ℕ
third_node f k a b = node_of f k (bit_xor (column_of f k a) (column_of f k b))
