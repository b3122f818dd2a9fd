-- The k data blocks of an object, in the nodes whose column has a single bit (document 01, "Read out").
use Rattle.std.specs.Prelude.{ℕ, ◌-◌, ◌^◌, Bool, not, List}
use Rattle.base.specs.Ranges.{first_from}
use Rattle.families.specs.declared.Family.{Family}
use Rattle.families.specs.Families.{node_of}
use Rattle.blocks.specs.Blocks.{joined, block_of}
use Rattle.lists.specs.Lists.{is_live}

-- the node of data block i, from 1: its column is 2^(i − 1)
abbrev pub data_node : Family → ℕ → ℕ → ℕ
data_node f k i = node_of f k (2 ^ (i - 1))

-- the lowest data block whose node is missing; 0 where none is
unfoldable pub missing_block : Family → ℕ → List Bool → ℕ
missing_block f k marks = first_from (λ i. not (is_live marks (data_node f k i))) 1 k

-- data blocks 1 to m, from their nodes, one after the other
abbrev pub data_blocks : Family → ℕ → ℕ → List ℕ → ℕ → List ℕ
data_blocks f k L nodes = joined (λ i. block_of L nodes (data_node f k i))
