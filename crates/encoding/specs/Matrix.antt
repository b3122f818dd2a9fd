-- The generator matrix (document 01, "The collection's units"): which data blocks are in a node, its block, and the nodes buffer, for
-- blocks of any length L.
use Rattle.std.specs.Prelude.{ℕ, ◌-◌, ◌/◌, ◌%◌, ◌^◌, Bool, replicate, eqb}
use mathlib.Core.List.{List, map, foldr}
use Rattle.base.specs.Ranges.{those_from}
use Rattle.families.specs.declared.Family.{Family}
use Rattle.families.specs.Families.{node_count, column_of}
use Rattle.blocks.specs.Blocks.{xor_bytes, joined, block_of}

-- data block i is in the node with this column: bit i − 1, worth 2^(i − 1), is set
abbrev pub has_block : ℕ → ℕ → Bool
has_block column i = eqb (column / 2 ^ (i - 1) % 2) 1

-- the block of a node: the bytewise XOR of those of an object's k data blocks that are in its column; data block i is the object's
-- bytes from (i − 1) × L up to i × L
unfoldable pub node_block : ℕ → ℕ → List ℕ → ℕ → List ℕ
node_block k L object column = foldr xor_bytes (replicate L 0) (map (block_of L object) (those_from (has_block column) 1 k))

-- the nodes buffer of an object: the blocks of all n nodes, one after the other
unfoldable pub nodes_buffer : Family → ℕ → ℕ → List ℕ → List ℕ
nodes_buffer f k L object = joined (λ j. node_block k L object (column_of f k j)) (node_count f k)
