-- How far an encoding has come, in the order of the nodes.
use Rattle.std.specs.Prelude.{◌≡◌, List, ℕ, ◌-◌, ◌*◌, length, take}
use Rattle.families.specs.declared.Family.{Family}
use Rattle.families.specs.Families.{KInRange, IsNode, node_count, column_of}
use Rattle.blocks.specs.Blocks.{joined}
use Rattle.encoding.specs.Matrix.{node_block}

-- the blocks of nodes 1 to j, one after the other
abbrev pub node_blocks : Family → ℕ → ℕ → List ℕ → ℕ → List ℕ
node_blocks f k L object = joined (λ j. node_block k L object (column_of f k j))

-- the blocks of the nodes before node j are in place
pub record BeforeNode (f : Family) (k L : ℕ) (object nodes : List ℕ) (j : ℕ) : Type 0 where
  pub range : KInRange f k
  pub node : IsNode f k j
  pub object_size : length object ≡ k * L
  pub nodes_size : length nodes ≡ node_count f k * L
  pub done : take ((j - 1) * L) nodes ≡ node_blocks f k L object (j - 1)
