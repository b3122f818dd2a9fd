-- For inner functions: blocks that lie in a nodes buffer.
use Rattle.std.specs.Prelude.{ℕ, ◌+◌, ◌-◌, ◌*◌, ◌≤◌, List, length}

-- node j's block lies in the nodes buffer
pub record InBuffer (L : ℕ) (nodes : List ℕ) (j : ℕ) : Type 0 where
  pub first : 1 ≤ j
  pub last : (j - 1) * L + L ≤ length nodes

-- the blocks of count nodes from node j on lie in the nodes buffer
pub record BlocksIn (L count : ℕ) (nodes : List ℕ) (j : ℕ) : Type 0 where
  pub first : 1 ≤ j
  pub last : (j - 1) * L + count * L ≤ length nodes
