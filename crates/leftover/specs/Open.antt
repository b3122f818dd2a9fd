-- Open nodes (document 01, "What is left over"): those at which two objects alike on all nodes live at the start can differ.
use Rattle.std.specs.Prelude.{◌≡◌, Bool, true, List, ◌↔◌, ℕ, ◌*◌, ◌<◌, length, get_or}
use Rattle.base.specs.Ranges.{those_from}
use Rattle.families.specs.declared.Family.{Family}
use Rattle.families.specs.Families.{IsNode, node_count, column_of}
use Rattle.encoding.specs.Matrix.{node_block}

-- an object: k data blocks of L bytes, whatever L is
pub record Object (k L : ℕ) (bytes : List ℕ) : Type 0 where
  pub size : length bytes ≡ k * L
  pub each : (i : ℕ) → get_or bytes i 0 < 256

-- node j is open: two objects with blocks of L bytes have equal blocks at every node of the start's list and unequal ones at j
pub record Open (f : Family) (k L : ℕ) (list : List ℕ) (j : ℕ) : Type 0 where
  pub one : List ℕ
  pub other : List ℕ
  pub one_is : Object k L one
  pub other_is : Object k L other
  pub alike : (i : ℕ) → i < length list → node_block k L one (column_of f k (get_or list i 0)) ≡ node_block k L other (column_of f k (get_or list i 0))
  pub differ : node_block k L one (column_of f k j) ≡ node_block k L other (column_of f k j) → ⊥

-- how many of the nodes 1 to n are open: so many pass a test that passes exactly at the open ones
pub record OpenCount (f : Family) (k L : ℕ) (list : List ℕ) (number : ℕ) : Type 0 where
  pub test : ℕ → Bool
  pub decides : (j : ℕ) → IsNode f k j → (test j ≡ true) ↔ Open f k L list j
  pub counts : length (those_from test 1 (node_count f k)) ≡ number
