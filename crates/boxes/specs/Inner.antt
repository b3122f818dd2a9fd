-- The nodes of a list: that a nodes buffer has them, and stretches of them.
use Rattle.std.specs.Prelude.{◌≡◌, ℕ, ◌+◌, ◌≤◌, ◌<◌, List, length, get_or}
use Rattle.blocks.specs.Inner.{InBuffer}

-- the block of every node of the list lies in the nodes buffer
pub record ListIn (L : ℕ) (nodes list : List ℕ) : Type 0 where
  pub each : (i : ℕ) → i < length list → InBuffer L nodes (get_or list i 0)

-- the r numbers from place i on follow each other without a gap
pub record Stretch (list : List ℕ) (i r : ℕ) : Type 0 where
  pub some : 1 ≤ r
  pub within : i + r ≤ length list
  pub each : (t : ℕ) → t < r → get_or list (i + t) 0 ≡ get_or list i 0 + t
