-- `readout::missing_block` meets its contract: before each turn the nodes of the data blocks before i are live.
use mathlib.Core.Path.{◌≡◌}
use mathlib.Core.Bool.{true}
use Prim.Native.Nat.{ℕ, ◌≤◌, ◌<◌}
use Rattle.lists.specs.Lists.{is_live}
use Rattle.readout.specs.DataBlocks.{data_node}
use Rattle.readout.proofs.missing_block.Given as goal

abbrev pub invariant-loop-i : goal.invariant-loop-i
invariant-loop-i l = (h : ℕ) → h < l.i → 1 ≤ h → is_live l.marks (data_node l.code.family l.code.k h) ≡ true
