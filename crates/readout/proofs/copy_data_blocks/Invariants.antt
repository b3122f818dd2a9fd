-- `readout::copy_data_blocks` meets its contract: before each turn the data blocks before i are in place.
use mathlib.Core.Path.{◌≡◌}
use Prim.Native.Nat.{◌-◌, ◌*◌}
use lib.ListN.{take}
use Rattle.readout.specs.DataBlocks.{data_blocks}
use Rattle.readout.proofs.copy_data_blocks.Given as goal

abbrev pub invariant-loop-i : goal.invariant-loop-i
invariant-loop-i l = take ((l.i - 1) * l.len) l.object ≡ data_blocks l.code.family l.code.k l.len l.nodes (l.i - 1)
