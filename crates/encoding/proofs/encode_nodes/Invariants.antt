-- `encoding::encode_nodes` meets its contract: before each turn the blocks of the nodes before node j are in place.
use mathlib.Core.Path.{◌≡◌}
use Prim.Native.Nat.{◌-◌, ◌*◌}
use lib.ListN.{take}
use Rattle.encoding.specs.Inner.{node_blocks}
use Rattle.encoding.proofs.encode_nodes.Given as goal

abbrev pub invariant-loop-j : goal.invariant-loop-j
invariant-loop-j l = take ((l.j - 1) * l.len) l.nodes ≡ node_blocks l.fn.code.family l.fn.code.k l.len l.object (l.j - 1)
