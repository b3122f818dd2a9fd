-- `boxes::read_bodies` meets its contract: before each turn the first i bodies are in their places.
use Prim.Native.Nat.{◌-◌}
use lib.ListN.{length}
use Rattle.boxes.proofs.Loops.{Reading}
use Rattle.boxes.proofs.read_bodies.Given as goal

abbrev pub invariant-loop-i : goal.invariant-loop-i
invariant-loop-i l = Reading l.len l.initial.nodes l.list l.bodies l.nodes l.i

abbrev pub decreases-loop-i : goal.decreases-loop-i
decreases-loop-i l = length l.list - l.i
