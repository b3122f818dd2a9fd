-- `boxes::write_bodies` meets its contract: before each turn `out` begins with the first i bodies.
use Prim.Native.Nat.{◌-◌}
use lib.ListN.{length}
use Rattle.boxes.proofs.Loops.{Writing}
use Rattle.boxes.proofs.write_bodies.Given as goal

abbrev pub invariant-loop-i : goal.invariant-loop-i
invariant-loop-i l = Writing l.len l.list l.nodes l.initial.out l.out l.i

abbrev pub decreases-loop-i : goal.decreases-loop-i
decreases-loop-i l = length l.list - l.i
