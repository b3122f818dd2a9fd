-- `lists::list_live` meets its contract: before each turn the list has the live nodes below j, and, but for what stands at the place, zeros
-- after them.
use Prim.Native.Nat.{◌+◌, ◌≤◌}
use lib.ListN.{set}
use Rattle.lists.proofs.Walks.{Listed}
use Rattle.lists.proofs.list_live.Given as goal

abbrev pub invariant-loop-j : goal.invariant-loop-j
invariant-loop-j l = (l.j ≤ l.n + 1) × Listed l.marks l.j l.place (set l.list l.place 0)
