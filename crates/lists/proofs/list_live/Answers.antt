-- `lists::list_live` meets its contract: before each turn the list has the live nodes below j, and, but for what stands at the place, zeros
-- after them.
use Prim.Native.Nat.{◌+◌}
use native.Mathlib.Omega.{arith}
use lib.ListN.{set}
use Rattle.lists.proofs.Walks.{Listed, listed_none, listed_few, listed_next, listed_all}
use Rattle.lists.proofs.list_live.Goals as goal
use Rattle.lists.proofs.list_live.Goals.{After-from-place}

pub loop-j-init : goal.loop-j-init
loop-j-init c = (omega arith, listed_none _)

pub bounds-list-place : goal.bounds-list-place
bounds-list-place c = omega (arith, listed_few _ c.loop-j.invariant.1)

next : (c : After-from-place) → Listed c.args.marks.now (c.loop-j.j + 1) (c.loop-j.place + c.from-place.result) (set (set c.loop-j.list c.loop-j.place c.loop-j.j) (c.loop-j.place + c.from-place.result) 0)
next c = listed_next _ c.loop-j.list c.loop-j.invariant.1 (omega arith) (omega arith) _ c.from-place.ensures

pub overflow_add-place : goal.overflow_add-place
overflow_add-place c = omega (arith, listed_few _ (next (goal.at.overflow_add-place c).After-from-place))

pub loop-j-preserved : goal.loop-j-preserved
loop-j-preserved c = (omega arith, next (goal.at.loop-j-preserved c).After-from-place)

pub bounds-list-place-2 : goal.bounds-list-place-2
bounds-list-place-2 c = omega (arith, listed_few _ c.loop-j.invariant.1)

pub returns : goal.returns
returns c = listed_all _ c.args.n c.loop-j.invariant.1 (omega arith)
