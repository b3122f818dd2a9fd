-- `lists::count_live` meets its contract: before each turn as many are counted as are live of the nodes gone through.
use mathlib.Core.Path.{◌≡◌}
use lib.ListN.{length}
use Rattle.lists.specs.Lists.{live_nodes}
use Rattle.lists.proofs.count_live.Given as goal

abbrev pub invariant-loop-live : goal.invariant-loop-live
invariant-loop-live l = l.count ≡ length (live_nodes l.marks l.live-index)
