-- `pairing::ends::count_ends` meets its contract: before each turn the numbers of the nodes before this one are counted.
use Rattle.pairing.proofs.DegreeLaws.{Ending}
use Rattle.pairing.proofs.ends.count_ends.Given as goal

abbrev pub invariant-loop-node : goal.invariant-loop-node
invariant-loop-node l = Ending l.columns.code.k l.list l.table l.node-index
