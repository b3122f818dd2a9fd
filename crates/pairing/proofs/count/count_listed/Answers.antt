-- `pairing::count::count_listed` meets its contract: before each turn the missing nodes before this one have their counts.
use mathlib.Core.Path.{◌≡◌}
use mathlib.Core.Bool.{false}
use native.Mathlib.Omega.{arith}
use Rattle.families.specs.Families.{IsNode, node_count}
use Rattle.lists.specs.Lists.{some_outside}
use Rattle.lists.proofs.Laws.{nodes_inside}
use Rattle.pairing.proofs.CountLaws.{count_most, most_few}
use Rattle.pairing.proofs.ListedLaws.{node_listed}
use Rattle.pairing.proofs.EachLaws.{making_more, making_done}
use Rattle.pairing.proofs.count.count_listed.Goals as goal
use Rattle.pairing.proofs.count.count_listed.Goals.{After-from-j}

-- j is a node
listed_node : (c : After-from-j) → let g = c.args.set.columns.now.code in IsNode g.family g.k c.from-j.result
listed_node c =
    let g = c.args.set.columns.now.code in
    let o : some_outside (node_count g.family g.k) c.args.missing.now ≡ false = rw c.requires (nodes_inside _ _) in
    rw c.from-j.ensures (node_listed _ _ _ _ o (omega arith))

pub pairs-requires : goal.pairs-requires
pairs-requires c = record { node = listed_node (goal.at.pairs-requires c).After-from-j; missing_value = c.requires; tallies = c.of-tally.ensures }

pub overflow_cast-counts : goal.overflow_cast-counts
overflow_cast-counts c =
    let r = c.args.set.columns.now.code.in_range in
    let m = c.args.set.marks.now in
    let n = listed_node (goal.at.overflow_cast-counts c).After-from-j in
    omega (arith, c.pairs.ensures, count_most _ _ r m _ n, most_few _ _ r m _ n)

pub loop-node-preserved : goal.loop-node-preserved
loop-node-preserved c = making_more c.loop-node.invariant (omega arith) c.from-j.ensures c.pairs.ensures

pub returns : goal.returns
returns c = making_done c.loop-node.invariant (omega arith)
