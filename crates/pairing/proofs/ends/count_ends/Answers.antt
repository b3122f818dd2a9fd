-- `pairing::ends::count_ends` meets its contract: before each turn the numbers of the nodes before place i are counted.
use mathlib.Core.Path.{subst, ◌∙◌}
use Prim.Native.Nat.{◌<◌}
use native.Mathlib.Omega.{arith}
use Rattle.families.specs.declared.Family.{Family}
use Rattle.families.specs.Families.{KInRange, IsNode}
use Rattle.families.proofs.Laws.{column}
use Rattle.pairing.specs.Inner.{first_end, second_end}
use Rattle.pairing.proofs.ListedLaws.{node_listed}
use Rattle.pairing.proofs.DegreeLaws.{ending_none, ending_more, ending_fits, ending_done, ends_few}
use Rattle.pairing.proofs.ends.count_ends.Goals as goal
use Rattle.pairing.proofs.ends.count_ends.Goals.{After-from, After-of-column}

-- what is listed is a node
listed_node : (c : After-from) → let g = c.args.columns.now.code in IsNode g.family g.k c.from.result
listed_node c =
    rw c.from.ensures (node_listed _ _ _ _ c.requires.list_value.0 (omega arith))

-- the two numbers of its column are in the table
column_few : (c : After-of-column) → IsNode c.args.columns.now.code.family c.args.columns.now.code.k c.from.result → (first_end c.of-column.result < 32) × (second_end c.of-column.result < 32)
column_few c n =
    let g = c.args.columns.now.code in
    let f = c.requires.family in
    rw (c.of-column.ensures, f) (ends_few _ (subst (λ (x : Family). KInRange x g.k) f g.in_range) _ (subst (λ (x : Family). IsNode x g.k c.from.result) f n))

pub of-column-requires : goal.of-column-requires
of-column-requires c = listed_node (goal.at.of-column-requires c).After-from

pub loop-node-init : goal.loop-node-init
loop-node-init c = ending_none _ _

pub count_one-requires : goal.count_one-requires
count_one-requires c =
    let n = listed_node (goal.at.count_one-requires c).After-from in
    let few : c.first_end.result < 32 = omega (arith, c.first_end.ensures, (column_few (goal.at.count_one-requires c).After-of-column n).0) in
    (omega arith, (few, (ending_fits c.loop-node.invariant (omega (arith, c.requires.list_value.1)) 0 c.first_end.result).0))

pub second_end-requires : goal.second_end-requires
second_end-requires c =
    let n = listed_node (goal.at.second_end-requires c).After-from in
    omega (arith, c.of-column.ensures, (column _ _ _ c.args.columns.now.code.in_range n).positive)

pub count_one-requires-in-loop-node : goal.count_one-requires-in-loop-node
count_one-requires-in-loop-node c =
    let n = listed_node (goal.at.count_one-requires-in-loop-node c).After-from in
    let few : c.second_end.result < 32 = omega (arith, c.second_end.ensures, (column_few (goal.at.count_one-requires-in-loop-node c).After-of-column n).1) in
    (omega arith, (few, rw c.count_one.ensures (ending_fits c.loop-node.invariant (omega (arith, c.requires.list_value.1)) c.first_end.result c.second_end.result).1))

pub loop-node-preserved : goal.loop-node-preserved
loop-node-preserved c =
    rw (c.count_one-in-loop-node.ensures, c.count_one.ensures, c.second_end.ensures, c.first_end.ensures)
    (ending_more c.loop-node.invariant _ (omega arith) (c.of-column.ensures ∙ rw (c.requires.family, c.from.ensures)))

pub returns : goal.returns
returns c = rw c.requires.family (ending_done c.loop-node.invariant (omega arith))
