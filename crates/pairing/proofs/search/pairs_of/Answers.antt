-- `pairing::search::pairs_of` meets its contract: the node alone is counted, so that the walk finds it or nothing.
use Prim.Native.Nat.{◌≤◌}
use native.Mathlib.Omega.{arith}
use Rattle.families.specs.Families.{node_count}
use Rattle.families.proofs.Laws.{few}
use Rattle.pairing.proofs.OneLaws.{alone_some, alone_none}
use Rattle.pairing.proofs.search.pairs_of.Goals as goal
use Rattle.pairing.proofs.search.pairs_of.Goals.{After-node_count-n, Start}

node_few : (e : Start) → node_count e.args.code.family e.args.code.k ≤ 255
node_few e = few _ _ e.args.code.in_range

few_nodes : (n : After-node_count-n) → n.node_count-n.result ≤ 255
few_nodes n = omega (arith, n.node_count-n.ensures, node_few (search))

pub count_live-count-requires : goal.count_live-count-requires
count_live-count-requires c = few_nodes (goal.at.count_live-count-requires c).After-node_count-n

pub list_live-all-requires : goal.list_live-all-requires
list_live-all-requires c = few_nodes (goal.at.list_live-all-requires c).After-node_count-n

pub returns-in-Some : goal.returns-in-Some
returns-in-Some c =
    let g = c.args in
    alone_some g.code.family g.code.k g.code.in_range g.marks g.j c.requires (rw c.new-columns.ensures at c.count_alone-counts.ensures) (rw c.new-columns.ensures at c.in-Some.ensures)

pub returns-in-None : goal.returns-in-None
returns-in-None c =
    let g = c.args in
    alone_none g.code.family g.code.k g.code.in_range g.marks g.j c.requires (rw c.new-columns.ensures at c.count_alone-counts.ensures) (rw c.new-columns.ensures at c.in-None.ensures)
