-- `families::table::Columns::third_node` meets its contract: the columns of nodes are below 2^k.
use Rattle.families.proofs.Laws.{column}
use Rattle.families.proofs.table.Columns.third_node.Goals as goal

pub third_node-requires : goal.third_node-requires
third_node-requires c =
    let code = c.args.self.now.code in
    (rw c.of.ensures (column code.family code.k _ code.in_range c.requires.first).below, rw c.of-2.ensures (column code.family code.k _ code.in_range c.requires.second).below)

pub returns : goal.returns
returns c = rw (c.third_node.ensures, c.of.ensures, c.of-2.ensures)
