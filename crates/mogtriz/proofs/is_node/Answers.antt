-- `mogtriz::is_node` meets its contract, by its two tests.
use borrow.Author.Tests.{lt-leb, le-leb}
use Rattle.mogtriz.specs.Exports.{is_node}
use Rattle.mogtriz.proofs.is_node.Goals as goal

pub returns-then-j-ge1 : goal.returns-then-j-ge1
unfolding is_node
returns-then-j-ge1 c = simp (le-leb 1 _ c.if-j-ge1.true, c.mogtriz_node_count.ensures)

pub returns-else-j-ge1 : goal.returns-else-j-ge1
unfolding is_node
returns-else-j-ge1 c = simp (lt-leb 1 _ c.if-j-ge1.false)
