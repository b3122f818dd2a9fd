-- `pairing::search::find_next` meets its contract: the walk leaves behind it no node whose count is not 0 and that has a pair, and at a node
-- the search leaves behind it no free node with a free partner.
use Rattle.pairing.proofs.SearchLaws.{Walking, Searching}
use Rattle.pairing.proofs.search.find_next.Given as goal

abbrev pub invariant-loop-a : goal.invariant-loop-a
invariant-loop-a l = Searching l.free.columns.now.code.family l.free.columns.now.code.k l.free.list.now l.free.marks.now l.node l.a-index

abbrev pub invariant-loop-node : goal.invariant-loop-node
invariant-loop-node l = Walking l.free.columns.now.code.family l.free.columns.now.code.k l.free.list.now l.free.marks.now l.counts l.after l.node
