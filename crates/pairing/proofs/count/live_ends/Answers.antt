-- `pairing::count::live_ends` meets its contract: before each turn what is counted, and what is left, make up the whole.
use mathlib.Core.Path.{ap, ◌∙◌}
use native.Mathlib.Omega.{arith}
use Rattle.lists.proofs.Laws.{live_nodes_inside}
use Rattle.pairing.specs.Inner.{live_partner}
use Rattle.pairing.proofs.ListedLaws.{node_listed}
use Rattle.pairing.proofs.TableLaws.{seeing_more, seeing_done}
use Rattle.pairing.proofs.count.live_ends.Goals as goal

pub loop-a-preserved : goal.loop-a-preserved
loop-a-preserved c =
    rw c.from-count.ensures
    (seeing_more c.loop-a.invariant _ (omega arith) (c.live_partner-b.ensures ∙ ap (live_partner c.args.set.columns.now.code.family c.args.set.columns.now.code.k c.args.set.marks.now c.args.j) c.from.ensures))

pub returns : goal.returns
returns c = seeing_done c.loop-a.invariant (omega arith)

pub live_partner-b-requires : goal.live_partner-b-requires
live_partner-b-requires c =
    let set = c.args.set in
    (c.requires, rw c.from.ensures (node_listed _ _ set.list.now _ (rw set.listed (live_nodes_inside set.marks.now _)) (omega arith)))
