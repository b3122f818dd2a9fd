-- `pairing::count::with_third` meets its contract: before each turn what is counted, and what is left, make up the whole.
use mathlib.Core.Path.{◌∙◌}
use native.Mathlib.Omega.{arith}
use Rattle.pairing.proofs.ListedLaws.{node_listed}
use Rattle.pairing.proofs.TableLaws.{seeing_more, seeing_done}
use Rattle.pairing.proofs.count.with_third.Goals as goal

pub third_node-third-requires : goal.third_node-third-requires
third_node-third-requires c =
    record { first = c.requires.node; second = rw c.from.ensures (node_listed _ _ _ _ c.requires.list_value (omega arith)) }

pub loop-a-preserved : goal.loop-a-preserved
loop-a-preserved c =
    rw c.from-count.ensures (seeing_more c.loop-a.invariant _ (omega arith) (c.third_node-third.ensures ∙ rw c.from.ensures))

pub returns : goal.returns
returns c = seeing_done c.loop-a.invariant (omega arith)
