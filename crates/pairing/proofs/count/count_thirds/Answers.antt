-- `pairing::count::count_thirds` meets its contract: before each turn the nodes related to a and one before b are counted.
use mathlib.Core.Path.{◌∙◌}
use Prim.Native.Nat.{◌<◌}
use native.Mathlib.Omega.{arith}
use Rattle.pairing.proofs.ListedLaws.{node_listed}
use Rattle.pairing.proofs.PairLaws.{third_few}
use Rattle.pairing.proofs.TableLaws.{counting_more, counting_fits, counting_done}
use Rattle.pairing.proofs.count.count_thirds.Goals as goal

pub third_node-requires : goal.third_node-requires
third_node-requires c =
    record { first = c.requires.first; second = rw c.from.ensures (node_listed _ _ _ _ c.requires.list_value (omega arith)) }

pub count_one-requires : goal.count_one-requires
count_one-requires c =
    let few : c.third_node.result < 256 = omega (arith, c.third_node.ensures, third_few _ _ c.args.columns.now.code.in_range c.args.a c.from.result) in
    (omega arith, (few, counting_fits c.loop-b.invariant (omega arith) c.third_node.result))

pub loop-b-preserved : goal.loop-b-preserved
loop-b-preserved c =
    rw c.count_one.ensures (counting_more c.loop-b.invariant _ (omega arith) (c.third_node.ensures ∙ rw c.from.ensures))

pub returns : goal.returns
returns c = counting_done c.loop-b.invariant (omega arith)
