-- `pairing::count::count_listed` meets its contract: before each turn the missing nodes before this one have their counts.
use Rattle.pairing.proofs.EachLaws.{Making}
use Rattle.pairing.proofs.count.count_listed.Given as goal

abbrev pub invariant-loop-node : goal.invariant-loop-node
invariant-loop-node l = Making l.set.columns.now.code.family l.set.columns.now.code.k l.set.marks.now l.missing l.counts l.node-index
