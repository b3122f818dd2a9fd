-- `pairing::count::count_thirds` meets its contract: before each turn the nodes related to a and one before b are counted.
use Rattle.pairing.proofs.TableLaws.{Counting}
use Rattle.pairing.proofs.count.count_thirds.Given as goal

abbrev pub invariant-loop-b : goal.invariant-loop-b
invariant-loop-b l = Counting l.columns.code.family l.columns.code.k l.list l.a l.initial.table l.table l.b-index
