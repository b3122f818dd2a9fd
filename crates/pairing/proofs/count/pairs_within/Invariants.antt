-- `pairing::count::pairs_within` meets its contract: before each turn what is left to be counted is of two nodes from place i on.
use Rattle.pairing.proofs.TableLaws.{Tabling}
use Rattle.pairing.proofs.count.pairs_within.Given as goal

abbrev pub invariant-loop-i : goal.invariant-loop-i
invariant-loop-i l = Tabling l.columns.code.family l.columns.code.k l.list l.table l.i
