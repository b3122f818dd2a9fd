-- `pairing::count::with_third` meets its contract: before each turn what is counted, and what is left, make up the whole.
use Rattle.families.specs.Inner.{third_node}
use Rattle.pairing.proofs.TableLaws.{Seeing}
use Rattle.pairing.proofs.count.with_third.Given as goal

abbrev pub invariant-loop-a : goal.invariant-loop-a
invariant-loop-a l = Seeing (third_node l.columns.code.family l.columns.code.k l.j) l.list l.count l.a-index
