-- `pairing::count::live_ends` meets its contract: before each turn what is counted, and what is left, make up the whole.
use Rattle.pairing.specs.Inner.{live_partner}
use Rattle.pairing.proofs.TableLaws.{Seeing}
use Rattle.pairing.proofs.count.live_ends.Given as goal

abbrev pub invariant-loop-a : goal.invariant-loop-a
invariant-loop-a l = Seeing (live_partner l.set.columns.now.code.family l.set.columns.now.code.k l.set.marks.now l.j) l.set.list.now l.count l.a-index
