-- `transposition::load` meets its contract: before turn i the first i rows are in place.
use Rattle.transposition.specs.Inner.{Loaded}
use Rattle.transposition.proofs.load.Given as goal

abbrev pub invariant-loop-i : goal.invariant-loop-i
invariant-loop-i l = Loaded l.src l.from l.from_stride l.i l.size l.tile
