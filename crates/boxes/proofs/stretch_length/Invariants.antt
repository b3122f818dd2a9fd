-- `boxes::stretch_length` meets its contract: before each turn the `count` numbers from place i on follow each other.
use Rattle.boxes.specs.Inner.{Stretch}
use Rattle.boxes.proofs.stretch_length.Given as goal

abbrev pub invariant-loop-count : goal.invariant-loop-count
invariant-loop-count l = Stretch l.list l.i l.count
