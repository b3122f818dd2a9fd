-- `transposition::store` meets its contract: before turn i the buffer has neared each goal by the first i rows.
use Rattle.transposition.specs.Inner.{Stored}
use Rattle.transposition.proofs.store.Given as goal

abbrev pub invariant-loop-i : goal.invariant-loop-i
invariant-loop-i l = Stored l.tile l.initial.dst l.dst l.to l.to_stride l.i l.size
