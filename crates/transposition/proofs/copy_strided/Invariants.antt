-- `transposition::copy_strided` meets its contract: before turn i the buffer has neared each goal by the first i bytes.
use Rattle.transposition.specs.Inner.{Strided}
use Rattle.transposition.proofs.copy_strided.Given as goal

abbrev pub invariant-loop-i : goal.invariant-loop-i
invariant-loop-i l = Strided l.src l.from l.from_stride l.initial.dst l.dst l.to l.to_stride l.i
