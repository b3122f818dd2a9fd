-- `transposition::of_two_rows` meets its contract: before turn t the columns that t tiles cover are right.
use Rattle.transposition.specs.Inner.{transposed, Nears}
use Rattle.transposition.proofs.MatrixLaws.{covered}
use Rattle.transposition.proofs.of_two_rows.Given as goal

abbrev pub invariant-loop-t : goal.invariant-loop-t
invariant-loop-t l = Nears (transposed 2 l.columns l.src) l.initial.dst l.dst (covered l.t 64 l.columns) 2 0 2
