-- `transposition::of_two_columns` meets its contract: before turn t the rows that t tiles cover are right.
use Rattle.transposition.specs.Inner.{transposed}
use Rattle.transposition.proofs.MatrixLaws.{RowsRight, covered}
use Rattle.transposition.proofs.of_two_columns.Given as goal

abbrev pub invariant-loop-t : goal.invariant-loop-t
invariant-loop-t l = RowsRight (transposed l.rows 2 l.src) l.dst l.rows 2 (covered l.t 64 l.rows)
