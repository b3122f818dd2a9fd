-- `transposition::by_rows` meets its contract: before turn r the first r rows are right.
use Rattle.transposition.specs.Inner.{transposed}
use Rattle.transposition.proofs.MatrixLaws.{RowsRight}
use Rattle.transposition.proofs.by_rows.Given as goal

abbrev pub invariant-loop-r : goal.invariant-loop-r
invariant-loop-r l = RowsRight (transposed l.rows l.columns l.src) l.dst l.rows l.columns l.r
