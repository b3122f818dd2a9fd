-- `transposition::by_columns` meets its contract: before turn c the first c columns are right.
use Rattle.transposition.specs.Inner.{transposed}
use Rattle.transposition.proofs.MatrixLaws.{ColumnsRight}
use Rattle.transposition.proofs.by_columns.Given as goal

abbrev pub invariant-loop-c : goal.invariant-loop-c
invariant-loop-c l = ColumnsRight (transposed l.rows l.columns l.src) l.dst l.rows l.c
