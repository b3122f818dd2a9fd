-- `transposition::by_tiles` meets its contract: before turn t the rows that t tiles cover are right.
use Prim.Native.Nat.{◌^◌}
use Rattle.transposition.specs.Inner.{transposed}
use Rattle.transposition.proofs.MatrixLaws.{RowsRight, covered}
use Rattle.transposition.proofs.by_tiles.Given as goal

abbrev pub invariant-loop-t : goal.invariant-loop-t
invariant-loop-t g l = RowsRight (transposed l.rows l.columns l.src) l.dst l.rows l.columns (covered l.t (2 ^ g.row.LOG) l.rows)
