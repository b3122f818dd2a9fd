-- `transposition::move_rows` meets its contract: before turn t the rows are right in the columns that t tiles cover.
use Prim.Native.Nat.{◌-◌, ◌^◌}
use Rattle.transposition.specs.Inner.{transposed, Nears}
use Rattle.transposition.proofs.MatrixLaws.{covered}
use Rattle.transposition.proofs.move_rows.Given as goal

abbrev pub invariant-loop-t : goal.invariant-loop-t
invariant-loop-t g l = Nears (transposed l.rows l.columns l.src) l.initial.dst l.dst (covered l.t (2 ^ (7 - g.row.LOG)) l.columns) (2 ^ g.row.LOG) l.r l.rows
