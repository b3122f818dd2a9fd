-- `blocks::copy_by_pieces` meets its contract: the bytes done so far are those of src.
use mathlib.Core.Path.{◌≡◌}
use Prim.Native.Nat.{◌*◌}
use Rattle.base.proofs.Fill.{filled}
use Rattle.blocks.proofs.copy_by_pieces.Given as goal

abbrev pub invariant-loop-piece : goal.invariant-loop-piece
invariant-loop-piece g l = l.dst ≡ filled l.src l.initial.dst (l.piece * g.row.N)
