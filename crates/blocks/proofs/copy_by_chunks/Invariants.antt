-- `blocks::copy_by_chunks` meets its contract: the bytes done so far are those of src.
use mathlib.Core.Path.{◌≡◌}
use Prim.Native.Nat.{◌*◌}
use Rattle.base.proofs.Fill.{filled}
use Rattle.blocks.proofs.copy_by_chunks.Given as goal

abbrev pub invariant-loop-chunk : goal.invariant-loop-chunk
invariant-loop-chunk l = l.dst ≡ filled l.src l.initial.dst (64 * l.chunk)
