-- `transposition::shuffle` meets its contract: before turn i the first 2 × i bytes are those of the transpose.
use mathlib.Core.Path.{◌≡◌}
use Prim.Native.Nat.{◌*◌}
use Rattle.base.proofs.Fill.{filled}
use Rattle.transposition.specs.Inner.{transposed}
use Rattle.transposition.proofs.shuffle.Given as goal

abbrev pub invariant-loop-i : goal.invariant-loop-i
invariant-loop-i l = l.shuffled ≡ filled (transposed 2 64 l.tile) l.initial.shuffled (2 * l.i)
