-- `transposition::turn` meets its contract: after so many shuffles the tile is the transpose of 2 to that power of rows.
use mathlib.Core.Path.{◌≡◌}
use Prim.Native.Nat.{◌-◌, ◌^◌}
use Rattle.transposition.specs.Inner.{transposed}
use Rattle.transposition.proofs.turn.Given as goal

abbrev pub invariant-loop : goal.invariant-loop
invariant-loop g l = l.turned ≡ transposed (2 ^ l.counter) (2 ^ (7 - l.counter)) l.initial.turned
