-- `graded::positions` meets its contract: before each turn the array has the places of what stands in the list from place p on.
use mathlib.Core.Path.{◌≡◌}
use Prim.Native.Nat.{◌-◌}
use Rattle.lists.proofs.PlaceLaws.{places_from}
use Rattle.graded.specs.Order.{columns_left}
use Rattle.graded.proofs.positions.Given as goal

abbrev pub invariant-loop-p : goal.invariant-loop-p
invariant-loop-p l = l.positions ≡ places_from (columns_left l.k) (l.p - 1)
