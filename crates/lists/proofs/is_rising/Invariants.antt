-- `lists::is_rising` meets its contract: before each turn the list rises exactly when no fall was seen and what is left of it rises.
use mathlib.Core.Path.{◌≡◌}
use mathlib.Core.Bool.{◌&&◌}
use Prim.Native.Nat.{◌-◌}
use lib.ListN.{drop}
use Rattle.lists.specs.Lists.{rises}
use Rattle.lists.proofs.is_rising.Given as goal

abbrev pub invariant-loop-i : goal.invariant-loop-i
invariant-loop-i l = rises l.list ≡ (l.rising && rises (drop (l.i - 1) l.list))
