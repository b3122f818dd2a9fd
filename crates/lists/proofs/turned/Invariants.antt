-- `lists::turned` meets its contract: before each turn the marks before j are turned round.
use mathlib.Core.Path.{◌≡◌}
use Rattle.base.proofs.Fill.{filled}
use Rattle.lists.specs.Inner.{turned_round}
use Rattle.lists.proofs.turned.Given as goal

abbrev pub invariant-loop-j : goal.invariant-loop-j
invariant-loop-j l = l.other ≡ filled (turned_round l.marks) l.initial.other l.j
