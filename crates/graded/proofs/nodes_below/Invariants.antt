-- `graded::nodes_below` meets its contract: before each turn the array has what is left of the columns gone through.
use mathlib.Core.Path.{◌≡◌}
use lib.ListN.{length}
use Rattle.graded.proofs.Walks.{left_of, array_of}
use Rattle.graded.proofs.nodes_below.Given as goal

abbrev pub invariant-loop-column : goal.invariant-loop-column
invariant-loop-column l = (l.p ≡ length (left_of l.bound l.column-index)) × (l.nodes ≡ array_of (left_of l.bound l.column-index))
