-- `lists::marks_of_list` meets its contract: before each turn the nodes left, set live in the marks, make the whole list's marks.
use mathlib.Core.Path.{◌≡◌}
use lib.ListN.{drop}
use Rattle.lists.specs.Lists.{set_live, none_live}
use Rattle.lists.proofs.marks_of_list.Given as goal

abbrev pub invariant-loop-j : goal.invariant-loop-j
invariant-loop-j l = set_live none_live l.list ≡ set_live l.marks (drop l.j-index l.list)
