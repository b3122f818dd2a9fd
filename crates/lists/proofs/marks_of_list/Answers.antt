-- `lists::marks_of_list` meets its contract: before each turn the nodes left, set live in the marks, make the whole list's marks.
use mathlib.Core.Path.{sym, ◌∙◌}
use native.Mathlib.Omega.{arith}
use Rattle.lists.proofs.Walks.{set_step, set_end}
use Rattle.lists.proofs.marks_of_list.Goals as goal

pub loop-j-preserved : goal.loop-j-preserved
loop-j-preserved c = c.loop-j.invariant ∙ set_step c.args.list.now c.loop-j.j-index (omega arith) c.loop-j.marks ∙ rw c.from.ensures

pub returns : goal.returns
returns c = sym (c.loop-j.invariant ∙ set_end _ _ c.loop-j-test.false _)
