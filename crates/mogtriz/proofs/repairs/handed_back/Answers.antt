-- `mogtriz::repairs::handed_back` meets its contract: the one test is whether the number is 0.
use borrow.Author.Tests.{ne_eqb}
use Rattle.mogtriz.specs.Repairs.{handed_back}
use Rattle.mogtriz.proofs.repairs.handed_back.Goals as goal

pub returns-then-refusal-ne0 : goal.returns-then-refusal-ne0
unfolding handed_back
returns-then-refusal-ne0 c = rw (ne_eqb c.args.refusal 0 c.if-refusal-ne0.true)

pub returns : goal.returns
unfolding handed_back
returns c = rw (c.if-refusal-ne0.false, c.from.ensures)
