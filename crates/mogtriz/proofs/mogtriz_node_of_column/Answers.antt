-- `mogtriz::mogtriz_node_of_column` meets its contract: refusals 1 and 2 are asked for with an L that is in range.
use mathlib.Core.Path.{sym, ◌∙◌}
use Rattle.checks.proofs.AnswerLaws.{answer_refused}
use Rattle.checks.proofs.RefusalLaws.{refused}
use Rattle.mogtriz.specs.Exports.{node_or0}
use Rattle.mogtriz.proofs.mogtriz_node_of_column.Goals as goal

pub returns-in-Ok : goal.returns-in-Ok
unfolding node_or0
returns-in-Ok c =
    let p = c.in-Ok.ensures.code in
    rw (sym c.in-Ok.ensures.number) (rw (p.family_is, p.k_is) at c.node_of.ensures)

pub returns-in-Err : goal.returns-in-Err
unfolding node_or0
returns-in-Err c = sym (answer_refused _ _ (λ number. 0) (λ z. refused _ (c.in-Err.ensures.number ∙ z)))
