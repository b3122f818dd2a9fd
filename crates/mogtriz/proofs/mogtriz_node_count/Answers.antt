-- `mogtriz::mogtriz_node_count` meets its contract: refusals 1 and 2 are asked for with an L that is in range.
use mathlib.Core.Path.{sym, ◌∙◌}
use Rattle.checks.proofs.RefusalLaws.{refused}
use Rattle.mogtriz.proofs.Laws.{count_refused, count_accepted}
use Rattle.mogtriz.proofs.mogtriz_node_count.Goals as goal

pub returns-in-Ok : goal.returns-in-Ok
returns-in-Ok c =
    let p = c.in-Ok.ensures.code in
    c.node_count.ensures ∙ rw (p.family_is, p.k_is) (sym (count_accepted _ _ (sym c.in-Ok.ensures.number)))

pub returns-in-Err : goal.returns-in-Err
returns-in-Err c = sym (count_refused _ _ (λ z. refused _ (c.in-Err.ensures.number ∙ z)))
