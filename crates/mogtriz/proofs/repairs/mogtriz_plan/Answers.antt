-- `mogtriz::repairs::mogtriz_plan` meets its contract: it is the session's own plan, with the session as handed in.
use mathlib.Core.Path.{ap, ◌∙◌}
use Rattle.repair.specs.Answers.{Repairs}
use Rattle.mogtriz.specs.Repairs.{repairs_c, planned_c}
use Rattle.mogtriz.proofs.repairs.mogtriz_plan.Goals as goal

pub returns-clause-value : goal.returns-clause-value
unfolding planned_c
returns-clause-value c =
    c.repairs_for_c.ensures ∙ ap (λ (own : Repairs). repairs_c own c.args.session) (rw c.from.ensures at c.plan-planned.ensures.value)
