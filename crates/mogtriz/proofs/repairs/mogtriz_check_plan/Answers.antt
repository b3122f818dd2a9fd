-- `mogtriz::repairs::mogtriz_check_plan` meets its contract: it is the session's own check, with the session as handed in.
use mathlib.Core.Path.{ap, ◌∙◌}
use Rattle.repair.specs.Answers.{PlanChecked}
use Rattle.mogtriz.specs.declared.repairs.PlanAnswer.{PlanAnswer}
use Rattle.mogtriz.specs.Repairs.{plan_checked_c}
use Rattle.mogtriz.proofs.repairs.mogtriz_check_plan.Goals as goal

pub returns : goal.returns
unfolding plan_checked_c
returns c =
    let for_c : PlanChecked → PlanAnswer = λ own. record { refusal = own.refusal; bad = own.bad; session = c.args.session } in
    c.plan_for_c.ensures ∙ ap for_c (rw c.from.ensures at c.check_plan-checked.ensures.value)
