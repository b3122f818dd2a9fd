-- `mogtriz::repairs::mogtriz_carry_plan` meets its contract: it is the plan carried out for the session, with the session that C gets.
use mathlib.Core.Path.{ap}
use Rattle.repair.specs.Answers.{PlanChecked}
use Rattle.mogtriz.specs.declared.repairs.PlanAnswer.{PlanAnswer}
use Rattle.mogtriz.specs.Repairs.{handed_back, carried_c}
use Rattle.mogtriz.proofs.repairs.mogtriz_carry_plan.Goals as goal

pub returns-clause-value : goal.returns-clause-value
unfolding carried_c
returns-clause-value c =
    let for_c : PlanChecked → PlanAnswer = λ own. record { refusal = own.refusal; bad = own.bad; session = handed_back c.args.session own.refusal own.session } in
    rw (c.plan_for_c.ensures, c.handed_back-given.ensures, c.number.ensures) (ap for_c (rw c.from.ensures at c.carry_plan-carried.ensures.value))
