-- `mogtriz::repairs::mogtriz_step` meets its contract: it is the session's own step, with the session that C gets.
use mathlib.Core.Path.{ap}
use Rattle.repair.specs.Answers.{Stepped}
use Rattle.mogtriz.specs.Repairs.{handed_back, stepped_c}
use Rattle.mogtriz.specs.declared.repairs.StepAnswer.{StepAnswer}
use Rattle.mogtriz.proofs.repairs.mogtriz_step.Goals as goal

pub returns-clause-value : goal.returns-clause-value
unfolding stepped_c
returns-clause-value c =
    let for_c : Stepped → StepAnswer = λ own. record { refusal = own.refusal; session = handed_back c.args.session own.refusal own.session } in
    rw (c.handed_back.ensures, c.number-refusal.ensures) (ap for_c (rw c.from.ensures at c.step-stepped.ensures.value))
