-- `mogtriz::repairs::mogtriz_run` meets its contract: it is the session's own run, with the session that C gets.
use mathlib.Core.Path.{ap}
use Rattle.repair.specs.Answers.{Repairs}
use Rattle.mogtriz.specs.Repairs.{handed_back, repairs_c, ran_c}
use Rattle.mogtriz.proofs.repairs.mogtriz_run.Goals as goal

pub returns-clause-value : goal.returns-clause-value
unfolding ran_c
returns-clause-value c =
    rw (c.repairs_for_c.ensures, c.handed_back-given.ensures, c.number.ensures)
    (ap (λ (own : Repairs). repairs_c own (handed_back c.args.session own.refusal own.session)) (rw c.from.ensures at c.run-ran.ensures.value))
