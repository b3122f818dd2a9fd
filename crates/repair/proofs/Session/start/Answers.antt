-- `repair::Session::start` meets its contract.
use mathlib.Core.Path.{sym, ◌∙◌, ap}
use Rattle.checks.proofs.AnswerLaws.{answer_refused}
use Rattle.checks.proofs.RefusalLaws.{refused}
use Rattle.repair.specs.Session.{refused_start, start_checks, started}
use Rattle.repair.proofs.CodeLaws.{start_refused}
use Rattle.repair.proofs.Session.start.Goals as goal

pub returns-in_err-check_start : goal.returns-in_err-check_start
unfolding started
returns-in_err-check_start c =
    let e = c.in_err-check_start.ensures in
    start_refused _ _ c.from_residual.ensures.1 ∙ ap refused_start e ∙ sym (answer_refused (start_checks _ _ _ _) _ refused_start (λ z. refused _ (e ∙ z)))

pub returns : goal.returns
unfolding started
returns c = rw (sym c.in_ok-check_start.ensures, c.marks_of_list.ensures)
