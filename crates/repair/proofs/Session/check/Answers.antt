-- `repair::Session::check` meets its contract.
use mathlib.Core.Path.{sym, ap, ◌∙◌}
use Rattle.boxes.specs.Box.{box_checks}
use Rattle.checks.proofs.AnswerLaws.{answer_refused}
use Rattle.checks.proofs.RefusalLaws.{refused}
use Rattle.repair.specs.Session.{refused_start}
use Rattle.repair.specs.Boxed.{checked_box}
use Rattle.repair.proofs.CodeLaws.{start_refused}
use Rattle.repair.proofs.Session.check.Goals as goal

pub returns-in_err-check : goal.returns-in_err-check
unfolding checked_box
returns-in_err-check c =
    let e = c.in_err-check.ensures.number in
    start_refused _ _ c.from_residual.ensures.1 ∙ ap refused_start e ∙ sym (answer_refused (box_checks c.args.bytes.now) _ refused_start (λ z. refused _ (e ∙ z)))

pub returns : goal.returns
unfolding checked_box
returns c = rw (sym c.in_ok-check.ensures.number, c.box_session.ensures)
