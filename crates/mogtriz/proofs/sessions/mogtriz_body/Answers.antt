-- `mogtriz::sessions::mogtriz_body` meets its contract: where the body is not refused, it begins at its place in the box.
use mathlib.Core.Path.{sym, ◌∙◌}
use native.Mathlib.Omega.{arith}
use Rattle.checks.proofs.AnswerLaws.{answer_refused}
use Rattle.checks.proofs.RefusalLaws.{refused}
use Rattle.boxes.proofs.Laws.{body_within}
use Rattle.mogtriz.specs.Sessions.{part_in}
use Rattle.mogtriz.proofs.sessions.mogtriz_body.Goals as goal

pub returns-in-Err : goal.returns-in-Err
unfolding part_in
returns-in-Err c =
    let e = c.in-Err.ensures in
    rw (c.from.ensures, e) (sym (answer_refused _ _ (λ number. record { refusal = number; from = 0; length = 0 }) (λ z. refused _ (e ∙ z))))

pub block_length-requires : goal.block_length-requires
block_length-requires c = omega (arith, body_within _ _ (sym c.in_default.ensures))

pub returns : goal.returns
unfolding part_in
returns c = rw (sym c.in_default.ensures, c.body_start.ensures, c.block_length.ensures)
