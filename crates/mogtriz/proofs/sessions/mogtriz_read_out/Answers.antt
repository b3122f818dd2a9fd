-- `mogtriz::sessions::mogtriz_read_out` meets its contract: it is the session's own read out, with the session as handed in.
use mathlib.Core.Path.{ap, ◌∙◌}
use Rattle.repair.specs.Answers.{ReadOut}
use Rattle.mogtriz.specs.declared.sessions.MarkedSession.{MarkedSession}
use Rattle.mogtriz.specs.declared.sessions.ReadOutAnswer.{ReadOutAnswer}
use Rattle.mogtriz.specs.Sessions.{read_out_c}
use Rattle.mogtriz.proofs.sessions.mogtriz_read_out.Goals as goal

abbrev for_c : MarkedSession → ReadOut → ReadOutAnswer
for_c session own = record { refusal = own.refusal; block = own.block; session = session }

pub returns-clause-value : goal.returns-clause-value
unfolding read_out_c
returns-clause-value c =
    c.read_out_for_c.ensures ∙ ap (for_c c.args.session) (rw c.from.ensures at c.read_out-answer.ensures.value)
