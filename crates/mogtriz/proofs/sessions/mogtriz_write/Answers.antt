-- `mogtriz::sessions::mogtriz_write` meets its contract: it is the session's own write, with the session as handed in.
use mathlib.Core.Path.{ap, ◌∙◌}
use Rattle.repair.specs.Answers.{Written}
use Rattle.mogtriz.specs.Sessions.{length_c, written_c}
use Rattle.mogtriz.proofs.sessions.mogtriz_write.Goals as goal

pub returns-clause-value : goal.returns-clause-value
unfolding written_c
returns-clause-value c =
    c.length_for_c.ensures ∙ ap (λ (own : Written). length_c own c.args.session) (rw c.from.ensures at c.write-answer.ensures.value)
