-- `mogtriz::sessions::SessionFromMarkedSession::from` meets its contract: the one test is whether a byte is above 1.
use mathlib.Core.Path.{sym, ◌∙◌}
use Rattle.mogtriz.specs.Sessions.{session_of_c}
use Rattle.mogtriz.proofs.sessions.SessionFromMarkedSession.from.Goals as goal

pub returns-then-some_above_1 : goal.returns-then-some_above_1
unfolding session_of_c
returns-then-some_above_1 c = rw (sym c.some_above_1.ensures ∙ c.if-some_above_1.true, c.no_session.ensures)

pub returns : goal.returns
unfolding session_of_c
returns c = rw (sym c.some_above_1.ensures ∙ c.if-some_above_1.false, c.marks_of_bytes-live.ensures)
