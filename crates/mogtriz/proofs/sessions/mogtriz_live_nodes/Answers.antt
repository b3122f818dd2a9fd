-- `mogtriz::sessions::mogtriz_live_nodes` meets its contract: it is the session's own list, with the session as handed in.
use mathlib.Core.Path.{ap, ◌∙◌}
use Rattle.repair.specs.Answers.{Written}
use Rattle.mogtriz.specs.Sessions.{length_c, live_listed_c}
use Rattle.mogtriz.proofs.sessions.mogtriz_live_nodes.Goals as goal

pub returns-clause-value : goal.returns-clause-value
unfolding live_listed_c
returns-clause-value c =
    c.length_for_c.ensures ∙ ap (λ (own : Written). length_c own c.args.session) (rw c.from.ensures at c.live_nodes-answer.ensures.value)
