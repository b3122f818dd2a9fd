-- `validation::validate` meets its contract: before turn i the first i steps are good.
use mathlib.Core.Path.{sym, ◌∙◌}
use native.Mathlib.Omega.{arith}
use Rattle.validation.proofs.ValidateLaws.{check_none, check_done, check_bad, check_more}
use Rattle.validation.proofs.validate.Goals as goal

pub loop-i-init : goal.loop-i-init
loop-i-init c = check_none

pub returns-then-not-is_good : goal.returns-then-not-is_good
returns-then-not-is_good c =
    rw (← c.new-columns.ensures) (check_bad c.loop-i.invariant (omega arith) c.from-round.result _ c.from-round.ensures c.enter_round.ensures (sym c.is_good.ensures ∙ c.if-not-is_good.true))

pub loop-i-preserved : goal.loop-i-preserved
loop-i-preserved c =
    rw (c.mark_step.ensures.live_after, c.mark_step.ensures.free_after)
    (check_more c.loop-i.invariant (omega arith) c.from-round.result _ c.from-round.ensures c.enter_round.ensures (sym c.is_good.ensures ∙ c.if-not-is_good.false))

pub returns : goal.returns
returns c = rw (← c.new-columns.ensures) (check_done c.loop-i.invariant (omega arith))
