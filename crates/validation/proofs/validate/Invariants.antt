-- `validation::validate` meets its contract: before turn i the first i steps are good.
use Rattle.validation.proofs.ValidateLaws.{Checked}
use Rattle.validation.proofs.validate.Given as goal

abbrev pub invariant-loop-i : goal.invariant-loop-i
invariant-loop-i l = Checked l.columns.code.family l.columns.code.k l.plan l.initial.live l.live l.free l.last l.i
