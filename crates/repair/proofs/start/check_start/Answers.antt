-- `repair::start::check_start` meets its contract: the parameters' checks, then the list's.
use mathlib.Core.Path.{sym, ◌∙◌}
use Rattle.checks.specs.Parameters.{parameter_checks}
use Rattle.checks.proofs.RefusalLaws.{passed_on, refused_first}
use Rattle.repair.specs.Session.{start_checks}
use Rattle.repair.proofs.StartLaws.{start_on}
use Rattle.repair.proofs.start.check_start.Goals as goal

pub returns-in_err-code : goal.returns-in_err-code
unfolding start_checks
returns-in_err-code c =
    let g = c.args in
    passed_on _ _ c.from_residual.ensures.1 ∙ refused_first _ (parameter_checks g.family g.k g.len) _ c.in_err-code.ensures.number

pub returns : goal.returns
returns c =
    let p = c.in_ok-code.ensures.code in
    (rw (c.node_count.ensures, p.family_is, p.k_is) at c.check.ensures) ∙ sym (start_on _ _ _ _ (sym c.in_ok-code.ensures.number))
