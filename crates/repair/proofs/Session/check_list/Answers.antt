-- `repair::Session::check_list` meets its contract: its tests are the list's conditions, in the list's order.
use mathlib.Core.Path.{sym, ◌∙◌}
use Rattle.checks.proofs.RefusalLaws.{refused, passed_on, refused_first}
use Rattle.repair.specs.Session.{nodes_checks}
use Rattle.repair.proofs.BoxedLaws.{list_numbers, list_12, list_0}
use Rattle.repair.proofs.Session.check_list.Goals as goal

pub returns-in_err-code : goal.returns-in_err-code
returns-in_err-code c =
    let g = c.args in
    passed_on _ _ c.from_residual.ensures.1 ∙ refused_first _ (nodes_checks g.self g.nodes) _ c.in_err-code.ensures.number

pub returns-in_err-check : goal.returns-in_err-check
returns-in_err-check c =
    let p = c.in_ok-code.ensures.code in
    let e = rw (c.node_count.ensures, p.family_is, p.k_is) at c.in_err-check.ensures in
    passed_on _ _ c.from_residual-in_err-check.ensures.1 ∙ e ∙ sym (list_numbers _ _ _ (sym c.in_ok-code.ensures.number) (λ z. refused _ (e ∙ z)))

pub returns-then-some_missing : goal.returns-then-some_missing
returns-then-some_missing c =
    let p = c.in_ok-code.ensures.code in
    let e = rw (c.node_count.ensures, p.family_is, p.k_is) at c.in_ok-check.ensures in
    sym (list_12 _ _ _ (sym c.in_ok-code.ensures.number) (sym e) (sym c.some_missing.ensures ∙ c.if-some_missing.true))

pub returns : goal.returns
returns c =
    let p = c.in_ok-code.ensures.code in
    let e = rw (c.node_count.ensures, p.family_is, p.k_is) at c.in_ok-check.ensures in
    sym (list_0 _ _ _ (sym c.in_ok-code.ensures.number) (sym e) (sym c.some_missing.ensures ∙ c.if-some_missing.false))
