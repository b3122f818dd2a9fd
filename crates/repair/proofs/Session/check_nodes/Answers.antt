-- `repair::Session::check_nodes` meets its contract: its tests are the list's conditions, in the list's order.
use mathlib.Core.Path.{sym, ◌∙◌}
use native.Mathlib.Omega.{arith}
use Rattle.checks.proofs.RefusalLaws.{passed_on}
use Rattle.repair.proofs.CodeLaws.{code_sound, code_unsound, code_13, nodes_of_code}
use Rattle.repair.proofs.StartLaws.{known, nodes_small, nodes_13, nodes_6, nodes_0}
use Rattle.repair.proofs.Session.check_nodes.Goals as goal

pub returns-in_err-code-clause-number : goal.returns-in_err-code-clause-number
returns-in_err-code-clause-number c =
    let e = c.in_err-code.ensures.number in
    passed_on _ _ c.from_residual.ensures.1 ∙ code_13 _ _ e ∙ sym (nodes_13 _ _ (code_unsound _ _ e))

pub overflow_mul-n : goal.overflow_mul-n
overflow_mul-n c =
    rw (nodes_of_code c.args.self _ _ c.in_ok-code.ensures.code c.node_count-n.ensures) (omega (arith, nodes_small _ (known _ (code_sound _ c.in_ok-code.ensures.number))))

pub returns-then-nodes-n-clause-number : goal.returns-then-nodes-n-clause-number
returns-then-nodes-n-clause-number c =
    let n = nodes_of_code c.args.self _ _ c.in_ok-code.ensures.code c.node_count-n.ensures in
    sym (nodes_6 _ _ (code_sound _ c.in_ok-code.ensures.number) (rw n at c.if-nodes-n.true))

pub returns-clause-number : goal.returns-clause-number
returns-clause-number c =
    let n = nodes_of_code c.args.self _ _ c.in_ok-code.ensures.code c.node_count-n.ensures in
    sym (nodes_0 _ _ (code_sound _ c.in_ok-code.ensures.number) (rw n at c.if-nodes-n.false))
