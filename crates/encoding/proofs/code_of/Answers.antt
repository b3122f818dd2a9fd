-- `encoding::code_of` meets its contract: its tests are the list's conditions, in the list's order.
use mathlib.Core.Path.{◌≡◌, sym, ◌∙◌}
use native.Mathlib.Omega.{arith}
use Rattle.families.specs.Families.{family_of, node_count}
use Rattle.checks.specs.Parameters.{parameter_checks}
use Rattle.checks.proofs.Laws.{in_range, object_most}
use Rattle.checks.proofs.BufferLaws.{by_first, by_second, by_none}
use Rattle.checks.proofs.RefusalLaws.{passed_on, refused_first}
use Rattle.encoding.specs.Encode.{encode_checks}
use Rattle.encoding.proofs.Answers.{nodes_small}
use Rattle.encoding.proofs.code_of.Goals as goal
use Rattle.encoding.proofs.code_of.Goals.{After-node_count-n}

-- n
n_is : (c : After-node_count-n) → c.node_count-n.result ≡ node_count (family_of c.args.family) c.args.k
n_is c = let p = c.in_ok-code.ensures.code in rw (c.node_count-n.ensures, p.family_is, p.k_is)

pub returns-in_err-code-clause-number : goal.returns-in_err-code-clause-number
unfolding encode_checks
returns-in_err-code-clause-number c =
    let g = c.args in
    passed_on _ _ c.from_residual.ensures.1 ∙ refused_first _ (parameter_checks g.family g.k g.len) _ c.in_err-code.ensures.number

pub overflow_mul-k : goal.overflow_mul-k
overflow_mul-k c = omega (arith, object_most (in_range c.args.family c.args.k c.args.len (sym c.in_ok-code.ensures.number)))

pub returns-then-object_len-k-clause-number : goal.returns-then-object_len-k-clause-number
unfolding encode_checks
returns-then-object_len-k-clause-number c =
    let g = c.args in
    sym (by_first g.family g.k g.len g.object_len _ g.nodes_len _ (sym c.in_ok-code.ensures.number) c.if-object_len-k.true)

pub overflow_mul-n : goal.overflow_mul-n
overflow_mul-n c =
    rw (n_is (goal.at.overflow_mul-n c).After-node_count-n) (omega (arith, nodes_small c.args.family c.args.k c.args.len (sym c.in_ok-code.ensures.number)))

pub returns-then-nodes_len-n-clause-number : goal.returns-then-nodes_len-n-clause-number
unfolding encode_checks
returns-then-nodes_len-n-clause-number c =
    let g = c.args in
    let n = n_is (goal.at.returns-then-nodes_len-n-clause-number c).After-node_count-n in
    sym (by_second g.family g.k g.len g.object_len _ g.nodes_len _ (sym c.in_ok-code.ensures.number) c.if-object_len-k.false (rw n at c.if-nodes_len-n.true))

pub returns-clause-number : goal.returns-clause-number
unfolding encode_checks
returns-clause-number c =
    let g = c.args in
    let n = n_is (goal.at.returns-clause-number c).After-node_count-n in
    sym (by_none g.family g.k g.len g.object_len _ g.nodes_len _ (sym c.in_ok-code.ensures.number) c.if-object_len-k.false (rw n at c.if-nodes_len-n.false))
