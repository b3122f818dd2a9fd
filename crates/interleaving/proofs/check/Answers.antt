-- `interleaving::check` meets its contract: its tests are the list's conditions, in the list's order.
use mathlib.Core.Path.{sym, ◌∙◌}
use native.Mathlib.Omega.{arith}
use Rattle.checks.specs.Parameters.{parameter_checks}
use Rattle.checks.proofs.Laws.{in_range, object_most}
use Rattle.checks.proofs.BufferLaws.{by_first, by_second, by_none}
use Rattle.checks.proofs.RefusalLaws.{passed_on, refused_first}
use Rattle.interleaving.specs.Interleaved.{interleave_checks}
use Rattle.interleaving.proofs.check.Goals as goal

pub returns-in_err-parameters : goal.returns-in_err-parameters
unfolding interleave_checks
returns-in_err-parameters c =
    let g = c.args in
    passed_on _ _ c.from_residual.ensures.1 ∙ refused_first _ (parameter_checks g.family g.k g.len) _ c.in_err-parameters.ensures.number

pub overflow_mul-k : goal.overflow_mul-k
overflow_mul-k c = omega (arith, object_most (in_range c.args.family c.args.k c.args.len (sym c.in_ok-parameters.ensures.number)))

pub returns-then-bytes_len-k : goal.returns-then-bytes_len-k
unfolding interleave_checks
returns-then-bytes_len-k c =
    let g = c.args in
    sym (by_first g.family g.k g.len g.bytes_len _ g.out_len _ (sym c.in_ok-parameters.ensures.number) c.if-bytes_len-k.true)

pub returns-then-out_len-k : goal.returns-then-out_len-k
unfolding interleave_checks
returns-then-out_len-k c =
    let g = c.args in
    sym (by_second g.family g.k g.len g.bytes_len _ g.out_len _ (sym c.in_ok-parameters.ensures.number) c.if-bytes_len-k.false c.if-out_len-k.true)

pub returns : goal.returns
unfolding interleave_checks
returns c =
    let g = c.args in
    sym (by_none g.family g.k g.len g.bytes_len _ g.out_len _ (sym c.in_ok-parameters.ensures.number) c.if-bytes_len-k.false c.if-out_len-k.false)
