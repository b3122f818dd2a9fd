-- `boxes::body` meets its contract: where the body is not refused, its part lies in the box.
use mathlib.Core.Path.{sym, ◌∙◌}
use native.Mathlib.Nat.{add-sub_cancel_left}
use native.Mathlib.Omega.{arith}
use Rattle.checks.proofs.RefusalLaws.{refused}
use Rattle.boxes.proofs.Answers.{body_empty, body_part}
use Rattle.boxes.proofs.Laws.{body_within}
use Rattle.boxes.proofs.body.Goals as goal

pub returns-in-Err : goal.returns-in-Err
returns-in-Err c = sym (body_empty _ _ (λ z. refused _ (c.in-Err.ensures ∙ z)))

pub block_length-len-requires : goal.block_length-len-requires
block_length-len-requires c = omega (arith, body_within _ _ (sym c.in-Ok.ensures))

pub overflow_add-result : goal.overflow_add-result
overflow_add-result c = omega (arith, c.body_start-from.ensures, c.block_length-len.ensures, body_within _ _ (sym c.in-Ok.ensures))

pub slice_bounds-result-end : goal.slice_bounds-result-end
slice_bounds-result-end c = omega (arith, c.body_start-from.ensures, c.block_length-len.ensures, body_within _ _ (sym c.in-Ok.ensures))

pub returns-in-Ok : goal.returns-in-Ok
returns-in-Ok c =
    rw (add-sub_cancel_left c.body_start-from.result c.block_length-len.result) (cc (body_part _ _ (sym c.in-Ok.ensures)))
