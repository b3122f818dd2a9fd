-- `boxes::check_body` meets its contract: the box's checks, then 4 and 12.
use mathlib.Core.Path.{sym, ◌∙◌}
use native.Mathlib.Omega.{arith}
use Rattle.base.proofs.RangeLaws.{inside}
use Rattle.checks.proofs.RefusalLaws.{refused, passed_on}
use Rattle.boxes.proofs.Answers.{n_is, by_box, by_outside, by_missing, by_none}
use Rattle.boxes.proofs.Laws.{accepted_box, has_names}
use Rattle.boxes.proofs.check_body.Goals as goal

pub returns-in_err-code : goal.returns-in_err-code
returns-in_err-code c =
    let e = c.in_err-code.ensures.number in
    passed_on _ _ c.from_residual.ensures.1 ∙ e ∙ sym (by_box _ _ (λ z. refused _ (e ∙ z)))

pub returns-then-is_outside : goal.returns-then-is_outside
returns-then-is_outside c =
    sym (by_outside _ _ (sym c.in_ok-code.ensures.number) (rw (n_is c.args.bytes.now c.in_ok-code.ensures.code c.node_count.ensures) at (sym c.is_outside.ensures ∙ c.if-is_outside.true)))

pub held_count-requires : goal.held_count-requires
held_count-requires c = (has_names _ (sym c.in_ok-code.ensures.number)).0

pub names-requires : goal.names-requires
names-requires c = has_names _ (sym c.in_ok-code.ensures.number)

pub returns-then-held_count-place_in : goal.returns-then-held_count-place_in
returns-then-held_count-place_in c =
    let e = sym c.in_ok-code.ensures.number in
    let i = inside 1 _ _ (sym c.is_outside.ensures ∙ c.if-is_outside.false) in
    sym (by_missing _ _ e i.0 (omega (arith, i.1, n_is c.args.bytes.now c.in_ok-code.ensures.code c.node_count.ensures))
    (omega (arith, rw c.names.ensures at c.place_in.ensures, c.held_count.ensures, (accepted_box _ e).names_size, c.if-held_count-place_in.true)))

pub returns : goal.returns
returns c =
    let e = sym c.in_ok-code.ensures.number in
    let i = inside 1 _ _ (sym c.is_outside.ensures ∙ c.if-is_outside.false) in
    sym (by_none _ _ e i.0 (omega (arith, i.1, n_is c.args.bytes.now c.in_ok-code.ensures.code c.node_count.ensures))
    (omega (arith, rw c.names.ensures at c.place_in.ensures, c.held_count.ensures, (accepted_box _ e).names_size, c.if-held_count-place_in.false)))
