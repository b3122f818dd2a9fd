-- `boxes::check` meets its contract: under 8 bytes 7, then 1 to 3, then the checks after them.
use mathlib.Core.Path.{sym, ◌∙◌}
use native.Mathlib.Omega.{arith}
use Rattle.checks.proofs.RefusalLaws.{refused, passed_on}
use Rattle.boxes.proofs.Answers.{by_short, by_parameters, by_page}
use Rattle.boxes.proofs.check.Goals as goal

pub returns-then-bytes-lt8-clause-number : goal.returns-then-bytes-lt8-clause-number
returns-then-bytes-lt8-clause-number c = sym (by_short _ c.if-bytes-lt8.true)

pub returns-in_err-code-clause-number : goal.returns-in_err-code-clause-number
returns-in_err-code-clause-number c =
    let e = (rw (c.family.ensures, c.block_count.ensures, c.block_length.ensures) at c.in_err-code.ensures.number) in
    passed_on _ _ c.from_residual.ensures.1 ∙ e ∙ sym (by_parameters c.args.bytes.now (omega arith) (λ z. refused _ (e ∙ z)))

pub returns-in_err-check_page-clause-number : goal.returns-in_err-check_page-clause-number
returns-in_err-check_page-clause-number c =
    let e = (rw (c.family.ensures, c.block_count.ensures, c.block_length.ensures) at c.in_ok-code.ensures.number) in
    passed_on _ _ c.from_residual-in_err-check_page.ensures.1 ∙ c.in_err-check_page.ensures ∙ sym (by_page c.args.bytes.now (omega arith) (sym e))

pub returns-clause-number : goal.returns-clause-number
returns-clause-number c =
    let e = (rw (c.family.ensures, c.block_count.ensures, c.block_length.ensures) at c.in_ok-code.ensures.number) in
    c.in_ok-check_page.ensures ∙ sym (by_page c.args.bytes.now (omega arith) (sym e))
