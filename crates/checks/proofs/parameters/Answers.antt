-- `checks::parameters` meets its contract: its tests are the list's conditions, in the list's order.
use mathlib.Core.Path.{◌≡◌, refl, sym, ◌∙◌}
use mathlib.Core.Bool.{false}
use Rattle.std.proofs.lemmas.Result.{err_from_is_err_and}
use Rattle.families.specs.Families.{family_of, least_k, most_k}
use Rattle.checks.specs.Checks.{first_met}
use Rattle.base.specs.Ranges.{outside}
use Rattle.checks.specs.Parameters.{parameter_checks}
use Rattle.checks.proofs.RefusalLaws.{known, unknown}
use Rattle.checks.proofs.parameters.Goals as goal
use Rattle.checks.proofs.parameters.Goals.{After-is_outside}

-- the family's number is in range, and k is held to its range
family_known : (c : After-is_outside) → (outside 1 3 c.args.family ≡ false) × (outside (least_k (family_of c.args.family)) (most_k (family_of c.args.family)) c.args.k ≡ c.is_outside.result)
family_known c =
    let f = known c.args.family c.in_ok-family.family (sym c.try_from.ensures ∙ c.in_ok-family.was) in
    (f.0, sym (c.is_outside.ensures ∙ rw (c.least_k.ensures, c.most_k.ensures, f.1) refl))

pub returns-in_err-family-clause-number : goal.returns-in_err-family-clause-number
unfolding parameter_checks first_met
returns-in_err-family-clause-number c =
    let p = err_from_is_err_and c.from_residual.result c.from_residual.ensures.1 in
    rw (p.1, p.2, unknown c.args.family _ (sym c.try_from.ensures ∙ c.in_err-family.was))

pub returns-then-is_outside-clause-number : goal.returns-then-is_outside-clause-number
unfolding parameter_checks first_met
returns-then-is_outside-clause-number c =
    let f = family_known (goal.at.returns-then-is_outside-clause-number c).After-is_outside in
    rw (f.0, f.1, c.if-is_outside.true)

pub returns-then-is_outside-2-clause-number : goal.returns-then-is_outside-2-clause-number
unfolding parameter_checks first_met
returns-then-is_outside-2-clause-number c =
    let f = family_known (goal.at.returns-then-is_outside-2-clause-number c).After-is_outside in
    rw (f.0, f.1, c.if-is_outside.false, sym c.is_outside-2.ensures, c.if-is_outside-2.true)

pub returns-clause-number : goal.returns-clause-number
unfolding parameter_checks first_met
returns-clause-number c =
    let f = family_known (goal.at.returns-clause-number c).After-is_outside in
    rw (f.0, f.1, c.if-is_outside.false, sym c.is_outside-2.ensures, c.if-is_outside-2.false)
