-- `carrying::check_plan` meets its contract: its tests are the list's conditions, in the list's order.
use mathlib.Core.Path.{sym, ap, ◌∙◌}
use Prim.Native.Nat.{ℕ}
use Rattle.repair.proofs.CodeLaws.{code_sound, code_unsound, code_13}
use Rattle.carrying.proofs.Laws.{validated_in, check_13, check_6, check_made, checked_numbered, checked_bad}
use Rattle.carrying.proofs.check_plan.Goals as goal

pub returns-in-Err : goal.returns-in-Err
returns-in-Err c =
    let g = c.args in
    let e = c.in-Err.ensures.number in
    rw (c.refused.ensures, code_13 _ _ e) (record { value = check_13 g.session g.plan.now (code_unsound _ _ e); bad = record {} })

pub returns-then-is_cut : goal.returns-then-is_cut
returns-then-is_cut c =
    let g = c.args in
    rw c.refused-then-is_cut.ensures
    (record { value = check_6 g.session g.plan.now (code_sound _ c.in-Ok.ensures.number) (sym c.is_cut.ensures ∙ c.if-is_cut.true); bad = record {} })

pub returns : goal.returns
returns c =
    let g = c.args in
    let v = validated_in g.session g.plan.now c.in-Ok.code c.in-Ok.ensures.code c.validate-checked.ensures in
    rw c.served.ensures (record {
      value =
          ap (λ (n : ℕ). record { refusal = 0; bad = n; session = g.session }) (checked_bad g.session g.plan.now c.validate-checked.result v)
          ∙ check_made g.session g.plan.now (code_sound _ c.in-Ok.ensures.number) (sym c.is_cut.ensures ∙ c.if-is_cut.false);
      bad = checked_numbered g.session g.plan.now c.validate-checked.result v;
    })
