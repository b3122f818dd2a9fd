-- `carrying::carry_plan` meets its contract: the plan is checked, and its steps are made where none is bad.
use mathlib.Core.Path.{sym, ap, ◌∙◌}
use Prim.Native.Nat.{ℕ}
use Rattle.checks.proofs.RefusalLaws.{refused}
use Rattle.families.specs.Families.{family_of}
use Rattle.validation.proofs.Proved.{accepted_claim}
use Rattle.repair.specs.Carry.{plan_steps}
use Rattle.repair.proofs.StartLaws.{sized}
use Rattle.carrying.proofs.Laws.{validated_in, carry_refused, carry_6, carry_bad, carry_made, checked_numbered, checked_none, checked_some, checked_live}
use Rattle.carrying.proofs.carry_plan.Goals as goal

pub returns-in-Err : goal.returns-in-Err
returns-in-Err c =
    let g = c.args in
    let r = carry_refused g.session g.plan.now g.nodes.now _ c.in-Err.ensures.number (refused _) in
    rw c.refused.ensures (record { value = r.answer_is; bad = record {}; nodes_after = r.buffer_is })

pub returns-then-is_cut : goal.returns-then-is_cut
returns-then-is_cut c =
    let g = c.args in
    let r = carry_6 g.session g.plan.now g.nodes.now (sym c.in-Ok.ensures.number) (sym c.is_cut.ensures ∙ c.if-is_cut.true) in
    rw c.refused-then-is_cut.ensures (record { value = r.answer_is; bad = record {}; nodes_after = r.buffer_is })

-- a bad step: its number
pub returns-in-Some : goal.returns-in-Some
returns-in-Some c =
    let g = c.args in
    let v = validated_in g.session g.plan.now c.in-Ok.code c.in-Ok.ensures.code c.validate-checked.ensures in
    let b = checked_some g.session g.plan.now c.validate-checked.result v c.in-Some.step c.in-Some.is in
    let r = carry_bad g.session g.plan.now g.nodes.now (sym c.in-Ok.ensures.number) (sym c.is_cut.ensures ∙ c.if-is_cut.false) (λ z. b.1 (b.0 ∙ z)) in
    rw c.served.ensures (record { value = ap (λ (n : ℕ). record { refusal = 0; bad = n; session = g.session }) b.0 ∙ r.answer_is; bad = sym c.in-Some.is ∙ checked_numbered g.session g.plan.now _ v; nodes_after = r.buffer_is })

pub make_steps-next-requires : goal.make_steps-next-requires
make_steps-next-requires c =
    let s = c.args.session in
    let plan = c.args.plan.now in
    let v = validated_in s plan c.in-Ok.code c.in-Ok.ensures.code c.validate-checked.ensures in
    let none = checked_none s plan c.validate-checked.result v c.in_default.is in
    let b = sized s _ (sym c.in-Ok.ensures.number) in
    record {
      self_value = (b.sound, b.size);
      can_make_all = (accepted_claim (family_of s.family) s.k s.live (plan_steps plan) none).makes;
      live_value = checked_live s plan c.validate-checked.result v none;
    }

pub returns : goal.returns
returns c =
    let g = c.args in
    let v = validated_in g.session g.plan.now c.in-Ok.code c.in-Ok.ensures.code c.validate-checked.ensures in
    let none = checked_none g.session g.plan.now c.validate-checked.result v c.in_default.is in
    let r = carry_made g.session g.plan.now g.nodes.now (sym c.in-Ok.ensures.number) (sym c.is_cut.ensures ∙ c.if-is_cut.false) none in
    rw (c.served-2.ensures, c.make_steps-next.ensures.value) (record { value = r.answer_is; bad = sym c.in_default.is ∙ checked_numbered g.session g.plan.now _ v; nodes_after = c.make_steps-next.ensures.nodes_after ∙ r.buffer_is })
