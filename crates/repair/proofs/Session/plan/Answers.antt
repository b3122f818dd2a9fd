-- `repair::Session::plan` meets its contract: the plan is made aside, and copied where the destination is long enough.
use mathlib.Core.Path.{◌∙◌}
use Prim.Native.Nat.{◌*◌}
use native.Mathlib.Nat.{sub-zero}
use native.Mathlib.Omega.{arith}
use Rattle.repair.proofs.CodeLaws.{code_sound, code_unsound, code_13}
use Rattle.repair.proofs.RepairsLaws.{plan_13, plan_6, plan_made, made_steps, made_answer, made_bytes}
use Rattle.repair.proofs.Session.plan.Goals as goal

pub returns-in-Err-clause-value : goal.returns-in-Err-clause-value
returns-in-Err-clause-value c =
    let e = c.in-Err.ensures.number in
    rw (c.refused.ensures, code_13 _ _ e) (plan_13 c.args.self c.args.out.now (code_unsound _ _ e)).answer_is

pub returns-in-Err-clause-out_after : goal.returns-in-Err-clause-out_after
returns-in-Err-clause-out_after c = (plan_13 c.args.self c.args.out.now (code_unsound _ _ c.in-Err.ensures.number)).buffer_is

pub returns-then-out-needed-clause-value : goal.returns-then-out-needed-clause-value
returns-then-out-needed-clause-value c =
    let g = c.args in
    let m = made_steps g.self _ c.draw_up-made.ensures.value.0 in
    rw c.refused-then-out-needed.ensures (plan_6 g.self g.out.now (code_sound _ c.in-Ok.ensures.number) (omega (arith, m))).answer_is

pub returns-then-out-needed-clause-out_after : goal.returns-then-out-needed-clause-out_after
returns-then-out-needed-clause-out_after c =
    let g = c.args in
    let m = made_steps g.self _ c.draw_up-made.ensures.value.0 in
    (plan_6 g.self g.out.now (code_sound _ c.in-Ok.ensures.number) (omega (arith, m))).buffer_is

pub returns-clause-value : goal.returns-clause-value
returns-clause-value c =
    let g = c.args in
    let d = c.draw_up-made in
    let m = made_steps g.self _ d.ensures.value.0 in
    rw (c.served.ensures, c.from.ensures)
    (made_answer g.self d.result d.ensures.value.0 g.self ∙ (plan_made g.self g.out.now (code_sound _ c.in-Ok.ensures.number) (omega (arith, m))).answer_is)

pub returns-clause-out_after : goal.returns-clause-out_after
returns-clause-out_after c =
    let g = c.args in
    let d = c.draw_up-made in
    let m = made_steps g.self _ d.ensures.value.0 in
    rw (c.copy_block.ensures, sub-zero (4 * d.result.steps), made_bytes g.self d.result d.ensures.value.0 _ _ d.ensures.steps_after)
    (rw (← m) at (plan_made g.self g.out.now (code_sound _ c.in-Ok.ensures.number) (omega (arith, m))).buffer_is)
