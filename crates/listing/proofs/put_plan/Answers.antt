-- `listing::put_plan` meets its contract: the last line follows the step lines, and the steps are the plan's.
use Prim.Native.Nat.{◌*◌}
use native.Mathlib.Omega.{arith}
use lib.ListN.{length-take}
use Rattle.listing.proofs.TextLaws.{enough, last_line_most}
use Rattle.listing.proofs.PutLaws.{then}
use Rattle.listing.proofs.ListingLaws.{Drawn, plan_served, drawn}
use borrow.Author.Rules.{rules}
use Rattle.listing.proofs.put_plan.Goals as goal
use Rattle.listing.proofs.put_plan.Goals.{After-unwrap-totals}

-- the plan is the session's
plan_drawn : (c : After-unwrap-totals) → Drawn c.args.session c.plan-made.new.out c.unwrap-totals.result
plan_drawn c =
    drawn c.args.session c.requires.session_value (search rules) c.plan_room-steps.result (search rules) c.plan-made.result c.plan-made.ensures.value c.unwrap-totals.ensures
    c.plan-made.ensures.out_after

pub unwrap-totals-requires : goal.unwrap-totals-requires
unwrap-totals-requires c = plan_served c.args.session c.requires.session_value (search rules) c.plan_room-steps.result (search rules) c.plan-made.result c.plan-made.ensures.value

pub overflow_mul-steps : goal.overflow_mul-steps
overflow_mul-steps c = omega (arith, (plan_drawn (goal.at.overflow_mul-steps c).After-unwrap-totals).short)

pub slice_bounds-steps-end : goal.slice_bounds-steps-end
slice_bounds-steps-end c = omega (arith, (plan_drawn (goal.at.slice_bounds-steps-end c).After-unwrap-totals).short)

pub slice_bounds-put_step_lines-end : goal.slice_bounds-put_step_lines-end
slice_bounds-put_step_lines-end c =
    omega (arith, length-take (4 * c.unwrap-totals.result.steps) c.plan-made.new.out, (plan_drawn (goal.at.slice_bounds-put_step_lines-end c).After-unwrap-totals).short)

pub put_last_line-requires : goal.put_last_line-requires
put_last_line-requires c =
    let d = plan_drawn (goal.at.put_last_line-requires c).After-unwrap-totals in
    enough c.put_step_lines-last.result (last_line_most _ _ _ (search rules) (search rules) (search rules)) (omega (arith, d.short, d.count))

pub returns : goal.returns
returns c =
    let d = plan_drawn (goal.at.returns c).After-unwrap-totals in
    rw (d.steps_are, d.steps, d.rounds, d.left) at (then c.put_step_lines-last.ensures.put c.put_last_line.ensures)
