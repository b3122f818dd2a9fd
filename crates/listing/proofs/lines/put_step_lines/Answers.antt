-- `listing::lines::put_step_lines` meets its contract. The loop's invariant: the lines of the steps passed are put.
use mathlib.Core.Path.{refl}
use mathlib.Core.List.{flat_map}
use native.Mathlib.Omega.{arith}
use Rattle.planning.specs.Made.{steps_in}
use Rattle.listing.proofs.LineLaws.{lined_none, lined_room, lined_more}
use Rattle.listing.proofs.StepLaws.{lines_more, step_short}
use Rattle.listing.proofs.lines.put_step_lines.Goals as goal

pub loop-i-init : goal.loop-i-init
unfolding flat_map steps_in
loop-i-init c = lined_none refl (omega arith)

pub put_step_line-next-requires : goal.put_step_line-next-requires
put_step_line-next-requires c =
    lined_room c.loop-i.invariant (omega arith) (step_short c.args.steps.now c.loop-i.i c.shared_slice_known-1.given) c.requires

pub loop-i-preserved : goal.loop-i-preserved
loop-i-preserved c =
    let steps = c.args.steps.now in
    lined_more c.loop-i.invariant (omega arith) c.put_step_line-next.ensures (step_short steps c.loop-i.i c.shared_slice_known-1.given) (lines_more steps c.loop-i.i)
