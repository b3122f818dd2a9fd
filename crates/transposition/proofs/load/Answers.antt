-- `transposition::load` meets its contract: before turn i the first i rows are in place.
use mathlib.Core.Path.{◌≡◌, ◌∙◌}
use Prim.Native.Nat.{◌+◌, ◌*◌, ◌≤◌}
use native.Mathlib.Nat.{add-sub_cancel_left}
use native.Mathlib.Omega.{arith}
use borrow.Rule.Slice.PartMut.{mid_of}
use lib.ListN.{length}
use Rattle.transposition.proofs.Places.{row_end}
use Rattle.transposition.proofs.TileLaws.{loaded_more}
use Rattle.transposition.proofs.load.Goals as goal
use Rattle.transposition.proofs.load.Goals.{In-loop-i}

row : (c : In-loop-i) → let g = c.args in c.loop-i.i * g.size + g.size ≤ 128
row c = omega (arith, row_end c.loop-i.i c.args.size c.args.count c.loop-i-test.true, c.requires.0)

piece : (c : In-loop-i) → let g = c.args in g.from + c.loop-i.i * g.from_stride + g.size ≤ length g.src.now
piece c = c.requires.1 c.loop-i.i c.loop-i-test.true

pub loop-i-preserved : goal.loop-i-preserved
loop-i-preserved c =
    let g = c.args in
    let at = g.from + c.loop-i.i * g.from_stride in
    let v : c.copy_from_slice.new.self ≡ mid_of at g.size g.src.now = c.copy_from_slice.ensures.after ∙ rw (add-sub_cancel_left at g.size) in
    let p = piece (goal.at.loop-i-preserved c).In-loop-i in
    let r : c.loop-i.i * g.size + g.size ≤ length c.loop-i.tile = omega (arith, row (goal.at.loop-i-preserved c).In-loop-i) in
    rw (add-sub_cancel_left (c.loop-i.i * g.size) g.size, v) (loaded_more p r c.loop-i.invariant)
