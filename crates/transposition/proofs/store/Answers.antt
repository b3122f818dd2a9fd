-- `transposition::store` meets its contract: before turn i the buffer has neared each goal by the first i rows.
use mathlib.Core.Path.{◌≡◌, ◌∙◌}
use Prim.Native.Nat.{◌+◌, ◌*◌, ◌≤◌}
use native.Mathlib.Nat.{add-sub_cancel_left}
use native.Mathlib.Omega.{arith}
use borrow.Rule.Slice.PartMut.{mid_of}
use lib.ListN.{length}
use Rattle.blocks.proofs.PartLaws.{length_mid, get_or_mid}
use Rattle.transposition.proofs.Places.{row_end}
use Rattle.transposition.proofs.NearLaws.{near_piece}
use Rattle.transposition.proofs.store.Goals as goal
use Rattle.transposition.proofs.store.Goals.{In-loop-i}

row : (c : In-loop-i) → let g = c.args in c.loop-i.i * g.size + g.size ≤ 128
row c = omega (arith, row_end c.loop-i.i c.args.size c.args.count c.loop-i-test.true, c.requires.0)

piece : (c : In-loop-i) → let g = c.args in g.to + c.loop-i.i * g.to_stride + g.size ≤ length g.dst.now
piece c = c.requires.1 c.loop-i.i c.loop-i-test.true

pub loop-i-preserved : goal.loop-i-preserved
loop-i-preserved c =
    let g = c.args in
    let at = g.to + c.loop-i.i * g.to_stride in
    let from = c.loop-i.i * g.size in
    let p = piece (goal.at.loop-i-preserved c).In-loop-i in
    let l : length (mid_of from g.size g.tile) ≡ g.size = length_mid g.tile from g.size (omega (arith, row (goal.at.loop-i-preserved c).In-loop-i)) in
    let v : c.copy_from_slice.new.self ≡ mid_of from g.size g.tile = c.copy_from_slice.ensures.after ∙ rw (add-sub_cancel_left from g.size) in
    rw (add-sub_cancel_left at g.size, v)
    (record {
      nears = λ goal e. near_piece (c.loop-i.invariant.nears goal (λ i j h. e i j (omega arith))) (mid_of from g.size g.tile) p l
          (λ j h. get_or_mid g.tile from g.size j h ∙ e c.loop-i.i j (omega arith) h);
    })
