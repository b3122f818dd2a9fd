-- `lists::count_live` meets its contract: before each turn as many are counted as are live of the nodes gone through.
use mathlib.Core.Path.{◌≡◌, refl, ap, ◌∙◌}
use Prim.Native.Nat.{ℕ, ◌+◌, ◌-◌, ◌<◌}
use lib.ListN.{length, drop, length-take, length-drop}
use borrow.Rule.Slice.PartMut.{mid_of}
use mir.Val.{bool_byte}
use native.Mathlib.Omega.{arith}
use Rattle.base.specs.Ranges.{those_from}
use Rattle.lists.specs.Lists.{live_nodes}
use Rattle.lists.proofs.Laws.{live_nodes_few}
use Rattle.lists.proofs.Walks.{mark_at, count_next}
use Rattle.lists.proofs.count_live.Goals as goal
use Rattle.lists.proofs.count_live.Goals.{After-from-count}

pub loop-live-init : goal.loop-live-init
unfolding those_from
loop-live-init c = refl

next : (c : After-from-count) → (c.loop-live.live-index < c.args.n) × (c.loop-live.count + c.from-count.result ≡ length (live_nodes c.args.marks.now (c.loop-live.live-index + 1)))
next c =
    let m = c.args.marks.now in
    let i = c.loop-live.live-index in
    let at = mark_at m (c.args.n + 1 - 1) i c.loop-live-test.true in
    (omega (arith, at.0), omega (arith, c.loop-live.invariant, c.from-count.ensures ∙ ap bool_byte at.1, count_next m i))

pub overflow_add-count : goal.overflow_add-count
overflow_add-count c =
    let s = next (goal.at.overflow_add-count c).After-from-count in
    omega (arith, s.0, s.1, live_nodes_few c.args.marks.now (c.loop-live.live-index + 1))

pub loop-live-preserved : goal.loop-live-preserved
loop-live-preserved c = (next (goal.at.loop-live-preserved c).After-from-count).1

pub returns : goal.returns
returns c =
    let m = c.args.marks.now in
    let all : length (mid_of 1 (c.args.n + 1 - 1) m) ≡ c.args.n = omega (arith, length-take (c.args.n + 1 - 1) (drop 1 m), length-drop 1 m) in
    let last : c.loop-live.live-index ≡ c.args.n = omega arith in
    c.from.ensures ∙ c.loop-live.invariant ∙ ap (λ (j : ℕ). length (live_nodes m j)) last
