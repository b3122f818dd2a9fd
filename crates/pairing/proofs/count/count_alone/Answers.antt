-- `pairing::count::count_alone` meets its contract: the live nodes with a live third node are twice as many as the pairs.
use mathlib.Core.Path.{◌≡◌, refl, ◌∙◌}
use Prim.Native.Nat.{◌*◌, ◌/◌, ◌≤◌, ◌<◌}
use native.Mathlib.Omega.{arith}
use Rattle.families.proofs.Laws.{few}
use Rattle.pairing.specs.Pairs.{pair_count}
use Rattle.pairing.specs.Inner.{count_each}
use Rattle.pairing.proofs.CountLaws.{ends_twice, count_most, most_few}
use Rattle.pairing.proofs.count.count_alone.Goals as goal
use Rattle.pairing.proofs.count.count_alone.Goals.{After-live_ends-ends, Start}

node_few : (e : Start) → e.args.j ≤ 255
node_few e = omega (arith, e.requires.last, few _ _ e.args.set.columns.now.code.in_range)

-- half of them, and that they fit 16 bits
half : (c : After-live_ends-ends) → let g = c.args.set in (c.live_ends-ends.result / 2 ≡ pair_count g.columns.now.code.family g.columns.now.code.k g.marks.now c.args.j) × (c.live_ends-ends.result / 2 < 65536)
half c =
    let set = c.args.set in
    let code = set.columns.now.code in
    let m = set.marks.now in
    let n = c.requires in
    let twice : c.live_ends-ends.result ≡ 2 * pair_count code.family code.k m c.args.j = c.live_ends-ends.ensures ∙ rw set.listed (ends_twice _ _ code.in_range m c.args.j n) in
    (omega (arith, twice), omega (arith, twice, count_most _ _ code.in_range m _ n, most_few _ _ code.in_range m _ n))

pub overflow_cast-counts : goal.overflow_cast-counts
overflow_cast-counts c = omega (arith, (half (goal.at.overflow_cast-counts c).After-live_ends-ends).1)

pub offset_bounds-counts-j : goal.offset_bounds-counts-j
offset_bounds-counts-j c = omega (arith, node_few (goal.at.offset_bounds-counts-j c).Start)

pub bounds-counts-j : goal.bounds-counts-j
bounds-counts-j c = omega (arith, node_few (goal.at.bounds-counts-j c).Start)

pub returns : goal.returns
unfolding count_each
returns c = rw (half (goal.at.returns c).After-live_ends-ends).0 refl
