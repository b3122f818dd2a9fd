-- `boxes::body_start` meets its contract: the body ends by the end of the box, and so its beginning is a number.
use mathlib.Core.Path.{◌≡◌}
use Prim.Native.Nat.{◌+◌, ◌*◌, ◌≤◌}
use native.Mathlib.Omega.{arith}
use lib.ListN.{length}
use Rattle.boxes.specs.Box.{block_length_in, names_in, body_place, body_start}
use Rattle.boxes.proofs.Laws.{body_named, body_within}
use Rattle.boxes.proofs.body_start.Goals as goal
use Rattle.boxes.proofs.body_start.Goals.{After-body_place, Start}

-- the body lies within the box
within : (e : Start) → body_start e.args.bytes.now e.args.j + block_length_in e.args.bytes.now ≤ length e.args.bytes.now
within e = body_within _ _ e.requires

-- the body's place and L, as the code has them
place_is : (c : After-body_place) → let g = c.args in c.body_place.result * c.block_length-len.result ≡ body_place (names_in g.bytes.now) g.j * block_length_in g.bytes.now
place_is c = cc

pub block_length-len-requires : goal.block_length-len-requires
block_length-len-requires c = omega (arith, within (goal.at.block_length-len-requires c).Start)

pub held_count-requires : goal.held_count-requires
held_count-requires c = omega (arith, within (goal.at.held_count-requires c).Start)

pub names-requires : goal.names-requires
names-requires c = let s = within (goal.at.names-requires c).Start in (omega arith, omega arith)

pub body_place-requires : goal.body_place-requires
body_place-requires c =
    rw c.names.ensures (body_named _ _ c.requires)

pub overflow_mul-result : goal.overflow_mul-result
overflow_mul-result c = omega (arith, place_is (goal.at.overflow_mul-result c).After-body_place, within (goal.at.overflow_mul-result c).Start)

pub overflow_add-result-2 : goal.overflow_add-result-2
overflow_add-result-2 c = omega (arith, place_is (goal.at.overflow_add-result-2 c).After-body_place, c.held_count.ensures, within (goal.at.overflow_add-result-2 c).Start)
