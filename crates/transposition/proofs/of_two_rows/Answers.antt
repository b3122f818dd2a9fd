-- `transposition::of_two_rows` meets its contract: before turn t the columns that t tiles cover are right.
use mathlib.Core.Path.{◌≡◌, ◌∙◌}
use Prim.Native.Nat.{ℕ, ◌+◌, ◌*◌}
use native.Mathlib.Omega.{arith}
use lib.ListN.{length}
use Rattle.transposition.specs.Inner.{transposed, TileIn}
use Rattle.transposition.proofs.MatrixLaws.{covered_all, covered_more, start_covered, all_rows, near_first, tile_goal, tile_in}
use Rattle.transposition.proofs.of_two_rows.Goals as goal
use Rattle.transposition.proofs.of_two_rows.Goals.{After-tile_start-c}

-- a tile is of whole columns: it begins with row 0
row : (c columns : ℕ) → 0 * columns + c ≡ c
row c columns = omega arith

first : (n : ℕ) → 0 + n ≡ n
first n = omega arith

-- it lies in both buffers
tile : (c : After-tile_start-c)
    → let g = c.args in
    TileIn 1 c.tile_start-c.result g.columns (length g.src.now) (c.tile_start-c.result * 2) 2 (length c.loop-t.dst)
tile c =
    let g = c.args in
    let at = c.tile_start-c.result in
    rw (row at g.columns, first (at * 2)) at (tile_in 2 g.columns g.src.now c.requires.1 c.loop-t.dst 1 0 at (c.loop-t.invariant.length_stays ∙ c.requires.2) (omega arith) c.tile_start-c.ensures.within)

pub loop-t-preserved : goal.loop-t-preserved
loop-t-preserved c =
    let g = c.args in
    let at = c.tile_start-c.result in
    let goal = transposed 2 g.columns g.src.now in
    let n = c.move_2_by_64.ensures.nears goal (λ i j h l. rw (row at g.columns, first (at * 2)) at (tile_goal 2 g.columns g.src.now c.requires.1 0 at i j (omega arith) (omega (arith, c.tile_start-c.ensures.within)))) in
    rw (covered_more c.loop-t.t c.tile_start-c.ensures) (near_first c.loop-t.invariant n (start_covered c.loop-t.t c.tile_start-c.ensures))

pub returns : goal.returns
returns c =
    let g = c.args in
    let n = rw (covered_all c.loop-t.t 64 g.columns (omega arith) (omega arith)) at c.loop-t.invariant in
    all_rows 2 g.columns g.src.now c.requires.1 c.loop-t.dst 2 (n.length_stays ∙ c.requires.2) (omega arith) (λ r c h l. rw (first (c * 2)) at (n.right c r l h))
