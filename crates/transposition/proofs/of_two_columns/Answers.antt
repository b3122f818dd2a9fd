-- `transposition::of_two_columns` meets its contract: before turn t the rows that t tiles cover are right.
use mathlib.Core.Path.{◌≡◌, ◌∙◌}
use Prim.Native.Nat.{ℕ, ◌+◌, ◌*◌}
use native.Mathlib.Omega.{arith}
use lib.ListN.{length}
use Rattle.transposition.specs.Inner.{transposed, TileIn}
use Rattle.transposition.proofs.MatrixLaws.{covered_all, covered_more, start_covered, rows_more, all_rows, tile_goal, tile_in}
use Rattle.transposition.proofs.of_two_columns.Goals as goal
use Rattle.transposition.proofs.of_two_columns.Goals.{After-tile_start-r}

-- a tile is of whole rows: it begins with column 0
first : (n : ℕ) → n + 0 ≡ n
first n = omega arith

column : (r rows : ℕ) → r + 0 * rows ≡ r
column r rows = omega arith

-- it lies in both buffers
tile : (c : After-tile_start-r)
    → let g = c.args in
    TileIn 6 (c.tile_start-r.result * 2) 2 (length g.src.now) c.tile_start-r.result g.rows (length c.loop-t.dst)
tile c =
    let g = c.args in
    let r = c.tile_start-r.result in
    rw (first (r * 2), column r g.rows) at (tile_in g.rows 2 g.src.now c.requires.1 c.loop-t.dst 6 r 0 (c.loop-t.auto.dst ∙ c.requires.2) c.tile_start-r.ensures.within (omega arith))

pub loop-t-preserved : goal.loop-t-preserved
loop-t-preserved c =
    let g = c.args in
    let r = c.tile_start-r.result in
    let n = c.move_64_by_2.ensures.nears (transposed g.rows 2 g.src.now) (λ i j h l. rw (first (r * 2), column r g.rows) at (tile_goal g.rows 2 g.src.now c.requires.1 r 0 i j (omega (arith, c.tile_start-r.ensures.within)) (omega arith))) in
    rw (covered_more c.loop-t.t c.tile_start-r.ensures) (rows_more c.loop-t.invariant n (start_covered c.loop-t.t c.tile_start-r.ensures))

pub returns : goal.returns
returns c =
    let g = c.args in
    all_rows g.rows 2 g.src.now c.requires.1 c.loop-t.dst g.rows (c.loop-t.auto.dst ∙ c.requires.2) (omega arith) (rw (covered_all c.loop-t.t 64 g.rows (omega arith) (omega arith)) at c.loop-t.invariant)
