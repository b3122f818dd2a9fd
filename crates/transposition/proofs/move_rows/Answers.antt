-- `transposition::move_rows` meets its contract: before turn t the rows are right in the columns that t tiles cover.
use mathlib.Core.Path.{◌∙◌}
use Prim.Native.Nat.{◌-◌, ◌*◌, ◌^◌, ◌≤◌}
use native.Mathlib.Omega.{arith}
use Rattle.std.specs.Int.{div_ceil}
use Rattle.std.proofs.lemmas.Nat.{pow_pos}
use Rattle.transposition.specs.Inner.{transposed, Start}
use Rattle.transposition.proofs.MatrixLaws.{covered_all, covered_more, start_covered, tile_goal, tile_in, near_after}
use Rattle.transposition.proofs.move_rows.Goals as goal

pub move_tile-requires : goal.move_tile-requires
move_tile-requires g c =
    let a = c.args in
    let s = c.requires.suits in
    (omega (arith, s.0.most), tile_in a.rows a.columns a.src.now c.requires.src_len.0 c.loop-t.dst g.row.LOG a.r c.tile_start-c.result (c.loop-t.invariant.length_stays ∙ c.requires.src_len.1) s.1 (rw c.power-size.ensures at c.tile_start-c.ensures.within))

pub loop-t-preserved : goal.loop-t-preserved
loop-t-preserved g c =
    let a = c.args in
    let s : Start (c.loop-t.t * 2 ^ (7 - g.row.LOG)) (2 ^ (7 - g.row.LOG)) a.columns c.tile_start-c.result = rw c.power-size.ensures at c.tile_start-c.ensures in
    let n = c.move_tile.ensures.nears (transposed a.rows a.columns a.src.now) (λ i j h l. tile_goal a.rows a.columns a.src.now c.requires.src_len.0 a.r c.tile_start-c.result i j (omega (arith, c.requires.suits.1)) (omega (arith, s.within))) in
    rw (covered_more c.loop-t.t s) (near_after c.loop-t.invariant n (start_covered c.loop-t.t s))

pub returns : goal.returns
returns g c =
    let e : div_ceil c.args.columns (2 ^ (7 - g.row.LOG)) ≤ c.loop-t.t = rw (c.div_ceil-t-end.ensures, c.power-size.ensures) at c.loop-t-test.false in
    rw (covered_all c.loop-t.t (2 ^ (7 - g.row.LOG)) c.args.columns (pow_pos (7 - g.row.LOG)) e) at c.loop-t.invariant
