-- `transposition::by_tiles` meets its contract: before turn t the rows that t tiles cover are right.
use mathlib.Core.Path.{◌∙◌}
use Prim.Native.Nat.{◌*◌, ◌^◌, ◌≤◌}
use native.Mathlib.Omega.{arith}
use Rattle.std.specs.Int.{div_ceil}
use Rattle.std.proofs.lemmas.Nat.{pow_pos}
use Rattle.transposition.specs.Inner.{Start}
use Rattle.transposition.proofs.MatrixLaws.{covered_all, covered_more, start_covered, rows_more, all_rows}
use Rattle.transposition.proofs.by_tiles.Goals as goal

pub loop-t-preserved : goal.loop-t-preserved
loop-t-preserved g c =
    let s : Start (c.loop-t.t * 2 ^ g.row.LOG) (2 ^ g.row.LOG) c.args.rows c.tile_start-r.result = rw c.power-size.ensures at c.tile_start-r.ensures in
    rw (covered_more c.loop-t.t s) (rows_more c.loop-t.invariant c.move_rows.ensures (start_covered c.loop-t.t s))

pub returns : goal.returns
returns g c =
    let a = c.args in
    let e : div_ceil a.rows (2 ^ g.row.LOG) ≤ c.loop-t.t = rw (c.div_ceil-t-end.ensures, c.power-size.ensures) at c.loop-t-test.false in
    let w = rw (covered_all c.loop-t.t (2 ^ g.row.LOG) a.rows (pow_pos g.row.LOG) e) at c.loop-t.invariant in
    all_rows a.rows a.columns a.src.now c.requires.src_len.0 c.loop-t.dst a.rows (c.loop-t.auto.dst ∙ c.requires.src_len.1) (omega arith) w
