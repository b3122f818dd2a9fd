-- `blocks::copy_by_pieces` meets its contract: the bytes done so far are those of src, and each piece, the last one too, takes them further.
use mathlib.Core.Path.{◌≡◌, ◌∙◌}
use Prim.Native.Nat.{◌+◌, ◌-◌, ◌*◌, ◌/◌, ◌≤◌, ◌<◌}
use native.Mathlib.Nat.{suc-mul}
use native.Mathlib.Numerals.{add-one}
use native.Mathlib.Omega.{arith}
use borrow.Author.Rules.{rules}
use lib.ListN.{length}
use Rattle.std.proofs.Math.Nat.{lt-div-mul-add}
use Rattle.base.proofs.Fill.{fill_done}
use Rattle.blocks.proofs.PartLaws.{fill_part}
use Rattle.blocks.proofs.copy_by_pieces.Goals as goal

pub loop-piece-preserved : goal.loop-piece-preserved
loop-piece-preserved g c =
    let l = c.loop-piece in
    let a = c.args in
    let next : (l.piece + 1) * g.row.N ≡ l.piece * g.row.N + g.row.N = rw add-one (suc-mul l.piece g.row.N) in
    rw (next, c.copy_piece_at.ensures, l.invariant) (fill_part a.src.now a.dst.now (l.piece * g.row.N) (l.piece * g.row.N) g.row.N (omega arith) (omega arith) (search rules))

pub returns : goal.returns
returns g c =
    let l = c.loop-piece in
    let a = c.args in
    let at = length a.src.now - g.row.N in
    let e : l.piece ≡ length a.src.now / g.row.N = omega arith in
    let most : length a.src.now / g.row.N * g.row.N ≤ length a.src.now = search rules in
    let past : length a.src.now < length a.src.now / g.row.N * g.row.N + g.row.N = lt-div-mul-add (omega arith) in
    rw (c.copy_piece_at-2.ensures, l.invariant, e)
    (fill_part a.src.now a.dst.now (length a.src.now / g.row.N * g.row.N) at g.row.N (omega arith) (omega arith) (omega arith)
    ∙ fill_done a.src.now a.dst.now (at + g.row.N) (omega arith) (omega arith))
