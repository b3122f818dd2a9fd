-- `blocks::copy_chunk_at` meets its contract: four pieces side by side are the chunk.
use mathlib.Core.Path.{ap, ◌∙◌}
use mathlib.Core.List.{List}
use Prim.Native.Nat.{ℕ, ◌+◌}
use native.Mathlib.Omega.{arith}
use borrow.Rule.Slice.PartMut.{mid_of, put_mid}
use Rattle.blocks.proofs.PartLaws.{copy_beside}
use Rattle.blocks.proofs.copy_chunk_at.Goals as goal

pub returns : goal.returns
returns c =
    let a = c.args in
    let s = a.src.now in
    let d = a.dst.now in
    let at = a.at in
    rw (c.copy_piece_at-4.ensures, c.copy_piece_at-3.ensures, c.copy_piece_at-2.ensures, c.copy_piece_at.ensures)
    (ap (λ (t : List ℕ). put_mid (at + 48) 16 (put_mid (at + 32) 16 t (mid_of (at + 32) 16 s)) (mid_of (at + 48) 16 s)) (copy_beside s d at 16 16 (omega arith) (omega arith))
    ∙ ap (λ (t : List ℕ). put_mid (at + 48) 16 t (mid_of (at + 48) 16 s)) (copy_beside s d at 32 16 (omega arith) (omega arith))
    ∙ copy_beside s d at 48 16 (omega arith) (omega arith))
