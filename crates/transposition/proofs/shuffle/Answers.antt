-- `transposition::shuffle` meets its contract: before turn i the first 2 × i bytes are those of the transpose.
use mathlib.Core.Path.{◌≡◌, sym, ◌∙◌}
use Prim.Native.Nat.{ℕ, ◌+◌, ◌*◌, ◌<◌}
use native.Mathlib.Omega.{arith}
use mathlib.Core.List.{List}
use lib.ListN.{length, get_or, set}
use Rattle.base.proofs.Fill.{filled, fill_more, fill_done}
use Rattle.transposition.specs.Inner.{transposed}
use Rattle.transposition.proofs.TransposeLaws.{length-transposed, transposed_at}
use Rattle.transposition.proofs.shuffle.Goals as goal

-- two bytes more
fill_two : (r t : List ℕ) (i : ℕ) {v w : ℕ} → i + 1 < length r → i + 1 < length t → v ≡ get_or r i 0 → w ≡ get_or r (i + 1) 0 → set (set (filled r t i) i v) (i + 1) w ≡ filled r t (i + 1 + 1)
fill_two r t i h g e f = rw (fill_more r t i 0 (omega arith) (omega arith) e) (fill_more r t (i + 1) 0 h g f)

pub loop-i-preserved : goal.loop-i-preserved
loop-i-preserved c =
    let tile = c.args.tile in
    let i = c.loop-i.i in
    let goal = transposed 2 64 tile in
    let l = length-transposed 2 64 tile in
    let first : get_or tile i 0 ≡ get_or goal (2 * i) 0 = sym (rw (even i, start i) at (transposed_at 2 64 tile 0 i (omega arith) (omega arith))) in
    let second : get_or tile (64 + i) 0 ≡ get_or goal (2 * i + 1) 0 = sym (rw (odd i) at (transposed_at 2 64 tile 1 i (omega arith) (omega arith))) in
    let next : 2 * (i + 1) ≡ 2 * i + 1 + 1 = omega arith in
    rw (c.loop-i.invariant, next) (fill_two goal _ (2 * i) (omega arith) (omega arith) first second)
  where
    even : (i : ℕ) → i * 2 + 0 ≡ 2 * i
    even i = omega arith

    odd : (i : ℕ) → i * 2 + 1 ≡ 2 * i + 1
    odd i = omega arith

    start : (i : ℕ) → 0 * 64 + i ≡ i
    start i = omega arith

pub returns : goal.returns
returns c =
    let tile = c.args.tile in
    c.loop-i.invariant ∙ fill_done (transposed 2 64 tile) _ (2 * c.loop-i.i) (length-transposed 2 64 tile) (omega arith)
