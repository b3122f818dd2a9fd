-- `boxes::read_bodies` meets its contract: before each turn the first i bodies are in their places.
use Rattle.boxes.proofs.Loops.{read_from, read_to, read_more, read_done}
use native.Mathlib.Omega.{arith}
use Rattle.boxes.proofs.read_bodies.Goals as goal

pub copy_blocks-requires : goal.copy_blocks-requires
copy_blocks-requires c =
    let w = c.loop-i.invariant in
    let stretch = c.stretch_length-stretch.ensures in
    (read_from w stretch, rw c.from.ensures (read_to w stretch))

pub loop-i-preserved : goal.loop-i-preserved
loop-i-preserved c =
    rw (c.copy_blocks.ensures, c.from.ensures) (read_more c.loop-i.invariant c.stretch_length-stretch.ensures)

pub returns : goal.returns
returns c = read_done c.loop-i.invariant (omega arith)
