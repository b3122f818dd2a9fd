-- `boxes::write_bodies` meets its contract: before each turn `out` begins with the first i bodies.
use Rattle.boxes.proofs.Loops.{write_from, write_to, write_more, write_done}
use native.Mathlib.Omega.{arith}
use Rattle.boxes.proofs.write_bodies.Goals as goal

pub copy_blocks-requires : goal.copy_blocks-requires
copy_blocks-requires c =
    let w = c.loop-i.invariant in
    let stretch = c.stretch_length-stretch.ensures in
    (rw c.from.ensures (write_from w stretch), write_to w stretch)

pub loop-i-preserved : goal.loop-i-preserved
loop-i-preserved c =
    rw (c.copy_blocks.ensures, c.from.ensures) (write_more c.loop-i.invariant c.stretch_length-stretch.ensures)

pub returns : goal.returns
returns c = write_done c.loop-i.invariant (omega arith)
