-- `boxes::write_box` meets its contract: the header, the node numbers and the bodies are put one after the other.
use Prim.Native.Nat.{◌+◌, ◌*◌}
use native.Mathlib.Nat.{add-sub_cancel_left}
use lib.ListN.{length}
use Rattle.boxes.proofs.Loops.{box_written_lem}
use Rattle.boxes.proofs.write_box.Goals as goal

pub returns : goal.returns
returns c =
    let g = c.args in
    let e = length g.list.now in
    rw (c.write_bodies.ensures, c.copy_block.ensures, c.write_header.ensures, add-sub_cancel_left 8 e, add-sub_cancel_left (8 + e) (e * g.len))
    (box_written_lem g.family g.k g.len g.list.now g.nodes.now g.out.now)
