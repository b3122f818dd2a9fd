-- `mogtriz::sessions::marks_of_bytes` meets its contract: before each turn the marks of the bytes before j are in place.
use mathlib.Core.Path.{sym}
use mathlib.Core.List.{map}
use lib.ListN.{length-map, get_or-map}
use Rattle.base.proofs.Fill.{fill_more}
use Rattle.mogtriz.specs.Sessions.{mark_of}
use native.Mathlib.Omega.{arith}
use Rattle.mogtriz.proofs.sessions.marks_of_bytes.Goals as goal

pub loop-j-preserved : goal.loop-j-preserved
loop-j-preserved c =
    let l = c.loop-j in
    let b = c.args.bytes in
    let n = length-map b mark_of in
    rw l.invariant (fill_more (map mark_of b) _ l.j (mark_of 0) (omega arith) (omega arith) (sym (get_or-map mark_of b l.j 0)))
