-- `mogtriz::sessions::some_above_1` meets its contract: before each turn the answer is that one was seen or is among the bytes from this one
-- on.
use mathlib.Core.Path.{sym, ◌∙◌}
use mathlib.Core.Bool.{or-true, or-false}
use native.Mathlib.Numerals.{add-one}
use native.Mathlib.Omega.{arith}
use borrow.Author.Tests.{lt-ltb, le-ltb}
use lib.ListN.{drop_of_length-le}
use lib.Seq.{drop-cons}
use Rattle.mogtriz.specs.Sessions.{some_above1}
use Rattle.mogtriz.proofs.sessions.some_above_1.Goals as goal
use Rattle.mogtriz.proofs.sessions.some_above_1.Goals.{then-byte-gt1, else-byte-gt1}

pub loop-byte-preserved : goal.loop-byte-preserved
unfolding some_above1
loop-byte-preserved c =
    c.loop-byte.invariant ∙ elim c.if-byte-gt1.branch [
      | then-byte-gt1 w ↦ rw (drop-cons c.args.bytes c.loop-byte.byte-index 0 (omega arith), lt-ltb 1 _ w.if-byte-gt1.true, or-true, w.above-is)
      | else-byte-gt1 w ↦ rw (drop-cons c.args.bytes c.loop-byte.byte-index 0 (omega arith), le-ltb 1 _ w.if-byte-gt1.false, add-one, w.above-is)
    ]

pub returns : goal.returns
unfolding some_above1
returns c =
    sym (c.loop-byte.invariant ∙ rw (drop_of_length-le c.args.bytes {i = c.loop-byte.byte-index} (omega arith), or-false))
