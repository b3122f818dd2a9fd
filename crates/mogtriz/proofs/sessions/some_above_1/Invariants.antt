-- `mogtriz::sessions::some_above_1` meets its contract: before each turn the answer is that one was seen or is among the bytes from this one
-- on.
use mathlib.Core.Path.{◌≡◌}
use mathlib.Core.Bool.{◌||◌}
use lib.ListN.{drop}
use Rattle.mogtriz.specs.Sessions.{some_above1}
use Rattle.mogtriz.proofs.sessions.some_above_1.Given as goal

abbrev pub invariant-loop-byte : goal.invariant-loop-byte
invariant-loop-byte l = some_above1 l.fn.bytes ≡ (l.above || some_above1 (drop l.byte-index l.fn.bytes))
