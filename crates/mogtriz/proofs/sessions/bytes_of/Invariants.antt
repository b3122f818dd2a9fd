-- `mogtriz::sessions::bytes_of` meets its contract: before each turn the bytes of the marks before j are in place.
use mathlib.Core.Path.{◌≡◌}
use mathlib.Core.List.{map}
use Rattle.base.proofs.Fill.{filled}
use Rattle.mogtriz.specs.Sessions.{byte_of}
use Rattle.mogtriz.proofs.sessions.bytes_of.Given as goal

abbrev pub invariant-loop-j : goal.invariant-loop-j
invariant-loop-j l = l.bytes ≡ filled (map byte_of l.fn.marks) l.initial.bytes l.j
