-- `mogtriz::sessions::marks_of_bytes` meets its contract: before each turn the marks of the bytes before j are in place.
use mathlib.Core.Path.{◌≡◌}
use mathlib.Core.List.{map}
use Rattle.base.proofs.Fill.{filled}
use Rattle.mogtriz.specs.Sessions.{mark_of}
use Rattle.mogtriz.proofs.sessions.marks_of_bytes.Given as goal

abbrev pub invariant-loop-j : goal.invariant-loop-j
invariant-loop-j l = l.marks ≡ filled (map mark_of l.fn.bytes) l.initial.marks l.j
