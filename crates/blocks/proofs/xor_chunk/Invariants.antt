-- `blocks::xor_chunk` meets its contract: before turn i the first i bytes are those of the XOR.
use mathlib.Core.Path.{◌≡◌}
use Rattle.blocks.specs.Blocks.{xor_bytes}
use Rattle.base.proofs.Fill.{filled}
use Rattle.blocks.proofs.xor_chunk.Given as goal

abbrev pub invariant-loop-i : goal.invariant-loop-i
invariant-loop-i l = l.chunk ≡ filled (xor_bytes l.a l.b) l.initial.chunk l.i
