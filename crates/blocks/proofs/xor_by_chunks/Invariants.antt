-- `blocks::xor_by_chunks` meets its contract: the bytes done so far are those of the XOR of the parts as they were at entry, which no chunk that is put touches.
use Prim.Native.Nat.{◌*◌}
use Rattle.blocks.proofs.PartLaws.{Xored}
use Rattle.blocks.proofs.xor_by_chunks.Given as goal

abbrev pub invariant-loop-chunk : goal.invariant-loop-chunk
invariant-loop-chunk l = Xored l.initial.nodes l.len l.d l.a l.b l.nodes (64 * l.chunk)
