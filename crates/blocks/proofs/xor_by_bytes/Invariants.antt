-- `blocks::xor_by_bytes` meets its contract: the bytes done so far are those of the XOR of the parts as they were at entry, which no byte that is put touches.
use Rattle.blocks.proofs.PartLaws.{Xored}
use Rattle.blocks.proofs.xor_by_bytes.Given as goal

abbrev pub invariant-loop-i : goal.invariant-loop-i
invariant-loop-i l = Xored l.initial.nodes l.len l.d l.a l.b l.nodes l.i
