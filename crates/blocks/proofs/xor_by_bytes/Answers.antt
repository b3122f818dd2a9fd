-- `blocks::xor_by_bytes` meets its contract: the bytes done so far are those of the XOR of the parts as they were at entry, which no byte that is put touches.
use native.Mathlib.Omega.{arith}
use Rattle.blocks.proofs.PartLaws.{xor_byte, xor_done}
use Rattle.blocks.proofs.xor_by_bytes.Goals as goal

pub loop-i-preserved : goal.loop-i-preserved
loop-i-preserved c = xor_byte c.loop-i.invariant (omega arith)

pub returns : goal.returns
returns c = xor_done c.loop-i.invariant (omega arith)
