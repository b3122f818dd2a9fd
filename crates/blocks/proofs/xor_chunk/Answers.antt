-- `blocks::xor_chunk` meets its contract: before turn i the first i bytes are those of the XOR.
use mathlib.Core.Path.{sym, ◌∙◌}
use native.Mathlib.Omega.{arith}
use Rattle.blocks.specs.Blocks.{xor_bytes}
use Rattle.base.proofs.Fill.{fill_more, fill_done}
use Rattle.blocks.proofs.XorBytes.{length-xor_bytes, get_or-xor_bytes}
use Rattle.blocks.proofs.xor_chunk.Goals as goal

pub loop-i-preserved : goal.loop-i-preserved
loop-i-preserved c =
    let l = c.loop-i in
    let g = c.args in
    let h = length-xor_bytes g.a.now g.b.now (omega arith) in
    rw l.invariant (fill_more (xor_bytes g.a.now g.b.now) _ l.i 0 (omega arith) (omega arith) (sym (get_or-xor_bytes g.a.now g.b.now l.i (omega arith) (omega arith))))

pub returns : goal.returns
returns c =
    let g = c.args in
    let h = length-xor_bytes g.a.now g.b.now (omega arith) in
    c.loop-i.invariant ∙ fill_done (xor_bytes g.a.now g.b.now) _ c.loop-i.i (omega arith) (omega arith)
