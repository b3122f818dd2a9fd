-- `planning::carry::carry_out` meets its contract: before turn i the first i steps are made.
use native.Mathlib.Omega.{arith}
use Rattle.planning.proofs.CarryLaws.{carry_step, carry_more, carry_done}
use Rattle.planning.proofs.carry.carry_out.Goals as goal

pub loop-i-preserved : goal.loop-i-preserved
loop-i-preserved c =
    rw (c.xor_block.ensures, c.from-node.ensures, c.from-smaller.ensures, c.from-larger.ensures) (carry_more c.loop-i.invariant (omega arith))

pub returns : goal.returns
returns c = carry_done c.loop-i.invariant (omega arith)

pub xor_block-requires : goal.xor_block-requires
xor_block-requires c =
    let s = carry_step c.loop-i.invariant (omega arith) in
    record {
      in_buffer = rw (c.from-node.ensures, c.from-smaller.ensures, c.from-larger.ensures) (s.node, s.smaller, s.larger);
      fact = rw (c.from-node.ensures, c.from-smaller.ensures, c.from-larger.ensures) (s.not_smaller, s.not_larger);
    }
