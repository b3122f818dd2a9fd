-- `blocks::copy_between` meets its contract: a block is a part of one block.
use native.Mathlib.Nat.{one-mul}
use Rattle.blocks.specs.Blocks.{block_of}
use Rattle.blocks.proofs.PartLaws.{put_block}
use Rattle.blocks.proofs.copy_between.Goals as goal

pub returns : goal.returns
unfolding block_of
returns c =
    let g = c.args in
    rw (c.copy_blocks.ensures, one-mul g.len) (put_block g.len g.target.now g.b _)
