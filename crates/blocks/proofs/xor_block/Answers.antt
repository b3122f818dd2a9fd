-- `blocks::xor_block` meets its contract: the blocks of nodes other than j lie apart from its own, so either way of making the XOR serves.
use borrow.Author.Rules.{rules}
use Rattle.blocks.specs.Blocks.{block_of}
use Rattle.blocks.proofs.PartLaws.{block_parts, put_block}
use Rattle.blocks.proofs.xor_block.Goals as goal

pub xor_by_bytes-requires : goal.xor_by_bytes-requires
xor_by_bytes-requires c =
    let p = block_parts (c.requires.in_buffer, c.requires.fact) in
    record { len_in_bounds = p.0; fact = p.1 }

pub returns-then-len-lt64 : goal.returns-then-len-lt64
unfolding block_of
returns-then-len-lt64 c =
    let g = c.args in
    rw c.xor_by_bytes.ensures (put_block g.len g.nodes.now g.j _)

pub xor_by_chunks-requires : goal.xor_by_chunks-requires
xor_by_chunks-requires c =
    let p = block_parts (c.requires.in_buffer, c.requires.fact) in
    record { le_len = search rules; len_in_bounds = p.0; fact = p.1 }

pub returns-else-len-lt64 : goal.returns-else-len-lt64
unfolding block_of
returns-else-len-lt64 c =
    let g = c.args in
    rw c.xor_by_chunks.ensures (put_block g.len g.nodes.now g.j _)
