-- `encoding::encode_node` meets its contract: a data block is copied, and any other node is the XOR of two earlier ones, whose
-- blocks are in place.
use mathlib.Core.Path.{◌≡◌, sym, ◌∙◌, ap}
use Prim.Native.Nat.{ℕ, ◌-◌, ◌^◌}
use native.Mathlib.Omega.{arith}
use lib.Count.{count_trailing_zeros}
use Rattle.families.specs.Families.{column_of, node_of}
use Rattle.families.proofs.Laws.{low_bit, short, sources}
use Rattle.blocks.specs.Blocks.{with_block}
use Rattle.encoding.proofs.Nodes.{low_within, low_le, inside, data_inside, from_data, from_pair}
use Rattle.encoding.proofs.encode_node.Goals as goal

-- a column's lowest bit, and the bits above it, as the code has them
record Parts (x column low bit : ℕ) : Type 0 where
  low_is : low ≡ count_trailing_zeros 64 x
  bit_is : bit ≡ low_bit x
  rest_is : column - bit ≡ x - low_bit x

parts : {x column low bit : ℕ} → column ≡ x → low ≡ count_trailing_zeros 64 column → bit ≡ 2 ^ low → Parts x column low bit
parts e l b = record { low_is = rw (l, e); bit_is = rw (b, l, e); rest_is = rw (b, l, e) }

pub power-bit-requires : goal.power-bit-requires
power-bit-requires c =
    rw (c.lowest_bit-low.ensures, c.of-column.ensures) (omega (arith, low_within c.requires, short _ _ c.requires.range))

pub overflow_sub-rest : goal.overflow_sub-rest
overflow_sub-rest c =
    let p = parts c.of-column.ensures c.lowest_bit-low.ensures c.power-bit.ensures in
    omega (arith, p.bit_is, c.of-column.ensures, low_le c.requires)

pub copy_between-requires : goal.copy_between-requires
copy_between-requires c =
    (rw (c.lowest_bit-low.ensures, c.of-column.ensures) (data_inside c.requires), inside c.requires _ c.requires.node.first (omega arith))

pub returns-then-rest-eq0 : goal.returns-then-rest-eq0
returns-then-rest-eq0 c =
    let p = parts c.of-column.ensures c.lowest_bit-low.ensures c.power-bit.ensures in
    let g = c.args in
    c.copy_between.ensures ∙ ap (with_block g.len g.nodes.now g.j) (rw p.low_is (from_data c.requires (sym p.rest_is ∙ c.if-rest-eq0.true)))

pub returns : goal.returns
returns c =
    let p = parts c.of-column.ensures c.lowest_bit-low.ensures c.power-bit.ensures in
    let g = c.args in
    c.xor_block.ensures
    ∙ ap (with_block g.len g.nodes.now g.j) (rw (c.node_of-a.ensures, c.node_of-b.ensures, p.rest_is, p.bit_is) (from_pair c.requires (λ z. c.if-rest-eq0.false (p.rest_is ∙ z))))

pub xor_block-requires : goal.xor_block-requires
xor_block-requires c =
    let p = parts c.of-column.ensures c.lowest_bit-low.ensures c.power-bit.ensures in
    let b = c.requires in
    let s = sources _ _ _ b.range b.node (λ z. c.if-rest-eq0.false (p.rest_is ∙ z)) in
    let f = c.args.columns.now.code in
    let low : c.node_of-a.result ≡ node_of f.family f.k (low_bit (column_of f.family f.k c.args.j)) = c.node_of-a.ensures ∙ ap (node_of f.family f.k) p.bit_is in
    let rest : c.node_of-b.result ≡ node_of f.family f.k (column_of f.family f.k c.args.j - low_bit (column_of f.family f.k c.args.j)) = c.node_of-b.ensures ∙ ap (node_of f.family f.k) p.rest_is in
    record {
      in_buffer = (inside b _ b.node.first (omega arith), rw low (inside b _ s.low.first (omega (arith, s.low.before))), rw rest (inside b _ s.rest.first (omega (arith, s.rest.before))));
      fact = ((λ e. omega (arith, low, e, s.low.before)), (λ e. omega (arith, rest, e, s.rest.before)));
    }
