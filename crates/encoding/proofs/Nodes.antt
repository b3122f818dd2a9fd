-- The blocks of the nodes, one after the other.
-- Assumes nothing.
use mathlib.Core.Path.{◌≡◌, sym, ap, ◌∙◌}
use mathlib.Core.Bool.{true}
use mathlib.Core.List.{List}
use Prim.Native.Nat.{ℕ, ◌+◌, ◌-◌, ◌*◌, ◌≤◌, ◌<◌}
use native.Mathlib.Numerals.{add-one}
use native.Mathlib.Omega.{arith}
use borrow.Author.Tests.{eqb-true}
use lib.Bits.{bit_xor, xor_comm}
use lib.Count.{count_trailing_zeros}
use lib.Pow.{pow_mono}
use lib.ListN.{length, take, replicate}
use Rattle.families.specs.declared.Family.{Family}
use Rattle.families.specs.Families.{IsNode, column_of, node_of, node_count, are_related}
use Rattle.families.proofs.Laws.{column, short, Before, sources, node_of_lem, low_bit}
use Rattle.base.proofs.LowestBit.{Lowest, lowest}
use Rattle.blocks.specs.Blocks.{xor_bytes, block_of, with_block}
use Rattle.blocks.specs.Inner.{InBuffer}
use Rattle.blocks.proofs.BlockLaws.{in_buffer, block_of-take}
use Rattle.blocks.proofs.JoinedLaws.{Sizes, length-joined, block_of_joined, joined_more}
use Rattle.encoding.specs.Matrix.{node_block, nodes_buffer}
use Rattle.encoding.specs.Inner.{node_blocks, BeforeNode}
use Rattle.encoding.proofs.Linear.{length-node_block, node_block_unit, node_block_xor, node_block_related, node_block_related_zero}

module _ (f : Family) (k L : ℕ) (object : List ℕ) (h : length object ≡ k * L) where
  sizes : (m : ℕ) → Sizes L (λ j. node_block k L object (column_of f k j)) m
  sizes m i l g = length-node_block k L object h (column_of f k i)

  pub length-node_blocks : (m : ℕ) → length (node_blocks f k L object m) ≡ m * L
  length-node_blocks m = length-joined L (λ j. node_block k L object (column_of f k j)) m (sizes m)

  -- node i's block among them
  pub block_of_nodes : (m i : ℕ) → 1 ≤ i → i ≤ m → block_of L (node_blocks f k L object m) i ≡ node_block k L object (column_of f k i)
  block_of_nodes m i l g = block_of_joined L (λ j. node_block k L object (column_of f k j)) m (sizes m) i l g

  -- the nodes before j and then node j's block
  pub one_more : (nodes : List ℕ) (j : ℕ) → InBuffer L nodes j → take ((j - 1) * L) nodes ≡ node_blocks f k L object (j - 1)
      → take (j * L) (with_block L nodes j (node_block k L object (column_of f k j))) ≡ node_blocks f k L object j
  one_more nodes j i e = joined_more L (λ j. node_block k L object (column_of f k j)) nodes j i (length-node_block k L object h (column_of f k j)) e

-- node j's block from those of the nodes before it, which are in place
module _ {f : Family} {k L : ℕ} {object nodes : List ℕ} {j : ℕ} (b : BeforeNode f k L object nodes j) where
  abbrev c : ℕ
  c = column_of f k j

  low : Lowest 64 c
  low =
      let i = column f k j b.range b.node in
      lowest 64 c i.positive (omega (arith, i.below, pow_mono {i = k} {j = 64} (omega (arith, short f k b.range))))

  pub low_within : count_trailing_zeros 64 c < k
  low_within = low.within k (column f k j b.range b.node).below

  pub low_le : low_bit c ≤ c
  low_le = omega (arith, low.split)

  pub inside : (i : ℕ) → 1 ≤ i → i ≤ j → InBuffer L nodes i
  inside i l g = in_buffer L nodes (node_count f k) i b.nodes_size l (omega (arith, b.node.last))

  pub data_inside : InBuffer L object (count_trailing_zeros 64 c + 1)
  data_inside = in_buffer L object k (count_trailing_zeros 64 c + 1) b.object_size (omega arith) (omega (arith, low_within))

  pub from_data : c - low_bit c ≡ 0 → block_of L object (count_trailing_zeros 64 c + 1) ≡ node_block k L object c
  from_data z =
      ap (block_of L object) (add-one (count_trailing_zeros 64 c))
      ∙ sym (ap (node_block k L object) (omega (arith, low_le)) ∙ node_block_unit k L object b.object_size (count_trailing_zeros 64 c) low_within)

  -- the block of an earlier node
  earlier : (d : ℕ) → Before f k j d → block_of L nodes (node_of f k d) ≡ node_block k L object d
  earlier d p =
      sym (block_of-take L nodes (node_of f k d) j p.first p.before)
      ∙ rw b.done (block_of_nodes f k L object b.object_size (j - 1) (node_of f k d) p.first (omega (arith, p.before)))
      ∙ ap (node_block k L object) (node_of_lem f k b.range d p.first).has

  pub from_pair : (c - low_bit c ≡ 0 → ⊥) → xor_bytes (block_of L nodes (node_of f k (low_bit c))) (block_of L nodes (node_of f k (c - low_bit c))) ≡ node_block k L object c
  from_pair z =
      let s = sources f k j b.range b.node z in
      rw (earlier (low_bit c) s.low, earlier (c - low_bit c) s.rest)
      (sym (node_block_xor k L object b.object_size (low_bit c) (c - low_bit c)) ∙ ap (node_block k L object) (xor_comm (low_bit c) (c - low_bit c) ∙ low.joined))

-- related nodes' blocks: each is the XOR of the other two, and the three XOR to zero
module _ (f : Family) (k L : ℕ) (object : List ℕ) (h : length object ≡ k * L) (a b c : ℕ) (r : are_related f k a b c ≡ true) where
  columns_cancel : bit_xor (bit_xor (column_of f k a) (column_of f k b)) (column_of f k c) ≡ 0
  unfolding are_related
  columns_cancel = eqb-true _ 0 r

  pub related_block : node_block k L object (column_of f k c) ≡ xor_bytes (node_block k L object (column_of f k a)) (node_block k L object (column_of f k b))
  related_block = node_block_related k L object h (column_of f k a) (column_of f k b) (column_of f k c) columns_cancel

  pub related_zero : xor_bytes (xor_bytes (node_block k L object (column_of f k a)) (node_block k L object (column_of f k b))) (node_block k L object (column_of f k c)) ≡ replicate L 0
  related_zero = node_block_related_zero k L object h (column_of f k a) (column_of f k b) (column_of f k c) columns_cancel

-- node j's block of the nodes buffer is what the matrix gives
pub buffer_block : (f : Family) (k L : ℕ) (object : List ℕ) → length object ≡ k * L → (j : ℕ) → IsNode f k j
    → block_of L (nodes_buffer f k L object) j ≡ node_block k L object (column_of f k j)
unfolding nodes_buffer
buffer_block f k L object h j n = block_of_nodes f k L object h (node_count f k) j n.first n.last
