-- The data blocks in a nodes buffer, one after the other; those of an encoded object are the object.
-- Assumes nothing.
use mathlib.Core.Path.{◌≡◌, ap, ◌∙◌}
use mathlib.Core.List.{List}
use Prim.Native.Nat.{ℕ, zero, suc, ◌-◌, ◌*◌, ◌^◌, ◌≤◌, ◌<◌}
use native.Mathlib.Nat.{suc-mul, zero-mul}
use native.Mathlib.Omega.{arith}
use lib.ListN.{length, take}
use lib.Seq.{take-add, take_all}
use Rattle.families.specs.declared.Family.{Family}
use Rattle.families.specs.Families.{KInRange, IsNode, column_of}
use Rattle.families.proofs.Laws.{unit_node, node_of_lem}
use Rattle.blocks.specs.Blocks.{joined, block_of, with_block}
use Rattle.blocks.specs.Inner.{InBuffer}
use Rattle.blocks.proofs.JoinedLaws.{joined_more}
use Rattle.blocks.proofs.PartLaws.{length-block_of}
use Rattle.encoding.specs.Matrix.{node_block, nodes_buffer}
use Rattle.encoding.proofs.Linear.{node_block_unit}
use Rattle.encoding.proofs.Nodes.{buffer_block}
use Rattle.readout.specs.DataBlocks.{data_node, data_blocks}

-- the node of data block i is a node, with that block's column
pub record DataNode (f : Family) (k i : ℕ) : Type 0 where
  pub is_node : IsNode f k (data_node f k i)
  pub has : column_of f k (data_node f k i) ≡ 2 ^ (i - 1)

pub data_node_lem : (f : Family) (k i : ℕ) → KInRange f k → 1 ≤ i → i ≤ k → DataNode f k i
data_node_lem f k i r h g =
    let n = node_of_lem f k r (2 ^ (i - 1)) (unit_node f k (i - 1) r (omega arith)) in
    record { is_node = n.is_node; has = n.has }

-- one block more
pub one_more : (f : Family) (k L : ℕ) (nodes object : List ℕ) (i : ℕ) → 1 ≤ i → InBuffer L object i → InBuffer L nodes (data_node f k i)
    → take ((i - 1) * L) object ≡ data_blocks f k L nodes (i - 1)
    → take (i * L) (with_block L object i (block_of L nodes (data_node f k i))) ≡ data_blocks f k L nodes i
one_more f k L nodes object i h b n e = joined_more L (λ i. block_of L nodes (data_node f k i)) object i b (length-block_of n) e

-- the data blocks of an encoded object are the object
module _ (f : Family) (k L : ℕ) (object : List ℕ) (r : KInRange f k) (h : length object ≡ k * L) where
  block : (i : ℕ) → i < k → block_of L (nodes_buffer f k L object) (data_node f k (suc i)) ≡ block_of L object (suc i)
  block i l =
      let d = data_node_lem f k (suc i) r (omega arith) l in
      let e : suc i - 1 ≡ i = omega arith in
      buffer_block f k L object h (data_node f k (suc i)) d.is_node
      ∙ ap (node_block k L object) (d.has ∙ ap (λ (x : ℕ). 2 ^ x) e)
      ∙ node_block_unit k L object h i l

  first_blocks : (m : ℕ) → m ≤ k → data_blocks f k L (nodes_buffer f k L object) m ≡ take (m * L) object
  unfolding joined block_of
  first_blocks zero l = rw (zero-mul L)
  first_blocks (suc m) l =
      let e : suc m - 1 ≡ m = omega arith in
      rw (suc-mul m L, take-add (m * L) L object, first_blocks m (omega arith), block m l, e)

  pub blocks_of_encoded : data_blocks f k L (nodes_buffer f k L object) k ≡ object
  blocks_of_encoded = first_blocks k (omega arith) ∙ take_all (k * L) object (omega arith)
