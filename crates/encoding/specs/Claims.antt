-- What is proved of the generator matrix, for every family, k, object and block length L, and when encode is accepted;
-- proofs/Proved.antt has the proofs.
use Rattle.std.specs.Prelude.{◌≡◌, true, List, ◌↔◌, ℕ, ◌-◌, ◌*◌, ◌^◌, ◌≤◌, length, replicate}
use Rattle.std.specs.Int.Bits.{bit_xor}
use Rattle.families.specs.declared.Family.{Family}
use Rattle.families.specs.Families.{family_of, IsNode, node_count, column_of, are_related}
use Rattle.checks.specs.Claims.{InRange}
use Rattle.blocks.specs.Blocks.{xor_bytes, block_of}
use Rattle.encoding.specs.Matrix.{node_block, nodes_buffer}
use Rattle.encoding.specs.Encode.{encode_answer}

-- of an object of k blocks of L bytes
pub record MatrixClaims (f : Family) (k L : ℕ) (object : List ℕ) : Type 0 where
  -- the nodes buffer is n × L bytes, and node j's part of it is the block that the matrix gives
  pub size : length (nodes_buffer f k L object) ≡ node_count f k * L
  pub block : (j : ℕ) → IsNode f k j → block_of L (nodes_buffer f k L object) j ≡ node_block k L object (column_of f k j)
  -- the column of one bit gives that data block
  pub unit : (i : ℕ) → 1 ≤ i → i ≤ k → node_block k L object (2 ^ (i - 1)) ≡ block_of L object i
  -- the node block of an XOR of columns is the XOR of the node blocks
  pub linear : (a b : ℕ) → node_block k L object (bit_xor a b) ≡ xor_bytes (node_block k L object a) (node_block k L object b)
  -- related nodes' blocks: one is the XOR of the other two, and the three XOR to zero
  pub related : (a b c : ℕ) → are_related f k a b c ≡ true
      → node_block k L object (column_of f k c) ≡ xor_bytes (node_block k L object (column_of f k a)) (node_block k L object (column_of f k b))
  pub cancel : (a b c : ℕ) → are_related f k a b c ≡ true
      → xor_bytes (xor_bytes (node_block k L object (column_of f k a)) (node_block k L object (column_of f k b))) (node_block k L object (column_of f k c)) ≡ replicate L 0

-- for every family, k and block length, above the largest L too
abbrev pub MatrixClaim : Type 0
MatrixClaim = (f : Family) (k L : ℕ) (object : List ℕ) → length object ≡ k * L → MatrixClaims f k L object

-- encode is accepted exactly where the family, k and L are in range, the object is k × L bytes and the nodes buffer n × L bytes
abbrev pub EncodeClaim : Type 0
EncodeClaim = (family k L : ℕ) (object nodes : List ℕ)
    → (encode_answer family k L object nodes ≡ 0) ↔ (InRange family k L × (length object ≡ k * L) × (length nodes ≡ node_count (family_of family) k * L))
