-- The claims of specs/Claims.antt.
-- Assumes nothing.
use mathlib.Core.Path.{◌≡◌}
use Prim.Native.Nat.{suc, ◌-◌, ◌*◌}
use native.Mathlib.Omega.{arith}
use lib.ListN.{length}
use Rattle.families.specs.Families.{family_of, node_count}
use Rattle.checks.proofs.Laws.{parameters_in}
use Rattle.encoding.specs.Matrix.{nodes_buffer}
use Rattle.encoding.specs.Encode.{encode_checks, encode_answer}
use Rattle.encoding.specs.Claims.{MatrixClaim, EncodeClaim}
use Rattle.checks.proofs.BufferLaws.{by_none}
use Rattle.encoding.proofs.Answers.{accepted_call}
use Rattle.encoding.proofs.Linear.{node_block_unit, node_block_xor}
use Rattle.encoding.proofs.Nodes.{length-node_blocks, buffer_block, related_block, related_zero}

pub matrix_claim : MatrixClaim
unfolding nodes_buffer
matrix_claim f k L object h =
    record {
      size = length-node_blocks f k L object h (node_count f k);
      block = buffer_block f k L object h;
      unit = λ i l g. let e : suc (i - 1) ≡ i = omega arith in rw e at (node_block_unit k L object h (i - 1) (omega arith));
      linear = node_block_xor k L object h;
      related = related_block f k L object h;
      cancel = related_zero f k L object h;
    }

pub encode_claim : EncodeClaim
unfolding encode_answer encode_checks
encode_claim family k L object nodes = (
  (λ e. let a = accepted_call family k L object nodes e in (a.range, a.first, a.second)),
  (λ p. by_none family k L (length object) (k * L) (length nodes) (node_count (family_of family) k * L) (parameters_in family k L p.0) p.1 p.2),
)
