-- What encode leaves in the nodes buffer, and what an accepted call has been given.
-- Assumes nothing.
use mathlib.Core.Path.{◌≡◌, sym}
use mathlib.Core.List.{List}
use Prim.Native.Nat.{ℕ, ◌*◌, ◌≤◌}
use lib.ListN.{length}
use Rattle.families.specs.Families.{family_of, node_count}
use Rattle.families.proofs.Laws.{few}
use Rattle.checks.specs.Checks.{first_met}
use Rattle.checks.specs.Parameters.{most_l, parameter_checks}
use Rattle.checks.proofs.Laws.{bytes_most, in_range}
use Rattle.checks.proofs.AnswerLaws.{after_served, after_refused}
use Rattle.checks.proofs.BufferLaws.{Sized, sized}
use Rattle.encoding.specs.Matrix.{nodes_buffer}
use Rattle.encoding.specs.Encode.{encode_checks, encode_answer, encoded}

-- the length that is compared is small
pub nodes_small : (family k L : ℕ) → first_met (parameter_checks family k L) ≡ 0 → node_count (family_of family) k * L ≤ 255 * most_l
nodes_small family k L e = let r = in_range family k L e in bytes_most (node_count (family_of family) k) 255 (few (family_of family) k r.blocks) r

-- ---- the nodes buffer

module _ (family k L : ℕ) (object nodes : List ℕ) where
  pub kept : (encode_answer family k L object nodes ≡ 0 → ⊥) → nodes ≡ encoded family k L object nodes
  unfolding encoded encode_answer
  kept h = sym (after_refused (encode_checks family k L (length object) (length nodes)) _ nodes h)

  pub written : encode_answer family k L object nodes ≡ 0 → nodes_buffer (family_of family) k L object ≡ encoded family k L object nodes
  unfolding encoded encode_answer
  written e = sym (after_served (encode_checks family k L (length object) (length nodes)) _ nodes e)

  -- what an accepted call has been given
  pub accepted_call : encode_answer family k L object nodes ≡ 0 → Sized family k L (length object) (k * L) (length nodes) (node_count (family_of family) k * L)
  unfolding encode_answer encode_checks
  accepted_call = sized family k L (length object) (k * L) (length nodes) (node_count (family_of family) k * L)
