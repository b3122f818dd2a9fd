-- Encode: its checks in document 01's order, 1, 2, 3, 6, and what it leaves in the nodes buffer.
use Rattle.std.specs.Prelude.{ℕ, ◌*◌, not, ◌&&◌, List, [], ◌∷◌, ◌++◌, length, eqb}
use Rattle.families.specs.Families.{family_of, node_count}
use Rattle.checks.specs.Checks.{Check, ◌gives◌, first_met, afterwards}
use Rattle.checks.specs.Parameters.{parameter_checks}
use Rattle.encoding.specs.Matrix.{nodes_buffer}

-- 1, 2, 3, then 6 where the object is not k × L bytes or the nodes buffer not n × L bytes
unfoldable pub encode_checks : ℕ → ℕ → ℕ → ℕ → ℕ → List Check
encode_checks family k L objectLength nodesLength =
    parameter_checks family k L ++ ((not (eqb objectLength (k * L) && eqb nodesLength (node_count (family_of family) k * L)) gives 6) ∷ [])

-- the answer: a refusal's number, or 0
unfoldable pub encode_answer : ℕ → ℕ → ℕ → List ℕ → List ℕ → ℕ
encode_answer family k L object nodes = first_met (encode_checks family k L (length object) (length nodes))

-- the nodes buffer afterwards: all of it from the object where the call is accepted, and as it was where it is refused
unfoldable pub encoded : ℕ → ℕ → ℕ → List ℕ → List ℕ → List ℕ
encoded family k L object nodes = afterwards (encode_checks family k L (length object) (length nodes)) (nodes_buffer (family_of family) k L object) nodes
