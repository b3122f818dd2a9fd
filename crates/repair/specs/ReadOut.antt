-- Read out (document 01): the k data blocks, from the nodes whose column has a single bit.
use Rattle.std.specs.Prelude.{ℕ, ◌*◌, cond, not, List, [], ◌∷◌, ◌++◌, length, eqb}
use Rattle.families.specs.Families.{family_of}
use Rattle.checks.specs.Checks.{Check, ◌gives◌, answer, afterwards}
use Rattle.readout.specs.DataBlocks.{missing_block, data_blocks}
use Rattle.repair.specs.declared.Session.{Session}
use Rattle.repair.specs.Answers.{ReadOut}
use Rattle.repair.specs.Session.{nodes_checks}

-- the lowest data block whose node is missing; 0 where none is
abbrev pub missing_in : Session → ℕ
missing_in s = missing_block (family_of s.family) s.k s.live

-- Read out: 13, 6 for the nodes or the object, 14
unfoldable pub read_out_checks : Session → List ℕ → List ℕ → List Check
read_out_checks s nodes object =
    nodes_checks s (length nodes) ++ ((not (eqb (length object) (s.k * s.len)) gives 6) ∷ (not (eqb (missing_in s) 0) gives 14) ∷ [])

-- what read out gives: refused, 14 comes with the lowest data block whose node is missing, any other number with 0. The session stays
unfoldable pub read_out_of : Session → List ℕ → List ℕ → ReadOut
read_out_of s nodes object =
    answer (read_out_checks s nodes object) (record { refusal = 0; block = 0; session = s })
    (λ number. record { refusal = number; block = cond (eqb number 14) (missing_in s) 0; session = s })

-- the object afterwards: the k data blocks
unfoldable pub object_out : Session → List ℕ → List ℕ → List ℕ
object_out s nodes object = afterwards (read_out_checks s nodes object) (data_blocks (family_of s.family) s.k s.len nodes s.k) object
