-- Boxes and sessions: check, read and write (document 01, "The box" and "Write").
use Rattle.std.specs.Prelude.{ℕ, ◌*◌, not, List, [], ◌∷◌, ◌++◌, length, drop, eqb, ltb}
use Rattle.checks.specs.Checks.{Check, ◌gives◌, answer, afterwards}
use Rattle.lists.specs.Lists.{list_checks, some_missing}
use Rattle.boxes.specs.Box.{family_in, k_in, block_length_in, names_in, bodies_in, node_count_in, box_length, box_checks}
use Rattle.boxes.specs.Bodies.{box_of, with_bodies}
use Rattle.repair.specs.declared.Session.{Session}
use Rattle.repair.specs.Answers.{Started, Written}
use Rattle.repair.specs.Session.{session_of, accepted_start, refused_start, node_count_of, nodes_checks}

-- the session of a box: the named nodes live
abbrev pub session_in : List ℕ → Session
session_in bytes = session_of (family_in bytes) (k_in bytes) (block_length_in bytes) (names_in bytes)

-- a box checked alone gives its session
unfoldable pub checked_box : List ℕ → Started
checked_box bytes = answer (box_checks bytes) (accepted_start (session_in bytes)) refused_start

-- reading: the box's checks, then 6
unfoldable pub read_checks : List ℕ → List ℕ → List Check
read_checks bytes nodes = box_checks bytes ++ ((not (eqb (length nodes) (node_count_in bytes * block_length_in bytes)) gives 6) ∷ [])

-- what reading gives
unfoldable pub read_box : List ℕ → List ℕ → Started
read_box bytes nodes = answer (read_checks bytes nodes) (accepted_start (session_in bytes)) refused_start

-- the nodes buffer after reading: the bodies of the named nodes; places of missing nodes keep their bytes
unfoldable pub nodes_read : List ℕ → List ℕ → List ℕ
nodes_read bytes nodes = afterwards (read_checks bytes nodes) (with_bodies (block_length_in bytes) nodes (names_in bytes) (bodies_in bytes)) nodes

-- the length of the box that is written
abbrev pub written_length : Session → List ℕ → ℕ
written_length s list = box_length (length list) s.len

-- Write: 13, 6 for the nodes, 4, 5, 12, 6 for the destination
unfoldable pub write_checks : Session → List ℕ → List ℕ → List ℕ → List Check
write_checks s nodes list out =
    nodes_checks s (length nodes)
    ++ (list_checks (node_count_of s) list
    ++ ((some_missing s.live list gives 12)
    ∷ (ltb (length out) (written_length s list) gives 6)
    ∷ []))

-- a refusal: its number and length 0, the session as handed in
abbrev pub refused_write : Session → ℕ → Written
refused_write s number = record { refusal = number; length = 0; session = s }

-- what writing gives: the length. The session stays
unfoldable pub written : Session → List ℕ → List ℕ → List ℕ → Written
written s nodes list out = answer (write_checks s nodes list out) (record { refusal = 0; length = written_length s list; session = s }) (refused_write s)

-- the destination afterwards: the box, and beyond it what was there
unfoldable pub out_written : Session → List ℕ → List ℕ → List ℕ → List ℕ
out_written s nodes list out =
    afterwards (write_checks s nodes list out) (box_of s.family s.k s.len list nodes ++ drop (written_length s list) out) out
