-- The session and its start (document 01, "The session"; document 02, K8, its counts).
use Rattle.std.specs.Prelude.{◌≡◌, ℕ, ◌+◌, ◌*◌, Bool, not, ◌||◌, List, [], ◌∷◌, ◌++◌, eqb, ltb, length}
use Rattle.families.specs.Families.{family_of, node_count}
use Rattle.checks.specs.Checks.{Check, ◌gives◌, first_met, answer}
use Rattle.checks.specs.Parameters.{parameter_checks}
use Rattle.lists.specs.Lists.{list_checks, none_live, set_live, live_outside}
use Rattle.counts.specs.Counts.{no_counts, sum_of, counted_outside}
use Rattle.planning.specs.Plan.{nodes_left}
use Rattle.repair.specs.declared.Session.{Session}
use Rattle.repair.specs.Answers.{Started}

-- a session of a family, k, L and marks with nothing counted: no steps, and no reads of any number
abbrev pub session_with : ℕ → ℕ → ℕ → List Bool → Session
session_with family k L marks = record { family = family; k = k; len = L; steps = 0; live = marks; reads = no_counts }

-- the session of the same family, k, L and marks with nothing counted
abbrev pub afresh : Session → Session
afresh s = session_with s.family s.k s.len s.live

-- its marks and its reads have an entry for each of the numbers 0 to 255, as every session of the code has
pub record Arrays (s : Session) : Type 0 where
  pub marks : length s.live ≡ 256
  pub counts : length s.reads ≡ 256

-- a session with the nodes of a list live and every other mark missing
abbrev pub session_of : ℕ → ℕ → ℕ → List ℕ → Session
session_of family k L list = session_with family k L (set_live none_live list)

-- an accepted start or box gives 0 and its session
abbrev pub accepted_start : Session → Started
accepted_start s = record { refusal = 0; session = s }

-- a refused one gives its number and a session of zeros with every mark missing
abbrev pub refused_start : ℕ → Started
refused_start number = record { refusal = number; session = session_with 0 0 0 none_live }

-- Start: 1, 2, 3, 4 over the whole list, 5
unfoldable pub start_checks : ℕ → ℕ → ℕ → List ℕ → List Check
start_checks family k L list = parameter_checks family k L ++ list_checks (node_count (family_of family) k) list

-- what a start gives
unfoldable pub started : ℕ → ℕ → ℕ → List ℕ → Started
started family k L list = answer (start_checks family k L list) (accepted_start (session_of family k L list)) refused_start

-- n of a session's family and k
abbrev pub node_count_of : Session → ℕ
node_count_of s = node_count (family_of s.family) s.k

-- the counts are wrong: the reads do not sum to twice the steps, a read count stands against 0 or above n, or steps and missing
-- nodes exceed n
unfoldable pub miscounted : Session → Bool
miscounted s =
    not (eqb (sum_of s.reads) (2 * s.steps))
    || (counted_outside (node_count_of s) s.reads
    || ltb (node_count_of s) (s.steps + nodes_left s.live (node_count_of s)))

-- 13, for these and nothing else: its family, k or L is out of range, a mark for 0 or above n is live, or its counts are wrong.
-- A session without any of these faults is called sound
unfoldable pub unsound : Session → Bool
unsound s =
    not (eqb (first_met (parameter_checks s.family s.k s.len)) 0)
    || (live_outside (node_count_of s) s.live
    || miscounted s)

-- 13, then 6 where the nodes buffer is not n × L bytes: what every operation of a session on a nodes buffer begins with
unfoldable pub nodes_checks : Session → ℕ → List Check
nodes_checks s nodesLength = (unsound s gives 13) ∷ (not (eqb nodesLength (node_count_of s * s.len)) gives 6) ∷ []
