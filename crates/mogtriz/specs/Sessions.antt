-- Sessions as C has them, and what the C functions on sessions and boxes give.
use Rattle.std.specs.Prelude.{ℕ, Bool, false, cond, ◌||◌, List, [], ◌∷◌, map, eqb, ltb}
use Rattle.checks.specs.Checks.{answer}
use Rattle.lists.specs.Lists.{none_live}
use Rattle.boxes.specs.Box.{block_length_in, body_checks, body_start}
use Rattle.repair.specs.declared.Session.{Session}
use Rattle.repair.specs.Answers.{Started, Written}
use Rattle.repair.specs.Session.{session_with}
use Rattle.repair.specs.Boxed.{written}
use Rattle.repair.specs.LiveNodes.{live_listed}
use Rattle.repair.specs.ReadOut.{read_out_of}
use Rattle.mogtriz.specs.declared.sessions.MarkedSession.{MarkedSession}
use Rattle.mogtriz.specs.declared.sessions.StartAnswer.{StartAnswer}
use Rattle.mogtriz.specs.declared.sessions.WriteAnswer.{WriteAnswer}
use Rattle.mogtriz.specs.declared.sessions.ReadOutAnswer.{ReadOutAnswer}
use Rattle.mogtriz.specs.declared.sessions.Part.{Part}

-- the byte of a mark: 1 live, 0 missing
abbrev pub byte_of : Bool → ℕ
byte_of live = cond live 1 0

-- the mark of a byte that is 0 or 1: 1 live, 0 missing
abbrev pub mark_of : ℕ → Bool
mark_of byte = eqb byte 1

-- one of the bytes is above 1
unfoldable pub some_above1 : List ℕ → Bool
some_above1 [] = false
some_above1 (byte ∷ bytes) = ltb 1 byte || some_above1 bytes

-- a session as C has it
abbrev pub session_for_c : Session → MarkedSession
session_for_c s = record { family = s.family; k = s.k; len = s.len; steps = s.steps; live = map byte_of s.live; reads = s.reads }

-- C's session as the library's. One with a byte above 1 becomes the session of zeros, whose family is none: every call on it gives
-- 13 (`ThirteenCClaim`)
unfoldable pub session_of_c : MarkedSession → Session
session_of_c s =
    cond (some_above1 s.live) (session_with 0 0 0 none_live)
    (record { family = s.family; k = s.k; len = s.len; steps = s.steps; live = map mark_of s.live; reads = s.reads })

-- what a start or a box gives
abbrev pub started_c : Started → StartAnswer
started_c own = record { refusal = own.refusal; session = session_for_c own.session }

-- a refusal's number and a length, with the session that C gets
abbrev pub length_c : Written → MarkedSession → WriteAnswer
length_c own given = record { refusal = own.refusal; length = own.length; session = given }

-- what writing gives: the session as handed in
unfoldable pub written_c : MarkedSession → List ℕ → List ℕ → List ℕ → WriteAnswer
written_c s nodes list out = length_c (written (session_of_c s) nodes list out) s

-- what listing the live nodes gives, likewise
unfoldable pub live_listed_c : MarkedSession → List ℕ → WriteAnswer
live_listed_c s out = length_c (live_listed (session_of_c s) out) s

-- what reading out gives, likewise
unfoldable pub read_out_c : MarkedSession → List ℕ → List ℕ → ReadOutAnswer
read_out_c s nodes object = let own = read_out_of (session_of_c s) nodes object in record { refusal = own.refusal; block = own.block; session = s }

-- the part of a box that is the body of node j: L bytes from its place among the bodies; 0 and 0 where it is refused
unfoldable pub part_in : List ℕ → ℕ → Part
part_in bytes j =
    answer (body_checks bytes j) (record { refusal = 0; from = body_start bytes j; length = block_length_in bytes }) (λ number. record { refusal = number; from = 0; length = 0 })
