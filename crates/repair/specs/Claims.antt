-- What is proved of sessions and boxes besides each operation's own equations; proofs/Proved.antt has the proofs.
use Rattle.std.specs.Prelude.{◌≡◌, true, false, not, List, [], ◌∷◌, ◌++◌, ◌↔◌, ℕ, ◌+◌, ◌*◌, ◌/◌, ◌%◌, ◌≤◌, ◌<◌, length, get_or, take, drop, eqb}
use Rattle.families.specs.Families.{family_of, node_count, IsNode}
use Rattle.blocks.specs.Blocks.{block_of}
use Rattle.checks.specs.Checks.{◌gives◌, first_met}
use Rattle.checks.specs.Claims.{InRange}
use Rattle.lists.specs.Lists.{some_outside, rises, is_in, is_live}
use Rattle.counts.specs.Counts.{count_of, sum_of}
use Rattle.planning.specs.Plan.{nodes_left}
use Rattle.boxes.specs.Box.{family_in, k_in, block_length_in, held_count_in, names_in, node_count_in, box_length, body_checks, body_of}
use Rattle.boxes.specs.Bodies.{box_of}
use Rattle.boxes.specs.Claims.{AcceptedBox, SoundHead, old_box_checks, Changed, Named}
use Rattle.repair.specs.declared.Session.{Session}
use Rattle.repair.specs.Session.{afresh, Arrays, session_of, accepted_start, refused_start, started, node_count_of, unsound}
use Rattle.repair.specs.Boxed.{session_in, checked_box, read_checks, read_box, nodes_read, written_length, written, out_written}
use Rattle.repair.specs.LiveNodes.{live_nodes_of, live_listed, out_listed}

-- ---- start

-- a start is accepted exactly where family, k and L are in range, and its list is of nodes and strictly rises
abbrev pub StartClaim : Type 0
StartClaim = (family k L : ℕ) (list : List ℕ)
    → ((started family k L list).refusal ≡ 0) ↔ (InRange family k L × (some_outside (node_count (family_of family) k) list ≡ false) × (rises list ≡ true))

-- what a session has to hold, one by one
pub record Sound (s : Session) : Type 0 where
  pub range : InRange s.family s.k s.len
  -- a number that is marked live is a node's
  pub live : (j : ℕ) → is_live s.live j ≡ true → IsNode (family_of s.family) s.k j
  -- the reads sum to twice the steps
  pub sum : sum_of s.reads ≡ 2 * s.steps
  -- a number that was read is a node's
  pub reads : (j : ℕ) → 1 ≤ count_of s.reads j → IsNode (family_of s.family) s.k j
  -- steps and missing nodes do not exceed n
  pub few : s.steps + nodes_left s.live (node_count_of s) ≤ node_count_of s

-- 13 is not due exactly where it holds all of them, whether a start leads to it or not
abbrev pub SoundClaim : Type 0
SoundClaim = (s : Session) → Arrays s → (unsound s ≡ false) ↔ Sound s

-- mark j of an accepted start's session is live exactly when j is in the list
abbrev pub StartMarksClaim : Type 0
StartMarksClaim = (family k L : ℕ) (list : List ℕ) → (started family k L list).refusal ≡ 0
    → (j : ℕ) → j < 256 → is_live (started family k L list).session.live j ≡ is_in list j

-- ---- write, then read

-- the bytes of the box that a write leaves at the start of its destination
abbrev pub box_written : Session → List ℕ → List ℕ → List ℕ → List ℕ
box_written s nodes list out = take (written_length s list) (out_written s nodes list out)

-- what is written, what it checks to, and what it reads to
pub record WriteReadClaims (s : Session) (nodes list out : List ℕ) : Type 0 where
  -- these bytes are the box of the listed nodes; their number is returned, there is room for them, and beyond them nothing is written
  pub box : box_written s nodes list out ≡ box_of s.family s.k s.len list nodes
  pub answer : written s nodes list out ≡ record { refusal = 0; length = length (box_written s nodes list out); session = s }
  pub room : length (box_written s nodes list out) ≤ length out
  pub rest : out_written s nodes list out ≡ box_written s nodes list out ++ drop (length (box_written s nodes list out)) out
  -- the box names the listed nodes, checks to their session, and reads, into whatever buffer, to the same bodies
  pub names : names_in (box_written s nodes list out) ≡ list
  pub checks : checked_box (box_written s nodes list out) ≡ accepted_start (session_of s.family s.k s.len list)
  pub reads : (other : List ℕ) → length other ≡ node_count_of s * s.len → read_box (box_written s nodes list out) other ≡ checked_box (box_written s nodes list out)
  pub bodies : (other : List ℕ) → length other ≡ node_count_of s * s.len → (i : ℕ) → i < length list
      → block_of s.len (nodes_read (box_written s nodes list out) other) (get_or list i 0) ≡ block_of s.len nodes (get_or list i 0)

-- of every accepted write
abbrev pub WriteReadClaim : Type 0
WriteReadClaim = (s : Session) (nodes list out : List ℕ) → (written s nodes list out).refusal ≡ 0 → WriteReadClaims s nodes list out

-- an empty list stands for no node: the box is its head alone, of 8 bytes with E = 0
pub record EmptyBox (s : Session) (nodes out : List ℕ) : Type 0 where
  pub answer : written s nodes [] out ≡ record { refusal = 0; length = 8; session = s }
  pub head : out_written s nodes [] out ≡ (s.family ∷ s.k ∷ s.len % 256 ∷ s.len / 256 ∷ 0 ∷ 0 ∷ 0 ∷ 0 ∷ []) ++ drop 8 out

-- of every session that is not turned away with 13, with room for it
abbrev pub EmptyBoxClaim : Type 0
EmptyBoxClaim = (s : Session) (nodes out : List ℕ) → unsound s ≡ false → length nodes ≡ node_count_of s * s.len → 8 ≤ length out → EmptyBox s nodes out

-- ---- the live nodes, listed

-- the list that is left at the start of the buffer, by the number that is given
abbrev pub list_left : Session → List ℕ → List ℕ
list_left s out = take (live_listed s out).length (out_listed s out)

-- of the list that is left
pub record LiveListClaims (s : Session) (out : List ℕ) : Type 0 where
  -- it is the live nodes; its length is given, there is room for it, and beyond it nothing is written
  pub is : list_left s out ≡ live_nodes_of s
  pub answer : live_listed s out ≡ record { refusal = 0; length = length (list_left s out); session = s }
  pub room : length (list_left s out) ≤ length out
  pub rest : out_listed s out ≡ list_left s out ++ drop (length (list_left s out)) out
  -- a start by it gives the same family, k, L and marks, so that it is of nodes, strictly rises, and has exactly the live ones
  pub start : length s.live ≡ 256 → started s.family s.k s.len (list_left s out) ≡ accepted_start (afresh s)

-- wherever it is accepted
abbrev pub LiveListClaim : Type 0
LiveListClaim = (s : Session) (out : List ℕ) → (live_listed s out).refusal ≡ 0 → LiveListClaims s out

-- the live nodes of an accepted start's session are its list
abbrev pub StartListClaim : Type 0
StartListClaim = (family k L : ℕ) (list out : List ℕ) → (started family k L list).refusal ≡ 0
    → (live_listed (started family k L list).session out).refusal ≡ 0 → list_left (started family k L list).session out ≡ list

-- and those of an accepted box's session its own list
abbrev pub BoxListClaim : Type 0
BoxListClaim = (bytes out : List ℕ) → (checked_box bytes).refusal ≡ 0
    → (live_listed (checked_box bytes).session out).refusal ≡ 0 → list_left (checked_box bytes).session out ≡ names_in bytes

-- ---- read, then write

-- places of nodes that are not in the box keep their bytes
abbrev pub ReadKeepsClaim : Type 0
ReadKeepsClaim = (bytes nodes : List ℕ) → (read_box bytes nodes).refusal ≡ 0
    → (j : ℕ) → 1 ≤ j → ((i : ℕ) → i < length (names_in bytes) → get_or (names_in bytes) i 0 ≡ j → ⊥)
    → block_of (block_length_in bytes) (nodes_read bytes nodes) j ≡ block_of (block_length_in bytes) nodes j

-- what was read from a box is written by a list: it is accepted, and has the length and the bytes of the box
pub record WrittenAgain (bytes nodes list out : List ℕ) : Type 0 where
  pub answer : written (read_box bytes nodes).session (nodes_read bytes nodes) list out ≡ record { refusal = 0; length = length bytes; session = (read_box bytes nodes).session }
  pub rest : out_written (read_box bytes nodes).session (nodes_read bytes nodes) list out ≡ bytes ++ drop (length bytes) out
  pub box : box_written (read_box bytes nodes).session (nodes_read bytes nodes) list out ≡ bytes

-- an accepted box, read into any buffer and written again before any repair, has the same bytes, by its own list, E = 0 included, and
-- by that of its session's live nodes. That byte 2, the low one of L, is a byte is all that is asked of the list of numbers
abbrev pub ReadWriteClaim : Type 0
ReadWriteClaim = (bytes nodes out : List ℕ) → get_or bytes 2 0 < 256 → (read_box bytes nodes).refusal ≡ 0 → length bytes ≤ length out
    → WrittenAgain bytes nodes (names_in bytes) out
    × ((room : List ℕ) → (live_listed (read_box bytes nodes).session room).refusal ≡ 0 → WrittenAgain bytes nodes (list_left (read_box bytes nodes).session room) out)

-- ---- the body of a node

-- the body of a named node is what a read puts in its place
abbrev pub ReadBodyClaim : Type 0
ReadBodyClaim = (bytes nodes : List ℕ) → (read_box bytes nodes).refusal ≡ 0 → (i : ℕ) → i < held_count_in bytes
    → block_of (block_length_in bytes) (nodes_read bytes nodes) (get_or (names_in bytes) i 0) ≡ body_of bytes (get_or (names_in bytes) i 0)

-- in a written box it is that node's block
abbrev pub WrittenBodyClaim : Type 0
WrittenBodyClaim = (s : Session) (nodes list out : List ℕ) → (written s nodes list out).refusal ≡ 0 → (i : ℕ) → i < length list
    → body_of (box_written s nodes list out) (get_or list i 0) ≡ block_of s.len nodes (get_or list i 0)

-- ---- a box and its session

-- a box, its form and its session
pub record BoxSession (bytes : List ℕ) : Type 0 where
  -- it is as document 01 says
  pub form : AcceptedBox bytes
  -- its session has the named nodes live, and is the one that the start with its family, k, L and node numbers gives
  pub is : checked_box bytes ≡ accepted_start (session_in bytes)
  pub start : checked_box bytes ≡ started (family_in bytes) (k_in bytes) (block_length_in bytes) (names_in bytes)
  -- a node not named is missing, and a named one is live
  pub named : (j : ℕ) → j < 256 → (is_live (checked_box bytes).session.live j ≡ true) ↔ Named bytes j

-- of every box that is accepted
abbrev pub BoxStartClaim : Type 0
BoxStartClaim = (bytes : List ℕ) → (checked_box bytes).refusal ≡ 0 → BoxSession bytes

-- this number is what check, read and a body give
pub record RefusedBox (bytes : List ℕ) (number : ℕ) : Type 0 where
  pub check : checked_box bytes ≡ refused_start number
  pub read : (nodes : List ℕ) → (read_box bytes nodes ≡ refused_start number) × (nodes_read bytes nodes ≡ nodes)
  pub body : (j : ℕ) → (first_met (body_checks bytes j) ≡ number) × (body_of bytes j ≡ [])

-- of a box that passes 8: a length for another number of nodes, or any other wrong one, gives 7 where E is up to n; E above n gives 9
abbrev pub WrongCountClaim : Type 0
WrongCountClaim = (bytes : List ℕ) → SoundHead bytes
    → (held_count_in bytes ≤ node_count_in bytes → (length bytes ≡ box_length (held_count_in bytes) (block_length_in bytes) → ⊥) → RefusedBox bytes 7)
    × (node_count_in bytes < held_count_in bytes → RefusedBox bytes 9)

-- what document 02, K12, changed for a read, which has 6 after the box's checks
abbrev pub ReadOrderClaim : Type 0
ReadOrderClaim = (bytes nodes : List ℕ) → Changed bytes (first_met (read_checks bytes nodes)) (first_met (old_box_checks bytes ++ ((not (eqb (length nodes) (node_count_in bytes * block_length_in bytes)) gives 6) ∷ [])))
