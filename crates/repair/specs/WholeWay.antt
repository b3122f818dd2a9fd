-- The whole way of an object (demand 2): encoded, put away as a box, read, taken through steps, runs and plans carried out, and read out;
-- proofs/WholeWayProved.antt has the proofs.
use Rattle.std.specs.Prelude.{◌≡◌, true, false, List, ◌↔◌, ℕ, ◌*◌, ◌≤◌, ◌<◌, length, get_or}
use Rattle.families.specs.Families.{family_of, node_count, IsNode, column_of}
use Rattle.encoding.specs.Matrix.{node_block}
use Rattle.encoding.specs.Encode.{encode_answer, encoded}
use Rattle.lists.specs.Lists.{is_live}
use Rattle.boxes.specs.Box.{family_in, k_in, block_length_in, held_count_in, names_in, node_count_in, box_length, body_of}
use Rattle.leftover.specs.Open.{Open}
use Rattle.readout.specs.DataBlocks.{data_node}
use Rattle.repair.specs.declared.Session.{Session}
use Rattle.repair.specs.Answers.{Started}
use Rattle.repair.specs.Session.{afresh, Arrays, accepted_start, started, node_count_of, unsound}
use Rattle.repair.specs.Boxed.{checked_box, read_box, nodes_read, written}
use Rattle.repair.specs.LiveNodes.{live_listed}
use Rattle.repair.specs.ReadOut.{read_out_of, object_out}
use Rattle.repair.specs.Repairs.{ran, nodes_ran}
use Rattle.repair.specs.Calls.{Move, State, called, Call, state_after}
use Rattle.repair.specs.LeftOver.{last_session}
use Rattle.repair.specs.Claims.{box_written, list_left}
use Rattle.repair.specs.RepairClaims.{LiveAreOwn}

-- ---- a session and a nodes buffer that go together

-- the session is sound, and the nodes buffer has its n × L bytes
pub record Fits (s : Session) (nodes : List ℕ) : Type 0 where
  pub arrays : Arrays s
  pub sound : unsound s ≡ false
  pub size : length nodes ≡ node_count_of s * s.len

-- a session of the same family, k and L
pub record SameCode (s next : Session) : Type 0 where
  pub family : next.family ≡ s.family
  pub k : next.k ≡ s.k
  pub len : next.len ≡ s.len

-- which calls give such a pair, and accept it
pub record FitsClaim : Type 0 where
  -- the session of an accepted start fits every buffer of n × L bytes
  pub start : (family k L : ℕ) (list nodes : List ℕ) → (started family k L list).refusal ≡ 0 → length nodes ≡ node_count (family_of family) k * L
      → Fits (started family k L list).session nodes
  -- an accepted box is read into every buffer of n × L bytes, and gives its session
  pub read : (bytes nodes : List ℕ) → (checked_box bytes).refusal ≡ 0 → length nodes ≡ node_count_in bytes * block_length_in bytes → read_box bytes nodes ≡ checked_box bytes
  -- which fits what an accepted read leaves
  pub read_fits : (bytes nodes : List ℕ) → (read_box bytes nodes).refusal ≡ 0 → Fits (read_box bytes nodes).session (nodes_read bytes nodes)
  -- a step, run or plan carried out, refused or not, gives back a session that fits the buffer that it leaves, of the same family, k and L
  pub call : (s : Session) (nodes : List ℕ) → Fits s nodes → (move : Move) → Fits (called s nodes move).session (called s nodes move).nodes
  pub same : (s : Session) (nodes : List ℕ) (move : Move) → SameCode s (called s nodes move).session
  -- a run is accepted, and where there is room for all n, so are a list of the live nodes and a write by it
  pub run : (s : Session) (nodes : List ℕ) → Fits s nodes → (ran s nodes).refusal ≡ 0
  pub list : (s : Session) (nodes room : List ℕ) → Fits s nodes → node_count_of s ≤ length room → (live_listed s room).refusal ≡ 0
  pub write : (s : Session) (nodes room out : List ℕ) → Fits s nodes → (live_listed s room).refusal ≡ 0 → box_length (node_count_of s) s.len ≤ length out
      → (written s nodes (list_left s room) out).refusal ≡ 0

-- the box of every live node checks to a session of the same family, k, L and marks, with zeros in its counts
abbrev pub WriteLiveClaim : Type 0
WriteLiveClaim = (s : Session) (nodes room out : List ℕ) → length s.live ≡ 256 → (live_listed s room).refusal ≡ 0
    → (written s nodes (list_left s room) out).refusal ≡ 0 → checked_box (box_written s nodes (list_left s room) out) ≡ accepted_start (afresh s)

-- ---- the object's own blocks

-- every body of a box is the block that the matrix gives for the object
abbrev pub BodiesAreOwn : List ℕ → List ℕ → Type 0
BodiesAreOwn object bytes =
    (i : ℕ) → i < held_count_in bytes
    → body_of bytes (get_or (names_in bytes) i 0)
    ≡ node_block (k_in bytes) (block_length_in bytes) object (column_of (family_of (family_in bytes)) (k_in bytes) (get_or (names_in bytes) i 0))

-- encode, write and read hand the object's own blocks on
pub record OwnBoxClaim : Type 0 where
  -- after encode, every live block of an accepted start is the object's
  pub encode : (family k L : ℕ) (object nodes list : List ℕ) → encode_answer family k L object nodes ≡ 0 → (started family k L list).refusal ≡ 0
      → LiveAreOwn object (started family k L list).session (encoded family k L object nodes)
  -- a box written from an object's own blocks has the object's bodies
  pub write : (object : List ℕ) (s : Session) (nodes list out : List ℕ) → LiveAreOwn object s nodes → (written s nodes list out).refusal ≡ 0
      → BodiesAreOwn object (box_written s nodes list out)
  -- and a box with the object's bodies is read to its own blocks, into a buffer of any content
  pub read : (object bytes nodes : List ℕ) → BodiesAreOwn object bytes → (read_box bytes nodes).refusal ≡ 0
      → LiveAreOwn object (read_box bytes nodes).session (nodes_read bytes nodes)

-- ---- read out

-- of a session and a nodes buffer that go together, into k × L bytes, it is accepted exactly where every data block's node is live
abbrev pub OutWhereLiveClaim : Type 0
OutWhereLiveClaim = (s : Session) (nodes result : List ℕ) → Fits s nodes → length result ≡ s.k * s.len
    → ((read_out_of s nodes result).refusal ≡ 0) ↔ ((i : ℕ) → 1 ≤ i → i ≤ s.k → is_live s.live (data_node (family_of s.family) s.k i) ≡ true)

-- ---- read out after a run

-- after an accepted run, in any list of calls from a start, the missing nodes are exactly the open ones
abbrev pub MissingOpenClaim : Type 0
MissingOpenClaim = (family k L : ℕ) (list : List ℕ) → (started family k L list).refusal ≡ 0
    → (calls : List Call) (nodes : List ℕ) → (ran (last_session family k L list calls) nodes).refusal ≡ 0
    → (M : ℕ) → 1 ≤ M → (j : ℕ) → IsNode (family_of family) k j
    → (is_live (ran (last_session family k L list calls) nodes).session.live j ≡ false) ↔ Open (family_of family) k M list j

-- data block i is the lowest whose node is open
pub record LowestOpen (family k M : ℕ) (list : List ℕ) (i : ℕ) : Type 0 where
  pub first : 1 ≤ i
  pub last : i ≤ k
  pub is_open : Open (family_of family) k M list (data_node (family_of family) k i)
  pub lowest : (m : ℕ) → 1 ≤ m → m < i → Open (family_of family) k M list (data_node (family_of family) k m) → ⊥

-- no data block's node is open
abbrev pub NoneOpen : ℕ → ℕ → ℕ → List ℕ → Type 0
NoneOpen family k M list = (i : ℕ) → 1 ≤ i → i ≤ k → Open (family_of family) k M list (data_node (family_of family) k i) → ⊥

-- read out is accepted exactly where no data block's node is open, and turned away with 14 and block i exactly where i is the
-- lowest whose node is
pub record OutWhereOpen (s : Session) (nodes result list : List ℕ) (M : ℕ) : Type 0 where
  pub accepted : (read_out_of s nodes result ≡ record { refusal = 0; block = 0; session = s }) ↔ NoneOpen s.family s.k M list
  pub refused : (i : ℕ) → (read_out_of s nodes result ≡ record { refusal = 14; block = i; session = s }) ↔ LowestOpen s.family s.k M list i

-- so it is after an accepted run, in any list of calls from a start, for every nodes buffer and object of the right length
abbrev pub OutAfterRunClaim : Type 0
OutAfterRunClaim = (family k L : ℕ) (list : List ℕ) → (started family k L list).refusal ≡ 0
    → (calls : List Call) (nodes : List ℕ) → (ran (last_session family k L list calls) nodes).refusal ≡ 0
    → (other result : List ℕ) → length other ≡ node_count (family_of family) k * L → length result ≡ k * L
    → (M : ℕ) → 1 ≤ M → OutWhereOpen (ran (last_session family k L list calls) nodes).session other result list M

-- ---- the whole way

-- what is handed to the calls on the way
pub record Way : Type 0 where
  pub family : ℕ
  pub k : ℕ
  pub len : ℕ
  -- the object, and the buffer that encode fills
  pub object : List ℕ
  pub nodes : List ℕ
  -- the list of the start, the list of the write, and its destination
  pub live : List ℕ
  pub list : List ℕ
  pub out : List ℕ
  -- the buffer that the box is read into, of any content
  pub other : List ℕ

-- the session that the object's nodes are written from
abbrev pub start_of : Way → Started
start_of way = started way.family way.k way.len way.live

-- the object's nodes by encode
abbrev pub nodes_encoded : Way → List ℕ
nodes_encoded way = encoded way.family way.k way.len way.object way.nodes

-- the box that is put away
abbrev pub box_away : Way → List ℕ
box_away way = box_written (start_of way).session (nodes_encoded way) way.list way.out

-- session and buffer once the box is read and a list of calls made, refused ones included
abbrev pub state_at : Way → List Move → State Session
state_at way moves = state_after called (read_box (box_away way) way.other).session (nodes_read (box_away way) way.other) moves

-- encode, start, write and read are accepted
pub record OnTheWay (way : Way) : Type 0 where
  pub encode : encode_answer way.family way.k way.len way.object way.nodes ≡ 0
  pub start : (start_of way).refusal ≡ 0
  pub write : (written (start_of way).session (nodes_encoded way) way.list way.out).refusal ≡ 0
  pub read : (read_box (box_away way) way.other).refusal ≡ 0

-- what holds at its end
pub record WholeWay (way : Way) (moves : List Move) : Type 0 where
  -- every live block is the object's
  pub live : LiveAreOwn way.object (state_at way moves).session (state_at way moves).nodes
  -- where read out is accepted it gives the object
  pub out : (result : List ℕ) → (read_out_of (state_at way moves).session (state_at way moves).nodes result).refusal ≡ 0
      → object_out (state_at way moves).session (state_at way moves).nodes result ≡ way.object
  -- after one more run, which is accepted, that is exactly where no data block's node is open: where one is, two objects alike on
  -- every node of the box differ there
  pub runs : (ran (state_at way moves).session (state_at way moves).nodes).refusal ≡ 0
  pub back : (result : List ℕ) → length result ≡ way.k * way.len → (M : ℕ) → 1 ≤ M
      → OutWhereOpen (ran (state_at way moves).session (state_at way moves).nodes).session (nodes_ran (state_at way moves).session (state_at way moves).nodes) result
      (names_in (box_away way)) M
  -- and then it gives the object
  pub again : (result : List ℕ)
      → (read_out_of (ran (state_at way moves).session (state_at way moves).nodes).session (nodes_ran (state_at way moves).session (state_at way moves).nodes) result).refusal ≡ 0
      → object_out (ran (state_at way moves).session (state_at way moves).nodes).session (nodes_ran (state_at way moves).session (state_at way moves).nodes) result ≡ way.object

-- for every family, k, L and object, every start and list that are accepted, every buffer, and every list of calls
abbrev pub WholeWayClaim : Type 0
WholeWayClaim = (way : Way) → OnTheWay way → (moves : List Move) → WholeWay way moves
