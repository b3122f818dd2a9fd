-- What is proved of a session's operations besides their own equations and demand 3; proofs/RepairsProved.antt and
-- proofs/AcceptsProved.antt have the proofs.
use Rattle.std.specs.Prelude.{◌≡◌, true, false, List, map, ◌↔◌, ℕ, ◌*◌, ◌%◌, ◌≤◌, length}
use Rattle.families.specs.Families.{family_of, IsNode, column_of}
use Rattle.blocks.specs.Blocks.{block_of}
use Rattle.encoding.specs.Matrix.{node_block}
use Rattle.lists.specs.Lists.{some_outside, rises, is_live, some_missing}
use Rattle.planning.specs.Claims.{CanMake, PlanRoundsClaims}
use Rattle.pairing.specs.Pairs.{NoPairLeft}
use Rattle.planning.specs.Plan.{Step, last_round}
use Rattle.planning.specs.Made.{steps_in}
use Rattle.waves.specs.Waves.{RoundsAndWaves}
use Rattle.repair.specs.declared.Session.{Session}
use Rattle.repair.specs.Session.{afresh, Arrays, node_count_of, unsound}
use Rattle.repair.specs.Boxed.{written_length, written}
use Rattle.repair.specs.LiveNodes.{live_nodes_of, live_listed}
use Rattle.repair.specs.Step.{named_step, stepped, nodes_stepped}
use Rattle.repair.specs.Pairs.{pairs_found}
use Rattle.repair.specs.Repairs.{plan_in, planned, out_planned, ran, nodes_ran}
use Rattle.repair.specs.Carry.{plan_checked, carried}
use Rattle.repair.specs.ReadOut.{missing_in, read_out_of, object_out}
use Rattle.repair.specs.Calls.{Move, step, run, called, state_after}

-- ---- step

-- a step is accepted exactly where the session is sound, the nodes buffer is n × L bytes, and the step can be made: the node is
-- missing, and the two others are live and related to it
abbrev pub StepClaim : Type 0
StepClaim = (s : Session) (nodes : List ℕ) (j a b : ℕ)
    → ((stepped s nodes j a b).refusal ≡ 0)
    ↔ ((unsound s ≡ false) × (length nodes ≡ node_count_of s * s.len)
    × CanMake (family_of s.family) s.k s.live (named_step j a b))

-- a step leaves the blocks of all other nodes
abbrev pub StepKeepsClaim : Type 0
StepKeepsClaim = (s : Session) (nodes : List ℕ) (j a b : ℕ) → (stepped s nodes j a b).refusal ≡ 0
    → (i : ℕ) → IsNode (family_of s.family) s.k i → (i ≡ j → ⊥) → block_of s.len (nodes_stepped s nodes j a b) i ≡ block_of s.len nodes i

-- ---- plan, run, write, the live nodes, read out, pairs, and plans made elsewhere

-- the session is sound, and the nodes buffer is n × L bytes
abbrev pub Suits : Session → List ℕ → Type 0
Suits s nodes = (unsound s ≡ false) × (length nodes ≡ node_count_of s * s.len)

-- each is accepted exactly where it says
pub record Accepts (s : Session) : Type 0 where
  -- a plan: the destination has four bytes for each step
  pub plan : (out : List ℕ) → ((planned s out).refusal ≡ 0) ↔ ((unsound s ≡ false) × (4 * length (plan_in s) ≤ length out))
  pub run : (nodes : List ℕ) → ((ran s nodes).refusal ≡ 0) ↔ Suits s nodes
  -- a write: the list has live nodes of 1 to n alone and strictly rises, and the box fits its destination
  pub write : (nodes list out : List ℕ) → ((written s nodes list out).refusal ≡ 0)
      ↔ (Suits s nodes × (some_outside (node_count_of s) list ≡ false) × (rises list ≡ true) × (some_missing s.live list ≡ false) × (written_length s list ≤ length out))
  -- a list of the live nodes: the buffer has a byte for each
  pub live : (out : List ℕ) → ((live_listed s out).refusal ≡ 0) ↔ ((unsound s ≡ false) × (length (live_nodes_of s) ≤ length out))
  -- a search for a pair: the number is a node's
  pub pairs : (j : ℕ) → ((pairs_found s j).refusal ≡ 0) ↔ ((unsound s ≡ false) × IsNode (family_of s.family) s.k j)
  -- read out: the object is k × L bytes, and no data block's node is missing
  pub read_out : (nodes object : List ℕ) → ((read_out_of s nodes object).refusal ≡ 0) ↔ (Suits s nodes × (length object ≡ s.k * s.len) × (missing_in s ≡ 0))
  -- a check of a plan: its length is a multiple of four; and one to be carried out, whose steps may be bad all the same
  pub check_plan : (plan : List ℕ) → ((plan_checked s plan).refusal ≡ 0) ↔ ((unsound s ≡ false) × (length plan % 4 ≡ 0))
  pub carry : (plan nodes : List ℕ) → ((carried s plan nodes).refusal ≡ 0) ↔ (Suits s nodes × (length plan % 4 ≡ 0))

abbrev pub AcceptsClaim : Type 0
AcceptsClaim = (s : Session) → Accepts s

-- ---- a sound session

-- it is handed back as one, by a step, by a run and by a plan carried out, refused or not
abbrev pub StaysClaim : Type 0
StaysClaim = (s : Session) → Arrays s → unsound s ≡ false
    → (nodes : List ℕ) (move : Move) → unsound (called s nodes move).session ≡ false

-- a live node stays live
abbrev pub LiveStaysClaim : Type 0
LiveStaysClaim = (s : Session) (nodes : List ℕ) (move : Move) (j : ℕ) → is_live s.live j ≡ true → is_live (called s nodes move).session.live j ≡ true

-- ---- plan and run

-- what an accepted plan writes, read four bytes a step, is the session's plan
abbrev pub PlanWritesClaim : Type 0
PlanWritesClaim = (s : Session) (out : List ℕ) → (planned s out).refusal ≡ 0 → steps_in (out_planned s out) (planned s out).steps ≡ plan_in s

-- of the rounds of a session's plan
pub record RoundsClaims (s : Session) : Type 0 where
  -- they are as K11 says: in each no node is read twice, and each from the first to the last repairs a node
  pub each : unsound s ≡ false → PlanRoundsClaims (family_of s.family) s.k s.live
  -- they leave the nodes that the waves leave, and are at least as many
  pub waves : unsound s ≡ false → RoundsAndWaves (family_of s.family) s.k s.live
  -- plan and run, where accepted, give the last step's
  pub plan : (out : List ℕ) → (planned s out).refusal ≡ 0 → (planned s out).rounds ≡ last_round (plan_in s)
  pub run : (nodes : List ℕ) → (ran s nodes).refusal ≡ 0 → (ran s nodes).rounds ≡ last_round (plan_in s)
  -- accepted or not, there are at most as many as steps
  pub plan_few : (out : List ℕ) → (planned s out).rounds ≤ (planned s out).steps
  pub run_few : (nodes : List ℕ) → (ran s nodes).rounds ≤ (ran s nodes).steps

abbrev pub RoundsClaim : Type 0
RoundsClaim = (s : Session) → length s.live ≡ 256 → RoundsClaims s

-- a run after a run repairs nothing: the same nodes left, session and buffer
pub record RunAgain (s : Session) (nodes : List ℕ) (next : Session) (other : List ℕ) : Type 0 where
  pub answer : ran next other ≡ record { refusal = 0; steps = 0; rounds = 0; left = (ran s nodes).left; session = next }
  pub nodes_are : nodes_ran next other ≡ other

-- of a run
pub record RunClaims (s : Session) (nodes : List ℕ) : Type 0 where
  -- it is the plan's steps made one after the other
  pub steps : state_after called s nodes (map (λ (made : Step). step made.node made.smaller made.larger) (plan_in s)) ≡ called s nodes run
  -- after it no missing node has a related pair with both nodes live
  pub ends : NoPairLeft (family_of s.family) s.k (is_live (ran s nodes).session.live)
  -- places of nodes left keep their bytes, and so do those of nodes that were live before it
  pub left_kept : (j : ℕ) → IsNode (family_of s.family) s.k j → is_live (ran s nodes).session.live j ≡ false
      → block_of s.len (nodes_ran s nodes) j ≡ block_of s.len nodes j
  pub live_kept : (j : ℕ) → IsNode (family_of s.family) s.k j → is_live s.live j ≡ true
      → block_of s.len (nodes_ran s nodes) j ≡ block_of s.len nodes j
  -- a run after it repairs nothing, in its session and in every other sound one of the same family, k, L and marks
  pub again : (next : Session) (other : List ℕ) → afresh next ≡ afresh (ran s nodes).session → unsound next ≡ false → length other ≡ node_count_of s * s.len
      → RunAgain s nodes next other

-- of every accepted run
abbrev pub RunClaim : Type 0
RunClaim = (s : Session) → Arrays s → (nodes : List ℕ) → (ran s nodes).refusal ≡ 0 → RunClaims s nodes

-- ---- the object's own blocks (demand 2)

-- every live block is the one that the matrix gives for the object
abbrev pub LiveAreOwn : List ℕ → Session → List ℕ → Type 0
LiveAreOwn object s nodes =
    (j : ℕ) → IsNode (family_of s.family) s.k j → is_live s.live j ≡ true
    → block_of s.len nodes j ≡ node_block s.k s.len object (column_of (family_of s.family) s.k j)

-- once session and buffer have gone through a list of steps, runs and plans carried out, every live block is the object's, and what is read out,
-- where that is accepted, is the object
pub record OwnClaims (object : List ℕ) (s : Session) (nodes : List ℕ) (moves : List Move) : Type 0 where
  pub live : LiveAreOwn object (state_after called s nodes moves).session (state_after called s nodes moves).nodes
  pub out : (result : List ℕ) → (read_out_of (state_after called s nodes moves).session (state_after called s nodes moves).nodes result).refusal ≡ 0
      → object_out (state_after called s nodes moves).session (state_after called s nodes moves).nodes result ≡ object

abbrev pub OwnClaim : Type 0
OwnClaim = (object : List ℕ) (s : Session) (nodes : List ℕ) → Arrays s → length object ≡ s.k * s.len → LiveAreOwn object s nodes
    → (moves : List Move) → OwnClaims object s nodes moves
