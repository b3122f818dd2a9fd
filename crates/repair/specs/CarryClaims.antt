-- What is proved of plans made elsewhere (document 02, K10) besides their own equations; proofs/CarryProved.antt has the proofs.
use Rattle.std.specs.Prelude.{◌≡◌, true, false, ◌↔◌, ◌⊎◌, ℕ, ◌+◌, ◌*◌, length, take}
use mathlib.Core.List.{List, Memᴰ, [], ◌∷◌, map}
use Rattle.families.specs.Families.{family_of, IsNode}
use Rattle.blocks.specs.Blocks.{block_of}
use Rattle.lists.specs.Lists.{is_live}
use Rattle.counts.specs.Counts.{count_of}
use Rattle.planning.specs.Plan.{Step, repaired_nodes, times_read, nodes_left}
use Rattle.validation.specs.Claims.{CheckClaims, AcceptedClaims}
use Rattle.repair.specs.declared.Session.{Session}
use Rattle.repair.specs.Session.{Arrays, node_count_of, unsound}
use Rattle.repair.specs.Step.{stepped, nodes_stepped}
use Rattle.repair.specs.Repairs.{planned, out_planned}
use Rattle.repair.specs.Carry.{plan_steps, bad_in, plan_checked, carried, nodes_carried}
use Rattle.repair.specs.Calls.{run, carry, as_move, called, state_after}
use Rattle.repair.specs.RepairClaims.{LiveAreOwn}

-- ---- the number

-- of a session and a plan
pub record NumberClaims (s : Session) (plan : List ℕ) : Type 0 where
  -- the check's number, where it does not refuse, is that of the first bad step by K10's conditions, and 0 where there is none
  pub is : (plan_checked s plan).refusal ≡ 0 → (plan_checked s plan).bad ≡ bad_in s plan
  pub words : CheckClaims (family_of s.family) s.k s.live (plan_steps plan)
  -- what the check does not refuse is not refused when it is carried out on n × L bytes, and then has the same number
  pub served : (nodes : List ℕ) → length nodes ≡ node_count_of s * s.len → (plan_checked s plan).refusal ≡ 0 → (carried s plan nodes).refusal ≡ 0
  pub same : (nodes : List ℕ) → (carried s plan nodes).refusal ≡ 0 → plan_checked s plan ≡ record { refusal = 0; bad = (carried s plan nodes).bad; session = s }
  -- the empty plan is accepted, and repairs nothing
  pub empty : unsound s ≡ false → plan_checked s [] ≡ record { refusal = 0; bad = 0; session = s }
  pub nothing : (nodes : List ℕ) → (carried s [] nodes).refusal ≡ 0 → ((carried s [] nodes).session ≡ s) × (nodes_carried s [] nodes ≡ nodes)

abbrev pub NumberClaim : Type 0
NumberClaim = (s : Session) (plan : List ℕ) → NumberClaims s plan

-- a plan with a bad step: nothing is written, and the session is as handed in
abbrev pub BadStepClaim : Type 0
BadStepClaim = (s : Session) (plan nodes : List ℕ) → ((carried s plan nodes).bad ≡ 0 → ⊥)
    → (carried s plan nodes ≡ record { refusal = 0; bad = bad_in s plan; session = s }) × (nodes_carried s plan nodes ≡ nodes)

-- ---- an accepted plan

-- the step calls of a plan, in its order, are all accepted
abbrev pub AllAccepted : Session → List ℕ → List Step → Type 0
AllAccepted s nodes [] = Unit {0}
AllAccepted s nodes (made ∷ steps) =
    ((stepped s nodes made.node made.smaller made.larger).refusal ≡ 0)
    × AllAccepted (stepped s nodes made.node made.smaller made.larger).session (nodes_stepped s nodes made.node made.smaller made.larger) steps

-- of a plan that is carried out
pub record CarryClaims (s : Session) (plan nodes : List ℕ) : Type 0 where
  -- its steps, one after the other: each could be made when it came, in rounds as K11 has them
  pub steps : AcceptedClaims (family_of s.family) s.k s.live (plan_steps plan)
  -- they are step calls, all of them accepted, and these leave what it leaves: demand 3 speaks of it as steps
  pub accepted : AllAccepted s nodes (plan_steps plan)
  pub calls : state_after called s nodes (map as_move (plan_steps plan)) ≡ called s nodes (carry plan)
  -- afterwards exactly its nodes are live besides those before, none of which it repairs
  pub live : (j : ℕ) → (is_live (carried s plan nodes).session.live j ≡ true) ↔ ((is_live s.live j ≡ true) ⊎ Memᴰ j (repaired_nodes (plan_steps plan)))
  pub missing : (j : ℕ) → Memᴰ j (repaired_nodes (plan_steps plan)) → is_live s.live j ≡ false
  -- the blocks of all other nodes are as they were
  pub kept : (j : ℕ) → IsNode (family_of s.family) s.k j → (Memᴰ j (repaired_nodes (plan_steps plan)) → ⊥)
      → block_of s.len (nodes_carried s plan nodes) j ≡ block_of s.len nodes j
  -- where the live blocks are an object's, so are those afterwards, the repaired ones included
  pub own : (object : List ℕ) → length object ≡ s.k * s.len → LiveAreOwn object s nodes → LiveAreOwn object (carried s plan nodes).session (nodes_carried s plan nodes)
  -- each step repairs one node, so that there are at most as many as nodes are missing
  pub few : length (plan_steps plan) + nodes_left (carried s plan nodes).session.live (node_count_of s) ≡ nodes_left s.live (node_count_of s)
  -- its steps are counted as steps, and their reads
  pub counted : (carried s plan nodes).session.steps ≡ s.steps + length (plan_steps plan)
  pub reads : (j : ℕ) → count_of (carried s plan nodes).session.reads j ≡ count_of s.reads j + times_read j (plan_steps plan)
  -- checked again, or carried out again on n × L bytes, its first step is bad, if it has one
  pub again : (plan_steps plan ≡ [] → ⊥) → plan_checked (carried s plan nodes).session plan ≡ record { refusal = 0; bad = 1; session = (carried s plan nodes).session }
  pub again_carried : (plan_steps plan ≡ [] → ⊥) → (other : List ℕ) → length other ≡ node_count_of s * s.len
      → carried (carried s plan nodes).session plan other ≡ record { refusal = 0; bad = 1; session = (carried s plan nodes).session }

abbrev pub CarryClaim : Type 0
CarryClaim = (s : Session) → Arrays s → (plan nodes : List ℕ) → (carried s plan nodes).refusal ≡ 0 → (carried s plan nodes).bad ≡ 0 → CarryClaims s plan nodes

-- ---- our own plan

-- the bytes that an accepted plan leaves, by the number of steps that it gives
abbrev pub plan_left : Session → List ℕ → List ℕ
plan_left s out = take (4 * (planned s out).steps) (out_planned s out)

-- of our own plan, from every session that is not refused
pub record PlanAccepted (s : Session) (out : List ℕ) : Type 0 where
  -- it is accepted
  pub accepted : plan_checked s (plan_left s out) ≡ record { refusal = 0; bad = 0; session = s }
  -- and carried out it is a run
  pub run_is : (nodes : List ℕ) → called s nodes (carry (plan_left s out)) ≡ called s nodes run

abbrev pub PlanAcceptedClaim : Type 0
PlanAcceptedClaim = (s : Session) (out : List ℕ) → (planned s out).refusal ≡ 0 → PlanAccepted s out
