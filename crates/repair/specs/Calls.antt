-- Lists of calls: steps, runs and plans carried out, each getting the session that the one before gave back.
use Rattle.std.specs.Prelude.{ℕ, List, [], ◌∷◌, ◌++◌, length}
use Rattle.families.specs.declared.Family.{Family}
use Rattle.families.specs.Families.{family_of}
use Rattle.checks.specs.Checks.{answer}
use Rattle.lists.specs.Lists.{none_live, set_live}
use Rattle.planning.specs.Plan.{Step, plan_of, repaired_nodes}
use Rattle.validation.specs.Good.{accepted_steps}
use Rattle.repair.specs.declared.Session.{Session}
use Rattle.repair.specs.Session.{started, nodes_checks}
use Rattle.repair.specs.Step.{step_checks, named_step, stepped, nodes_stepped}
use Rattle.repair.specs.Repairs.{ran, nodes_ran}
use Rattle.repair.specs.Carry.{plan_steps, carry_checks, carried, nodes_carried}

-- a step, with the node to repair and two others, a run, or a plan carried out; any numbers, and a plan of any bytes
pub data Move : Type 0 where
  step : ℕ → ℕ → ℕ → Move
  run : Move
  carry : List ℕ → Move

-- a step of a plan as a call
abbrev pub as_move : Step → Move
as_move made = step made.node made.smaller made.larger

-- a session, in the library's form or in C's, and its nodes buffer
pub record State (S : Type 0) : Type 0 where
  pub session : S
  pub nodes : List ℕ

-- a call on a nodes buffer, as the contracts have it: the session that it gives back, and the buffer after it
abbrev pub called : Session → List ℕ → Move → State Session
called s nodes (step j a b) = record { session = (stepped s nodes j a b).session; nodes = nodes_stepped s nodes j a b }
called s nodes run = record { session = (ran s nodes).session; nodes = nodes_ran s nodes }
called s nodes (carry plan) = record { session = (carried s plan nodes).session; nodes = nodes_carried s plan nodes }

-- ---- each call with its own nodes buffer

-- a call, with the nodes buffer lent to it, of whatever length and content
pub record Call : Type 0 where
  pub nodes : List ℕ
  pub move : Move

-- the session after a list of calls; `one` says what one call gives back and leaves, as `called` does
unfoldable pub session_after_all : {S : Type 0} → (S → List ℕ → Move → State S) → S → List Call → S
session_after_all one s [] = s
session_after_all one s (call ∷ calls) = session_after_all one (one s call.nodes call.move).session calls

-- the steps that a call makes, where `live` are the nodes live before it: none where it is turned away with the session that it gets,
-- else the step that it names, those of our plan, or those of a plan that is accepted
abbrev pub made_by : Family → ℕ → Session → List ℕ → List ℕ → Move → List Step
made_by f k s live nodes (step j a b) = answer (step_checks s nodes j a b) (named_step j a b ∷ []) (λ number. [])
made_by f k s live nodes run = answer (nodes_checks s (length nodes)) (plan_of f k (set_live none_live live)) (λ number. [])
made_by f k s live nodes (carry plan) = answer (carry_checks s plan nodes) (accepted_steps f k (set_live none_live live) (plan_steps plan)) (λ number. [])

-- the steps that a list of calls makes: those of the first, and then those of the others, which get the session that it gives back
unfoldable pub steps_made : Family → ℕ → Session → List ℕ → List Call → List Step
steps_made f k s live [] = []
steps_made f k s live (call ∷ calls) =
    let made = made_by f k s live call.nodes call.move in
    made ++ steps_made f k (called s call.nodes call.move).session (live ++ repaired_nodes made) calls

-- the steps made since a start, whose list are the nodes live at first
abbrev pub made_after : ℕ → ℕ → ℕ → List ℕ → List Call → List Step
made_after family k L list calls = steps_made (family_of family) k (started family k L list).session list calls

-- live after a list: the nodes of the start's list, and those that the steps made since repair
abbrev pub live_after : ℕ → ℕ → ℕ → List ℕ → List Call → List ℕ
live_after family k L list calls = list ++ repaired_nodes (made_after family k L list calls)

-- ---- one nodes buffer, handed from call to call

-- session and buffer after a list of calls, `one` likewise
unfoldable pub state_after : {S : Type 0} → (S → List ℕ → Move → State S) → S → List ℕ → List Move → State S
state_after one s nodes [] = record { session = s; nodes = nodes }
state_after one s nodes (move ∷ moves) = state_after one (one s nodes move).session (one s nodes move).nodes moves
