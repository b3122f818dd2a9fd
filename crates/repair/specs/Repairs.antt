-- Plan and run (document 01, "The session"): the plan of a session, listed, and carried out on a nodes buffer.
use Rattle.std.specs.Prelude.{ℕ, ◌*◌, List, [], ◌∷◌, ◌++◌, length, drop, ltb}
use Rattle.families.specs.Families.{family_of}
use Rattle.checks.specs.Checks.{Check, ◌gives◌, answer, afterwards}
use Rattle.planning.specs.Plan.{Step, plan_of, marks_after, step_bytes, last_round, nodes_left}
use Rattle.planning.specs.Made.{nodes_made}
use Rattle.repair.specs.declared.Session.{Session}
use Rattle.repair.specs.Answers.{Repairs}
use Rattle.repair.specs.Session.{node_count_of, unsound, nodes_checks}
use Rattle.repair.specs.Step.{after_steps}

-- the plan of a session
abbrev pub plan_in : Session → List Step
plan_in s = plan_of (family_of s.family) s.k s.live

-- steps and rounds of a session's plan, its nodes left, which are those missing once the steps are made, and the session handed back
abbrev pub repairs_of : Session → Session → Repairs
repairs_of s next =
    let plan = plan_in s in record { refusal = 0; steps = length plan; rounds = last_round plan; left = nodes_left (marks_after s.live plan) (node_count_of s); session = next }

-- a refusal: its number and zeros, the session as handed in
abbrev pub refused_repairs : Session → ℕ → Repairs
refused_repairs s number = record { refusal = number; steps = 0; rounds = 0; left = 0; session = s }

-- Plan: 13, then 6 for a destination under four bytes a step
unfoldable pub plan_checks : Session → List ℕ → List Check
plan_checks s out = (unsound s gives 13) ∷ (ltb (length out) (4 * length (plan_in s)) gives 6) ∷ []

-- what a plan gives: the session stays
unfoldable pub planned : Session → List ℕ → Repairs
planned s out = answer (plan_checks s out) (repairs_of s s) (refused_repairs s)

-- the destination afterwards: four bytes a step; beyond them it is not written
unfoldable pub out_planned : Session → List ℕ → List ℕ
out_planned s out = afterwards (plan_checks s out) (step_bytes (plan_in s) ++ drop (4 * length (plan_in s)) out) out

-- what a run gives (Run: 13, 6): the next session is the one once all steps of the plan are made
unfoldable pub ran : Session → List ℕ → Repairs
ran s nodes = answer (nodes_checks s (length nodes)) (repairs_of s (after_steps s (plan_in s))) (refused_repairs s)

-- the nodes buffer afterwards: the plan's steps made; places of nodes left keep their bytes
unfoldable pub nodes_ran : Session → List ℕ → List ℕ
nodes_ran s nodes = afterwards (nodes_checks s (length nodes)) (nodes_made s.len nodes (plan_in s)) nodes
