-- A plan made elsewhere (document 02, K10): checked for a session, and carried out on a nodes buffer.
use Rattle.std.specs.Prelude.{ℕ, ◌/◌, ◌%◌, Bool, not, List, [], ◌∷◌, ◌++◌, length, eqb}
use Rattle.families.specs.Families.{family_of}
use Rattle.checks.specs.Checks.{Check, ◌gives◌, answer, afterwards}
use Rattle.planning.specs.Plan.{Step}
use Rattle.planning.specs.Made.{steps_in, nodes_made}
use Rattle.validation.specs.Good.{first_bad, accepted_steps}
use Rattle.repair.specs.declared.Session.{Session}
use Rattle.repair.specs.Answers.{PlanChecked}
use Rattle.repair.specs.Session.{unsound, nodes_checks}
use Rattle.repair.specs.Step.{after_steps}

-- the steps of a plan, four bytes each
abbrev pub plan_steps : List ℕ → List Step
plan_steps plan = steps_in plan (length plan / 4)

-- a plan's length is no multiple of four
abbrev pub is_cut : List ℕ → Bool
is_cut plan = not (eqb (length plan % 4) 0)

-- the number of a plan's first bad step for a session, from 1; 0 where it is accepted
abbrev pub bad_in : Session → List ℕ → ℕ
bad_in s plan = first_bad (family_of s.family) s.k s.live (plan_steps plan)

-- a refusal: its number and 0, the session as handed in
abbrev pub refused_plan : Session → ℕ → PlanChecked
refused_plan s number = record { refusal = number; bad = 0; session = s }

-- Check of a plan: 13, then 6
unfoldable pub check_checks : Session → List ℕ → List Check
check_checks s plan = (unsound s gives 13) ∷ (is_cut plan gives 6) ∷ []

-- what it gives: the number of the first bad step. The session stays
unfoldable pub plan_checked : Session → List ℕ → PlanChecked
plan_checked s plan = answer (check_checks s plan) (record { refusal = 0; bad = bad_in s plan; session = s }) (refused_plan s)

-- Carry a plan: 13, 6 for the nodes, 6 for the plan's length
unfoldable pub carry_checks : Session → List ℕ → List ℕ → List Check
carry_checks s plan nodes = nodes_checks s (length nodes) ++ ((is_cut plan gives 6) ∷ [])

-- the steps that are made: those of the plan where it is accepted, and none where one of them is bad
abbrev pub steps_carried : Session → List ℕ → List Step
steps_carried s plan = accepted_steps (family_of s.family) s.k s.live (plan_steps plan)

-- what it gives: the number of the first bad step, and the session once the steps are made
unfoldable pub carried : Session → List ℕ → List ℕ → PlanChecked
carried s plan nodes = answer (carry_checks s plan nodes) (record { refusal = 0; bad = bad_in s plan; session = after_steps s (steps_carried s plan) }) (refused_plan s)

-- the nodes buffer afterwards: the steps made
unfoldable pub nodes_carried : Session → List ℕ → List ℕ → List ℕ
nodes_carried s plan nodes = afterwards (carry_checks s plan nodes) (nodes_made s.len nodes (steps_carried s plan)) nodes
