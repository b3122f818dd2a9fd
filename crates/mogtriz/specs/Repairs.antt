-- What step, plan, run, the search for a pair and plans made elsewhere give C: what the session's own give for `session_of_c`, 13 for a byte above 1 with them, and a session for C.
-- A lent buffer holds what the own operation leaves.
use Rattle.std.specs.Prelude.{ℕ, cond, List, eqb}
use Rattle.repair.specs.declared.Session.{Session}
use Rattle.repair.specs.Answers.{Repairs}
use Rattle.repair.specs.Step.{stepped}
use Rattle.repair.specs.Repairs.{planned, ran}
use Rattle.repair.specs.Pairs.{pairs_found}
use Rattle.repair.specs.Carry.{plan_checked, carried}
use Rattle.mogtriz.specs.declared.sessions.MarkedSession.{MarkedSession}
use Rattle.mogtriz.specs.declared.repairs.StepAnswer.{StepAnswer}
use Rattle.mogtriz.specs.declared.repairs.RepairsAnswer.{RepairsAnswer}
use Rattle.mogtriz.specs.declared.repairs.PairsAnswer.{PairsAnswer}
use Rattle.mogtriz.specs.declared.repairs.PlanAnswer.{PlanAnswer}
use Rattle.mogtriz.specs.Sessions.{session_for_c, session_of_c}

-- accepted, the next session; refused, the session as handed in
unfoldable pub handed_back : MarkedSession → ℕ → Session → MarkedSession
handed_back s refusal next = cond (eqb refusal 0) (session_for_c next) s

-- what a step gives: node j from nodes a and b
unfoldable pub stepped_c : MarkedSession → List ℕ → ℕ → ℕ → ℕ → StepAnswer
stepped_c s nodes j a b = let own = stepped (session_of_c s) nodes j a b in record { refusal = own.refusal; session = handed_back s own.refusal own.session }

-- the numbers of a plan or run, with the session that C gets
abbrev pub repairs_c : Repairs → MarkedSession → RepairsAnswer
repairs_c own given =
    record { refusal = own.refusal; steps = own.steps; rounds = own.rounds; left = own.left; session = given }

-- what a plan gives: the session as handed in
unfoldable pub planned_c : MarkedSession → List ℕ → RepairsAnswer
planned_c s out = repairs_c (planned (session_of_c s) out) s

-- what a run gives: the plan's steps are made
unfoldable pub ran_c : MarkedSession → List ℕ → RepairsAnswer
ran_c s nodes = let own = ran (session_of_c s) nodes in repairs_c own (handed_back s own.refusal own.session)

-- what the search for a pair of node j gives: the session as handed in
unfoldable pub pairs_found_c : MarkedSession → ℕ → PairsAnswer
pairs_found_c s j =
    let own = pairs_found (session_of_c s) j in
    record { refusal = own.refusal; smaller = own.smaller; larger = own.larger; count = own.count; session = s }

-- what the check of a plan made elsewhere gives: the session as handed in
unfoldable pub plan_checked_c : MarkedSession → List ℕ → PlanAnswer
plan_checked_c s plan = let own = plan_checked (session_of_c s) plan in record { refusal = own.refusal; bad = own.bad; session = s }

-- what such a plan carried out gives: its steps are made where none is bad
unfoldable pub carried_c : MarkedSession → List ℕ → List ℕ → PlanAnswer
carried_c s plan nodes =
    let own = carried (session_of_c s) plan nodes in
    record { refusal = own.refusal; bad = own.bad; session = handed_back s own.refusal own.session }
