-- Lists of C's calls: steps, runs and plans carried out, each getting the session that the one before gave back.
use Rattle.std.specs.Prelude.{ℕ, List}
use Rattle.repair.specs.Session.{started}
use Rattle.repair.specs.Step.{nodes_stepped}
use Rattle.repair.specs.Repairs.{nodes_ran}
use Rattle.repair.specs.Carry.{nodes_carried}
use Rattle.repair.specs.Calls.{Move, step, run, carry, State, Call, session_after_all}
use Rattle.mogtriz.specs.declared.sessions.MarkedSession.{MarkedSession}
use Rattle.mogtriz.specs.Sessions.{session_of_c, started_c}
use Rattle.mogtriz.specs.Repairs.{stepped_c, ran_c, carried_c}

-- a call on a nodes buffer: the session in its answer, and the buffer after it
abbrev pub called_c : MarkedSession → List ℕ → Move → State MarkedSession
called_c s nodes (step j a b) = record { session = (stepped_c s nodes j a b).session; nodes = nodes_stepped (session_of_c s) nodes j a b }
called_c s nodes run = record { session = (ran_c s nodes).session; nodes = nodes_ran (session_of_c s) nodes }
called_c s nodes (carry plan) = record { session = (carried_c s plan nodes).session; nodes = nodes_carried (session_of_c s) plan nodes }

-- the session after a start and a list of calls
abbrev pub last_session_c : ℕ → ℕ → ℕ → List ℕ → List Call → MarkedSession
last_session_c family k L list calls = session_after_all called_c (started_c (started family k L list)).session calls
