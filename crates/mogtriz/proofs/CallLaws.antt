-- Lists of C's calls: from a session in C's form they give the C form of what the session's own calls give, and with a byte above 1
-- nothing changes.
-- Assumes nothing.
use mathlib.Core.Path.{◌≡◌, refl, ap, ◌∙◌}
use mathlib.Core.Bool.{true}
use mathlib.Core.List.{List, [], ◌∷◌}
use mathlib.Core.Logic.{inl}
use Prim.Native.Nat.{ℕ}
use native.Mathlib.Omega.{arith}
use Rattle.repair.specs.declared.Session.{Session}
use Rattle.repair.specs.Session.{started}
use Rattle.repair.specs.Calls.{Move, step, run, carry, State, called, Call, session_after_all, state_after}
use Rattle.repair.specs.Refusals.{Refused}
use Rattle.repair.specs.LeftOver.{last_session}
use Rattle.mogtriz.specs.declared.sessions.MarkedSession.{MarkedSession}
use Rattle.mogtriz.specs.Sessions.{some_above1, session_for_c}
use Rattle.mogtriz.specs.Calls.{called_c, last_session_c}
use Rattle.mogtriz.specs.Claims.{ThirteenC}
use Rattle.mogtriz.proofs.Proved.{there_and_back, turned_away_claim, thirteen_c_claim, agree_claim}

-- ---- from a session in C's form

-- session and buffer of a session in C's form
abbrev pub state_for_c : State Session → State MarkedSession
state_for_c state = record { session = session_for_c state.session; nodes = state.nodes }

pub call_agrees : (s : Session) (nodes : List ℕ) (move : Move) → called_c (session_for_c s) nodes move ≡ state_for_c (called s nodes move)
call_agrees s nodes (step j a b) = rw ((agree_claim s).step nodes j a b, there_and_back s)
call_agrees s nodes run = rw ((agree_claim s).run nodes, there_and_back s)
call_agrees s nodes (carry plan) = rw ((agree_claim s).carry plan nodes, there_and_back s)

all_agree : (s : Session) (calls : List Call) → session_after_all called_c (session_for_c s) calls ≡ session_for_c (session_after_all called s calls)
unfolding session_after_all
all_agree s [] = refl
all_agree s (call ∷ calls) =
    ap (λ (t : State MarkedSession). session_after_all called_c t.session calls) (call_agrees s call.nodes call.move)
    ∙ all_agree (called s call.nodes call.move).session calls

pub last_agrees : (family k L : ℕ) (list : List ℕ) (calls : List Call) → last_session_c family k L list calls ≡ session_for_c (last_session family k L list calls)
last_agrees family k L list calls = all_agree (started family k L list).session calls

pub state_agrees : (s : Session) (nodes : List ℕ) (moves : List Move) → state_after called_c (session_for_c s) nodes moves ≡ state_for_c (state_after called s nodes moves)
unfolding state_after
state_agrees s nodes [] = refl
state_agrees s nodes (move ∷ moves) =
    ap (λ (t : State MarkedSession). state_after called_c t.session t.nodes moves) (call_agrees s nodes move)
    ∙ state_agrees (called s nodes move).session (called s nodes move).nodes moves

-- ---- with a byte above 1 every call is refused

module _ (s : MarkedSession) (above : some_above1 s.live ≡ true) where
  abbrev due : ThirteenC s
  due = thirteen_c_claim s (inl above)

  -- 13 is a refusal
  refused : (number : ℕ) → number ≡ 13 → Refused number
  refused number is e = omega arith

  call_stays : (nodes : List ℕ) (move : Move) → called_c s nodes move ≡ record { session = s; nodes = nodes }
  call_stays nodes (step j a b) = let stays = (turned_away_claim s).step nodes j a b (refused _ (due.step nodes j a b)) in rw (stays.0, stays.1)
  call_stays nodes run = let stays = (turned_away_claim s).run nodes (refused _ (due.run nodes)) in rw (stays.0, stays.1)
  call_stays nodes (carry plan) = let stays = (turned_away_claim s).carry plan nodes (refused _ (due.carry plan nodes)) in rw (stays.0, stays.1)

  pub state_stays : (nodes : List ℕ) (moves : List Move) → state_after called_c s nodes moves ≡ record { session = s; nodes = nodes }
  unfolding state_after
  state_stays nodes [] = refl
  state_stays nodes (move ∷ moves) =
      ap (λ (t : State MarkedSession). state_after called_c t.session t.nodes moves) (call_stays nodes move)
      ∙ state_stays nodes moves
