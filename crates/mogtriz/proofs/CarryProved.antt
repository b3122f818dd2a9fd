-- The claims of specs/Claims.antt about plans made elsewhere.
-- Assumes nothing.
use mathlib.Core.Path.{◌≡◌, refl, sym, ap, ◌∙◌, subst}
use mathlib.Core.Bool.{Bool, true, false, false≢true}
use mathlib.Core.List.{List, Memᴰ, [], ◌∷◌, map}
use mathlib.Core.Logic.{◌⊎◌, inl, inr, ◌↔◌}
use Prim.Native.Nat.{ℕ}
use native.Mathlib.Omega.{arith}
use lib.ListN.{get_or, length-map}
use Rattle.lists.specs.Lists.{is_live}
use Rattle.planning.specs.Plan.{Step, repaired_nodes}
use Rattle.repair.specs.declared.Session.{Session}
use Rattle.repair.specs.Answers.{PlanChecked}
use Rattle.repair.specs.Session.{Arrays}
use Rattle.repair.specs.Step.{stepped, nodes_stepped}
use Rattle.repair.specs.Carry.{plan_steps, bad_in, plan_checked, carried}
use Rattle.repair.specs.Calls.{run, carry, as_move}
use Rattle.repair.specs.CarryClaims.{AllAccepted, plan_left}
use Rattle.repair.proofs.CarryProved.{number_claim, bad_step_claim, carry_claim, plan_accepted_claim}
use Rattle.mogtriz.specs.declared.sessions.MarkedSession.{MarkedSession}
use Rattle.mogtriz.specs.declared.repairs.StepAnswer.{StepAnswer}
use Rattle.mogtriz.specs.declared.repairs.PlanAnswer.{PlanAnswer}
use Rattle.mogtriz.specs.Sessions.{byte_of, mark_of, some_above1, session_for_c, session_of_c}
use Rattle.mogtriz.specs.Repairs.{planned_c, plan_checked_c, carried_c}
use Rattle.mogtriz.specs.Calls.{called_c}
use Rattle.mogtriz.specs.Claims.{AllAcceptedC, CarriedC, PlansC, PlansCClaim, plan_left_c, OwnPlanCClaim}
use Rattle.mogtriz.proofs.MarkLaws.{byte_at}
use Rattle.mogtriz.proofs.Proved.{of_low, there_and_back, back_and_there, turned_away_claim, thirteen_c_claim, agree_claim}
use Rattle.mogtriz.proofs.CallLaws.{state_for_c, call_agrees, state_agrees}

-- ---- a session in C's form

all_agree : (s : Session) (nodes : List ℕ) (steps : List Step) → AllAccepted s nodes steps → AllAcceptedC (session_for_c s) nodes steps
all_agree s nodes [] a = tt
all_agree s nodes (x ∷ steps) a =
    let j = x.node in
    let c = (agree_claim s).step nodes j x.smaller x.larger in (
      ap (λ (r : StepAnswer). r.refusal) c ∙ a.0,
      rw (c, there_and_back s) (all_agree (stepped s nodes j x.smaller x.larger).session (nodes_stepped s nodes j x.smaller x.larger) steps a.1),
    )

-- a byte that is 1 is a live mark
byte_live : (marks : List Bool) (j : ℕ) → (get_or (map byte_of marks) j 0 ≡ 1) ↔ (is_live marks j ≡ true)
byte_live marks j = rw (byte_at marks j) (go (is_live marks j))
  where
    go : (b : Bool) → (byte_of b ≡ 1) ↔ (b ≡ true)
    go true = ((λ e. refl), (λ e. refl))
    go false = ((λ e. absurd (omega arith)), (λ e. absurd (false≢true e)))

module _ (s : Session) (arrays : Arrays s) (plan nodes : List ℕ) where
  abbrev own : PlanChecked
  own = carried s plan nodes

  carry_is : carried_c (session_for_c s) plan nodes ≡ record { refusal = own.refusal; bad = own.bad; session = session_for_c own.session }
  carry_is = (agree_claim s).carry plan nodes

  check_is : plan_checked_c (session_for_c s) plan ≡ record { refusal = (plan_checked s plan).refusal; bad = (plan_checked s plan).bad; session = session_for_c (plan_checked s plan).session }
  check_is = (agree_claim s).check_plan plan

  carried_out : own.refusal ≡ 0 → own.bad ≡ 0 → CarriedC (session_for_c s) plan nodes
  carried_out h z =
      let c = carry_claim s arrays plan nodes h z in
      record {
        accepted = all_agree s nodes (plan_steps plan) c.accepted;
        calls = state_agrees s nodes (map as_move (plan_steps plan)) ∙ ap state_for_c c.calls ∙ sym (call_agrees s nodes (carry plan));
        live = λ j.
            let after = byte_live own.session.live j in
            let before = byte_live s.live j in
            rw carry_is (
              (λ e. pick j before.1 ((c.live j).0 (after.0 e))),
              (λ e. after.1 ((c.live j).1 (pick j before.0 e))),
            );
        again = λ some. rw carry_is ((agree_claim own.session).check_plan plan ∙ rw (c.again some));
      }
    where
      pick : (j : ℕ) {A B : Type 0} → (A → B) → A ⊎ Memᴰ j (repaired_nodes (plan_steps plan)) → B ⊎ Memᴰ j (repaired_nodes (plan_steps plan))
      pick j to (inl a) = inl (to a)
      pick j to (inr m) = inr m

  plans_agree : PlansC (session_for_c s) plan nodes
  plans_agree =
      record {
        served = λ size h. rw carry_is ((number_claim s plan).served nodes size (rw check_is at h));
        same = λ h. check_is ∙ rw (carry_is, (number_claim s plan).same nodes (rw carry_is at h));
        bad = λ some.
            let r = bad_step_claim s plan nodes (rw carry_is at some) in
            let same-bad : own.bad ≡ (carried_c (session_for_c s) plan nodes).bad = sym (ap (λ (a : PlanAnswer). a.bad) carry_is) in
            let step : bad_in s plan ≡ (carried_c (session_for_c s) plan nodes).bad = sym (ap (λ (a : PlanChecked). a.bad) r.0) ∙ same-bad in (
              carry_is
                  ∙ ap (λ (a : PlanChecked). record { refusal = a.refusal; bad = a.bad; session = session_for_c a.session }) r.0
                  ∙ ap (λ (b : ℕ). record { refusal = 0; bad = b; session = session_for_c s }) step,
              rw (there_and_back s) r.1,
            );
        good = λ h z. carried_out (rw carry_is at h) (rw carry_is at z);
      }

-- ---- any session of C

pub plans_c_claim : PlansCClaim
plans_c_claim s marks counts plan nodes = go (some_above1 s.live) refl
  where
    go : (above : Bool) → some_above1 s.live ≡ above → PlansC s plan nodes
    go true e =
        let due = (thirteen_c_claim s (inl e)).carry plan nodes in
        let away = ((turned_away_claim s).carry plan nodes (λ z. omega (arith, due, z))).0 in
        record {
          served = λ size h. absurd (omega (arith, (thirteen_c_claim s (inl e)).check_plan plan, h));
          same = λ h. absurd (omega (arith, due, h));
          bad = λ some. absurd (some (ap (λ (r : PlanAnswer). r.bad) away));
          good = λ h z. absurd (omega (arith, due, h));
        }
    go false e =
        let n : Arrays (session_of_c s) = rw (of_low s e) (record { marks = length-map s.live mark_of ∙ marks; counts = counts }) in
        subst (λ (t : MarkedSession). PlansC t plan nodes) (back_and_there s e) (plans_agree (session_of_c s) n plan nodes)

own_agrees : (s : Session) (out : List ℕ) → (planned_c (session_for_c s) out).refusal ≡ 0
    → (plan_checked_c (session_for_c s) (plan_left_c (session_for_c s) out) ≡ record { refusal = 0; bad = 0; session = session_for_c s })
    × ((nodes : List ℕ) → called_c (session_for_c s) nodes (carry (plan_left_c (session_for_c s) out)) ≡ called_c (session_for_c s) nodes run)
own_agrees s out h =
    let p = (agree_claim s).plan out in
    let c = plan_accepted_claim s out (rw p at h) in
    let left : plan_left_c (session_for_c s) out ≡ plan_left s out = rw (p, there_and_back s) in (
      ap (plan_checked_c (session_for_c s)) left ∙ (agree_claim s).check_plan (plan_left s out) ∙ rw c.accepted,
      (λ nodes. ap (λ (plan : List ℕ). called_c (session_for_c s) nodes (carry plan)) left ∙ call_agrees s nodes (carry (plan_left s out)) ∙ ap state_for_c (c.run_is nodes) ∙ sym (call_agrees s nodes run)),
    )

pub own_plan_c_claim : OwnPlanCClaim
own_plan_c_claim s out h = go (some_above1 s.live) refl
  where
    go : (above : Bool) → some_above1 s.live ≡ above
        → (plan_checked_c s (plan_left_c s out) ≡ record { refusal = 0; bad = 0; session = s }) × ((nodes : List ℕ) → called_c s nodes (carry (plan_left_c s out)) ≡ called_c s nodes run)
    go true e = absurd (omega (arith, (thirteen_c_claim s (inl e)).plan out, h))
    go false e =
        let is = back_and_there s e in
        subst (λ (t : MarkedSession). (plan_checked_c t (plan_left_c t out) ≡ record { refusal = 0; bad = 0; session = t }) × ((nodes : List ℕ) → called_c t nodes (carry (plan_left_c t out)) ≡ called_c t nodes run)) is
        (own_agrees (session_of_c s) out (subst (λ (t : MarkedSession). (planned_c t out).refusal ≡ 0) (sym is) h))
