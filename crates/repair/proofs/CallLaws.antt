-- What calls make of a session: the session that a list of calls gives back is the one once the steps that they make are made, and
-- these can be made one after the other.
-- Assumes nothing.
use mathlib.Core.Path.{◌≡◌, refl, sym, ap, subst, ◌∙◌}
use mathlib.Core.Bool.{Bool, true, false, cond}
use mathlib.Core.List.{List, [], ◌∷◌, ◌++◌}
use Prim.Native.Nat.{ℕ, ◌<◌}
use borrow.Author.Tests.{eqb-true}
use lib.Dec.{eqb}
use lib.ListN.{length, get_or}
use Rattle.families.specs.declared.Family.{Family}
use Rattle.families.specs.Families.{family_of, KInRange, IsNode, node_count}
use Rattle.checks.specs.Checks.{first_met}
use Rattle.checks.specs.Claims.{InRange}
use Rattle.checks.proofs.AnswerLaws.{answer_served, call_either}
use Rattle.lists.specs.Lists.{none_live, set_live, some_outside}
use Rattle.lists.proofs.Laws.{length-set_live, outside_none}
use Rattle.lists.proofs.MarkLaws.{live_append}
use Rattle.planning.specs.Claims.{CanMakeAll}
use Rattle.planning.specs.Plan.{Step, plan_of, repaired_nodes, marks_after, nodes_left}
use Rattle.planning.proofs.MakeLaws.{can_make_append}
use Rattle.planning.proofs.Proved.{plan_claim}
use Rattle.validation.specs.Good.{accepted_steps}
use Rattle.validation.proofs.AcceptedLaws.{accepted_make}
use Rattle.repair.specs.declared.Session.{Session}
use Rattle.repair.specs.Answers.{Stepped, Repairs, PlanChecked}
use Rattle.repair.specs.Session.{session_of, start_checks, started, nodes_checks, node_count_of}
use Rattle.repair.specs.Step.{step_checks, after_steps, named_step, stepped}
use Rattle.repair.specs.Repairs.{plan_in, repairs_of, refused_repairs, plan_checks, planned, ran}
use Rattle.repair.specs.Carry.{plan_steps, refused_plan, carry_checks, steps_carried, carried}
use Rattle.repair.specs.Calls.{Move, step, run, carry, called, Call, session_after_all, made_by, steps_made}
use Rattle.repair.proofs.Refused.{refused_step}
use Rattle.repair.proofs.Accepted.{plan_accepted, run_accepted}
use Rattle.repair.proofs.AfterLaws.{none_made, after_append}
use Rattle.repair.proofs.StartLaws.{accepted_start_lem}
use Rattle.repair.proofs.StepLaws.{accepted_step}

-- ---- an accepted start

pub record FromStart (family k L : ℕ) (list : List ℕ) : Type 0 where
  pub in_range : InRange family k L
  pub outside : some_outside (node_count (family_of family) k) list ≡ false
  pub range : KInRange (family_of family) k
  pub nodes : (i : ℕ) → i < length list → IsNode (family_of family) k (get_or list i 0)
  pub session : (started family k L list).session ≡ session_of family k L list

pub from_start : (family k L : ℕ) (list : List ℕ) → first_met (start_checks family k L list) ≡ 0 → FromStart family k L list
unfolding started
from_start family k L list e =
    let a = accepted_start_lem family k L list e in
    record {
      in_range = a.range;
      outside = a.outside;
      range = a.range.blocks;
      nodes = λ i h. let o = outside_none (node_count (family_of family) k) list a.outside i h in record { first = o.0; last = o.1 };
      session = rw e;
    }

-- ---- an accepted plan or run

pub ran_left : (s : Session) (nodes : List ℕ) → (ran s nodes).refusal ≡ 0 → (ran s nodes).left ≡ nodes_left (marks_after s.live (plan_in s)) (node_count_of s)
unfolding ran
ran_left s nodes h = ap (λ (r : Repairs). r.left) (answer_served (nodes_checks s (length nodes)) (repairs_of s _) (refused_repairs s) (run_accepted s nodes h))

pub planned_left : (s : Session) (out : List ℕ) → (planned s out).refusal ≡ 0 → (planned s out).left ≡ nodes_left (marks_after s.live (plan_in s)) (node_count_of s)
unfolding planned
planned_left s out h = ap (λ (r : Repairs). r.left) (answer_served (plan_checks s out) (repairs_of s s) (refused_repairs s) (plan_accepted s out h))

-- ---- the session that calls give back, and the steps that they make

module _ (f : Family) (k : ℕ) where
  -- the session's family and k, and the nodes of a list live
  pub record Holds (s : Session) (live : List ℕ) : Type 0 where
    pub family : family_of s.family ≡ f
    pub blocks : s.k ≡ k
    pub marks : s.live ≡ set_live none_live live

  -- once steps are made
  holds_after : (s : Session) (live : List ℕ) → Holds s live → (made : List Step) → Holds (after_steps s made) (live ++ repaired_nodes made)
  holds_after s live h made =
      record {
        family = h.family;
        blocks = h.blocks;
        marks = ap (λ (marks : List Bool). set_live marks (repaired_nodes made)) h.marks ∙ sym (live_append none_live live (repaired_nodes made));
      }

  module _ (s : Session) (live : List ℕ) (h : Holds s live) (nodes : List ℕ) where
    plan_is : plan_in s ≡ plan_of f k (set_live none_live live)
    plan_is = rw (h.family, h.blocks, h.marks)

    carried_are : (plan : List ℕ) → steps_carried s plan ≡ accepted_steps f k (set_live none_live live) (plan_steps plan)
    carried_are plan = rw (h.family, h.blocks, h.marks)

    call_session : (move : Move) → (called s nodes move).session ≡ after_steps s (made_by f k s live nodes move)
    unfolding stepped ran carried
    call_session (step j a b) =
        call_either (step_checks s nodes j a b) _ (refused_step s) (named_step j a b ∷ []) []
        (λ (r : Stepped) (made : List Step). r.session ≡ after_steps s made) refl (λ n. none_made s)
    call_session run =
        call_either (nodes_checks s (length nodes)) _ (refused_repairs s) (plan_of f k (set_live none_live live)) []
        (λ (r : Repairs) (made : List Step). r.session ≡ after_steps s made) (ap (after_steps s) plan_is) (λ n. none_made s)
    call_session (carry plan) =
        call_either (carry_checks s plan nodes) _ (refused_plan s) (accepted_steps f k (set_live none_live live) (plan_steps plan)) []
        (λ (r : PlanChecked) (made : List Step). r.session ≡ after_steps s made) (ap (after_steps s) (carried_are plan)) (λ n. none_made s)

    call_holds : (move : Move) → Holds (called s nodes move).session (live ++ repaired_nodes (made_by f k s live nodes move))
    call_holds move =
        subst (λ (t : Session). Holds t (live ++ repaired_nodes (made_by f k s live nodes move))) (sym (call_session move)) (holds_after s live h (made_by f k s live nodes move))

    -- the steps can be made
    either_makes : (made : List Step) (b : Bool) → (b ≡ true → CanMakeAll f k s.live made) → CanMakeAll f k s.live (cond b made [])
    either_makes made true m = m refl
    either_makes made false m = tt

    call_makes : KInRange f k → (move : Move) → CanMakeAll f k s.live (made_by f k s live nodes move)
    call_makes range (step j a b) =
        let r : ℕ = first_met (step_checks s nodes j a b) in
        either_makes (named_step j a b ∷ []) (eqb r 0) (λ e. (rw (h.family, h.blocks) at (accepted_step s nodes (named_step j a b) (eqb-true r 0 e)).makes, tt))
    call_makes range run =
        either_makes (plan_of f k (set_live none_live live)) (eqb (first_met (nodes_checks s (length nodes))) 0)
        (λ e. rw h.marks (plan_claim f k range (set_live none_live live) (length-set_live none_live live)).makes)
    call_makes range (carry plan) =
        either_makes (accepted_steps f k (set_live none_live live) (plan_steps plan)) (eqb (first_met (carry_checks s plan nodes)) 0) (λ e. rw h.marks (accepted_make f k (set_live none_live live) (plan_steps plan)))

  pub calls_session : (calls : List Call) (s : Session) (live : List ℕ) → Holds s live → session_after_all called s calls ≡ after_steps s (steps_made f k s live calls)
  unfolding session_after_all steps_made
  calls_session [] s live h = none_made s
  calls_session (call ∷ calls) s live h =
      let made = made_by f k s live call.nodes call.move in
      let next = (called s call.nodes call.move).session in
      calls_session calls next (live ++ repaired_nodes made) (call_holds s live h call.nodes call.move)
      ∙ ap (λ (t : Session). after_steps t (steps_made f k next (live ++ repaired_nodes made) calls)) (call_session s live h call.nodes call.move)
      ∙ after_append s made (steps_made f k next (live ++ repaired_nodes made) calls)

  pub calls_make : KInRange f k → (calls : List Call) (s : Session) (live : List ℕ) → Holds s live → CanMakeAll f k s.live (steps_made f k s live calls)
  unfolding steps_made
  calls_make range [] s live h = tt
  calls_make range (call ∷ calls) s live h =
      let made = made_by f k s live call.nodes call.move in
      let next = (called s call.nodes call.move).session in
      can_make_append f k s.live made (steps_made f k next (live ++ repaired_nodes made) calls) (call_makes s live h call.nodes range call.move)
      (subst (λ (t : Session). CanMakeAll f k t.live (steps_made f k next (live ++ repaired_nodes made) calls)) (call_session s live h call.nodes call.move)
      (calls_make range calls next (live ++ repaired_nodes made) (call_holds s live h call.nodes call.move)))
