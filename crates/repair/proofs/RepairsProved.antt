-- The claims of specs/RepairClaims.antt.
-- Assumes nothing.
use mathlib.Core.Path.{◌≡◌, refl, sym, ap, ◌∙◌, subst}
use mathlib.Core.Bool.{Bool, true, false}
use mathlib.Core.List.{List}
use Prim.Native.Nat.{ℕ, ◌*◌, ◌≤◌}
use native.Mathlib.Omega.{arith}
use lib.ListN.{length, drop}
use Rattle.families.specs.Families.{family_of}
use Rattle.checks.specs.Checks.{first_met}
use Rattle.checks.proofs.AnswerLaws.{answer_either}
use Rattle.lists.specs.Lists.{is_live}
use Rattle.lists.proofs.Laws.{length-set_live}
use Rattle.pairing.specs.Pairs.{NoPairLeft}
use Rattle.planning.specs.Plan.{Step, repaired_nodes, marks_after, nodes_left}
use Rattle.planning.specs.Claims.{PlanRoundsClaims}
use Rattle.waves.specs.Waves.{RoundsAndWaves}
use Rattle.waves.proofs.Proved.{rounds_and_waves}
use Rattle.planning.proofs.CarryLaws.{steps_back}
use Rattle.planning.proofs.Proved.{plan_claim, plan_rounds_claim}
use Rattle.repair.specs.declared.Session.{Session}
use Rattle.repair.specs.Answers.{Repairs}
use Rattle.repair.specs.Session.{afresh, Arrays, node_count_of, unsound, nodes_checks}
use Rattle.repair.specs.Step.{after_steps, named_step, stepped}
use Rattle.repair.specs.Repairs.{plan_in, repairs_of, refused_repairs, plan_checks, planned, out_planned, ran}
use Rattle.repair.specs.Calls.{called, state_after}
use Rattle.repair.specs.WholeWay.{SameCode}
use Rattle.repair.specs.RepairClaims.{StepClaim, StaysClaim, LiveStaysClaim, PlanWritesClaim, RoundsClaims, RoundsClaim, RunClaims, RunClaim, OwnClaim}
use Rattle.repair.proofs.Accepted.{read_out_accepted, step_passed, plan_accepted, run_accepted}
use Rattle.repair.proofs.StartLaws.{known, nodes_0}
use Rattle.repair.proofs.StepLaws.{accepted_step, step_accepted}
use Rattle.repair.proofs.CallLaws.{ran_left}
use Rattle.repair.proofs.OwnLaws.{stays, keeps, run_known, session_ran, run_steps, run_keeps_left, run_keeps_live, quiet_answer, quiet_nodes, OwnState, own_moves, own_out}

pub step_claim : StepClaim
unfolding stepped
step_claim s nodes j a b = (
  (λ h. let w = accepted_step s nodes made (step_passed s nodes j a b h) in (w.buffer.sound, w.buffer.size, w.makes)),
  (λ p. rw (step_accepted s nodes made (record { buffer = record { sound = p.0; size = p.1 }; makes = p.2 }))),
)
  where
    made : Step
    made = named_step j a b

pub stays_claim : StaysClaim
stays_claim s arrays sound nodes move = stays s nodes move arrays sound

pub live_stays : LiveStaysClaim
live_stays s nodes move i l = keeps s nodes move i l

pub plan_writes : PlanWritesClaim
unfolding planned out_planned
plan_writes s out h = let e = plan_accepted s out h in rw e (steps_back (plan_in s) (drop (4 * length (plan_in s)) out))

module _ (s : Session) (marks : length s.live ≡ 256) where
  of_rounds : unsound s ≡ false → PlanRoundsClaims (family_of s.family) s.k s.live
  of_rounds sound = plan_rounds_claim (family_of s.family) s.k (known s sound).range.blocks s.live marks

  of_waves : unsound s ≡ false → RoundsAndWaves (family_of s.family) s.k s.live
  of_waves sound = rounds_and_waves (family_of s.family) s.k (known s sound).range.blocks s.live marks

  rounds_claims : (sound : Bool) → unsound s ≡ sound → RoundsClaims s
  unfolding planned ran plan_checks nodes_checks first_met
  rounds_claims true e =
      let none : 0 ≤ 0 = omega arith in
      record {
        each = of_rounds;
        plan = λ out h. rw (plan_accepted s out h);
        run = λ nodes h. rw (run_accepted s nodes h);
        waves = of_waves;
        plan_few = λ out. rw e none;
        run_few = λ nodes. rw e none;
      }
  rounds_claims false e =
      record {
        each = of_rounds;
        plan = λ out h. rw (plan_accepted s out h);
        run = λ nodes h. rw (run_accepted s nodes h);
        waves = of_waves;
        plan_few = λ out. answer_either (plan_checks s out) (repairs_of s s) (refused_repairs s) (λ (r : Repairs). r.rounds ≤ r.steps) (of_rounds e).few (λ n. omega arith);
        run_few = λ nodes.
            answer_either (nodes_checks s (length nodes)) (repairs_of s (after_steps s (plan_in s))) (refused_repairs s) (λ (r : Repairs). r.rounds ≤ r.steps) (of_rounds e).few (λ n. omega arith);
      }

pub rounds_claim : RoundsClaim
rounds_claim s marks = rounds_claims s marks (unsound s) refl

module _ (s : Session) (arrays : Arrays s) (nodes : List ℕ) (h : (ran s nodes).refusal ≡ 0) where
  abbrev passed : first_met (nodes_checks s (length nodes)) ≡ 0
  passed = run_accepted s nodes h

  ends : NoPairLeft (family_of s.family) s.k (is_live (ran s nodes).session.live)
  ends =
      subst (λ (after : Session). NoPairLeft (family_of s.family) s.k (is_live after.live)) (sym (session_ran s nodes passed))
      (plan_claim (family_of s.family) s.k (run_known s nodes passed).range.blocks s.live arrays.marks).ends

  run_claims : RunClaims s nodes
  run_claims =
      record {
        steps = run_steps s nodes passed arrays;
        ends = ends;
        left_kept = run_keeps_left s nodes passed arrays;
        live_kept = run_keeps_live s nodes passed arrays;
        again = λ next other same sound l.
            let is = ap afresh (session_ran s nodes passed) in
            let alike : afresh next ≡ afresh (after_steps s (plan_in s)) = same ∙ is in
            let code : SameCode s next = record { family = ap (λ (t : Session). t.family) alike; k = ap (λ (t : Session). t.k) alike; len = ap (λ (t : Session). t.len) alike } in
            let live : next.live ≡ marks_after s.live (plan_in s) = ap (λ (t : Session). t.live) alike in
            let marks : length next.live ≡ 256 = rw live (length-set_live s.live (repaired_nodes (plan_in s)) ∙ arrays.marks) in
            let again : first_met (nodes_checks next (length other)) ≡ 0 = nodes_0 next (length other) sound (rw (code.family, code.k, code.len) l) in
            let done : NoPairLeft (family_of next.family) next.k (is_live next.live) = rw (code.family, code.k, live) (rw (session_ran s nodes passed) at ends) in
            let left : (ran s nodes).left ≡ nodes_left next.live (node_count_of next) = rw (code.family, code.k, live) (ran_left s nodes h) in
            record { answer = quiet_answer next other again marks done ∙ rw left; nodes_are = quiet_nodes next other again marks done };
      }

pub run_claim : RunClaim
run_claim = run_claims

pub own_claim : OwnClaim
own_claim object s nodes arrays size live moves =
    let state = state_after called s nodes moves in
    let o : OwnState object state = own_moves object s nodes moves (record { arrays = arrays; size = size; live = live }) in
    record { live = o.live; out = λ result e. own_out object state.session state.nodes result o (read_out_accepted state.session state.nodes result e) }
