-- The claims of specs/RepairClaims.antt on what is accepted, and on what a step leaves.
-- Assumes nothing.
use mathlib.Core.Path.{refl, ap, sym, ◌∙◌}
use mathlib.Core.Bool.{not}
use borrow.Author.Tests.{ltb-false, le-ltb, eqb-true, eq-eqb, not-false}
use Rattle.checks.proofs.AnswerLaws.{after_served, answer_served}
use Rattle.checks.proofs.Laws.{accepted, none_zero}
use Rattle.blocks.proofs.BlockLaws.{block_of_other}
use Rattle.blocks.proofs.PartLaws.{length-block_of}
use Rattle.blocks.proofs.XorBytes.{length-xor_bytes}
use Rattle.repair.specs.Answers.{Written, ReadOut, Repairs, PairsFound, PlanChecked}
use Rattle.repair.specs.Session.{nodes_checks}
use Rattle.repair.specs.Boxed.{refused_write, write_checks, written}
use Rattle.repair.specs.LiveNodes.{live_listed}
use Rattle.repair.specs.ReadOut.{read_out_checks, read_out_of}
use Rattle.repair.specs.Step.{step_checks, nodes_stepped}
use Rattle.repair.specs.Repairs.{refused_repairs, plan_checks, planned, ran}
use Rattle.repair.specs.Carry.{refused_plan, check_checks, plan_checked, carry_checks, carried}
use Rattle.repair.specs.RepairClaims.{StepKeepsClaim, AcceptsClaim}
use Rattle.repair.proofs.Refused.{refused_out}
use Rattle.repair.proofs.Accepted.{read_out_accepted, write_accepted, list_accepted, step_passed, plan_accepted, run_accepted, check_plan_accepted, carry_accepted}
use Rattle.repair.proofs.LiveListLaws.{accepted_list, live_listed_lem}
use Rattle.repair.proofs.PairsLaws.{pairs_accepted, pairs_given}
use Rattle.repair.proofs.StepLaws.{accepted_step, step_blocks}
use lib.ListN.{length}

pub accepts_claim : AcceptsClaim
unfolding planned ran written live_listed read_out_of plan_checked carried plan_checks write_checks read_out_checks check_checks carry_checks nodes_checks
accepts_claim s =
    record {
      plan = λ out. (
        (λ h. let n = accepted (plan_checks s out) refl (plan_accepted s out h) in (n.0, ltb-false _ _ n.1.0)),
        (λ p. ap (λ (r : Repairs). r.refusal) (answer_served (plan_checks s out) _ (refused_repairs s) (none_zero (plan_checks s out) (p.0, (le-ltb _ _ p.1, tt))))),
      );
      run = λ nodes. (
        (λ h. let n = accepted (nodes_checks s (length nodes)) refl (run_accepted s nodes h) in (n.0, eqb-true _ _ (not-false _ n.1.0))),
        (λ p. ap (λ (r : Repairs). r.refusal) (answer_served (nodes_checks s (length nodes)) _ (refused_repairs s) (none_zero (nodes_checks s (length nodes)) (p.0, (ap not (eq-eqb _ _ p.1), tt))))),
      );
      write = λ nodes list out. (
        (λ h.
            let n = accepted (write_checks s nodes list out) refl (write_accepted s nodes list out h) in
            let l = n.1.1 in
            ((n.0, eqb-true _ _ (not-false _ n.1.0)), l.0, not-false _ l.1.0, l.1.1.0, ltb-false _ _ l.1.1.1.0)),
        (λ p.
            ap (λ (r : Written). r.refusal)
            (answer_served (write_checks s nodes list out) _ (refused_write s)
            (none_zero (write_checks s nodes list out) (p.0.0, (ap not (eq-eqb _ _ p.0.1), (p.1, (ap not p.2, (p.3, (le-ltb _ _ p.4, tt))))))))),
      );
      live = λ out. (
        (λ h. let a = accepted_list s out (list_accepted s out h) in (a.sound, a.room)),
        (λ p. ap (λ (r : Written). r.refusal) (sym (live_listed_lem s out p.0 p.1).answer_is)),
      );
      pairs = λ j. (
        (λ h. let a = pairs_accepted s j h in (a.sound, a.node)),
        (λ p. ap (λ (r : PairsFound). r.refusal) (pairs_given s j p.0 p.1)),
      );
      read_out = λ nodes object. (
        (λ h.
            let n = accepted (read_out_checks s nodes object) refl (read_out_accepted s nodes object h) in
            let l = n.1.1 in
            ((n.0, eqb-true _ _ (not-false _ n.1.0)), eqb-true _ _ (not-false _ l.0), eqb-true _ _ (not-false _ l.1.0))),
        (λ p.
            ap (λ (r : ReadOut). r.refusal)
            (answer_served (read_out_checks s nodes object) _ (refused_out s)
            (none_zero (read_out_checks s nodes object) (p.0.0, (ap not (eq-eqb _ _ p.0.1), (ap not (eq-eqb _ _ p.1), (ap not (eq-eqb _ _ p.2), tt))))))),
      );
      check_plan = λ plan. (
        (λ h. let n = accepted (check_checks s plan) refl (check_plan_accepted s plan h) in (n.0, eqb-true _ _ (not-false _ n.1.0))),
        (λ p. ap (λ (r : PlanChecked). r.refusal) (answer_served (check_checks s plan) _ (refused_plan s) (none_zero (check_checks s plan) (p.0, (ap not (eq-eqb _ _ p.1), tt))))),
      );
      carry = λ plan nodes. (
        (λ h.
            let n = accepted (carry_checks s plan nodes) refl (carry_accepted s plan nodes h) in
            ((n.0, eqb-true _ _ (not-false _ n.1.0)), eqb-true _ _ (not-false _ n.1.1.0))),
        (λ p.
            ap (λ (r : PlanChecked). r.refusal)
            (answer_served (carry_checks s plan nodes) _ (refused_plan s) (none_zero (carry_checks s plan nodes) (p.0.0, (ap not (eq-eqb _ _ p.0.1), (ap not (eq-eqb _ _ p.1), tt)))))),
      );
    }

pub step_keeps : StepKeepsClaim
unfolding nodes_stepped
step_keeps s nodes j a b h i n differ =
    let e = step_passed s nodes j a b h in
    let w = step_blocks s nodes (record { round = 0; node = j; smaller = a; larger = b }) (accepted_step s nodes _ e) in
    let x = length-block_of w.smaller in
    rw (after_served (step_checks s nodes j a b) _ nodes e)
    (block_of_other s.len nodes j _ w.node (length-xor_bytes _ _ (x ∙ sym (length-block_of w.larger)) ∙ x) i n.first differ)
