-- An answer without a refusal: none of the call's checks was met.
-- Assumes nothing.
use mathlib.Core.Path.{◌≡◌, refl}
use mathlib.Core.List.{List}
use Prim.Native.Nat.{ℕ}
use Rattle.checks.specs.Checks.{first_met}
use Rattle.checks.proofs.AnswerLaws.{none_met}
use Rattle.boxes.specs.Box.{box_checks}
use Rattle.repair.specs.declared.Session.{Session}
use Rattle.repair.specs.Answers.{Started, Written, Stepped, Repairs, ReadOut, PlanChecked}
use Rattle.repair.specs.Session.{refused_start, start_checks, started, nodes_checks}
use Rattle.repair.specs.Boxed.{checked_box, read_checks, read_box, refused_write, write_checks, written}
use Rattle.repair.specs.LiveNodes.{live_checks, live_listed}
use Rattle.repair.specs.ReadOut.{read_out_checks, read_out_of}
use Rattle.repair.specs.Step.{step_checks, stepped}
use Rattle.repair.specs.Repairs.{refused_repairs, plan_checks, planned, ran}
use Rattle.repair.specs.Carry.{refused_plan, check_checks, plan_checked, carry_checks, carried}
use Rattle.repair.proofs.Refused.{refused_step, refused_out}
use lib.ListN.{length}

pub start_accepted : (family k L : ℕ) (list : List ℕ) → (started family k L list).refusal ≡ 0 → first_met (start_checks family k L list) ≡ 0
unfolding started
start_accepted family k L list h = none_met (start_checks family k L list) _ refused_start (λ (r : Started). r.refusal) (λ n. refl) h

pub check_accepted : (bytes : List ℕ) → (checked_box bytes).refusal ≡ 0 → first_met (box_checks bytes) ≡ 0
unfolding checked_box
check_accepted bytes h = none_met (box_checks bytes) _ refused_start (λ (r : Started). r.refusal) (λ n. refl) h

pub read_accepted : (bytes nodes : List ℕ) → (read_box bytes nodes).refusal ≡ 0 → first_met (read_checks bytes nodes) ≡ 0
unfolding read_box
read_accepted bytes nodes h = none_met (read_checks bytes nodes) _ refused_start (λ (r : Started). r.refusal) (λ n. refl) h

pub write_accepted : (s : Session) (nodes list out : List ℕ) → (written s nodes list out).refusal ≡ 0 → first_met (write_checks s nodes list out) ≡ 0
unfolding written
write_accepted s nodes list out h =
    none_met (write_checks s nodes list out) _ (refused_write s) (λ (r : Written). r.refusal) (λ n. refl) h

pub list_accepted : (s : Session) (out : List ℕ) → (live_listed s out).refusal ≡ 0 → first_met (live_checks s out) ≡ 0
unfolding live_listed
list_accepted s out h = none_met (live_checks s out) _ (refused_write s) (λ (r : Written). r.refusal) (λ n. refl) h

pub step_passed : (s : Session) (nodes : List ℕ) (j a b : ℕ) → (stepped s nodes j a b).refusal ≡ 0 → first_met (step_checks s nodes j a b) ≡ 0
unfolding stepped
step_passed s nodes j a b h =
    none_met (step_checks s nodes j a b) _ (refused_step s) (λ (r : Stepped). r.refusal) (λ n. refl) h

pub plan_accepted : (s : Session) (out : List ℕ) → (planned s out).refusal ≡ 0 → first_met (plan_checks s out) ≡ 0
unfolding planned
plan_accepted s out h = none_met (plan_checks s out) _ (refused_repairs s) (λ (r : Repairs). r.refusal) (λ n. refl) h

pub run_accepted : (s : Session) (nodes : List ℕ) → (ran s nodes).refusal ≡ 0 → first_met (nodes_checks s (length nodes)) ≡ 0
unfolding ran
run_accepted s nodes h = none_met (nodes_checks s (length nodes)) _ (refused_repairs s) (λ (r : Repairs). r.refusal) (λ n. refl) h

pub check_plan_accepted : (s : Session) (plan : List ℕ) → (plan_checked s plan).refusal ≡ 0 → first_met (check_checks s plan) ≡ 0
unfolding plan_checked
check_plan_accepted s plan h = none_met (check_checks s plan) _ (refused_plan s) (λ (r : PlanChecked). r.refusal) (λ n. refl) h

pub carry_accepted : (s : Session) (plan nodes : List ℕ) → (carried s plan nodes).refusal ≡ 0 → first_met (carry_checks s plan nodes) ≡ 0
unfolding carried
carry_accepted s plan nodes h = none_met (carry_checks s plan nodes) _ (refused_plan s) (λ (r : PlanChecked). r.refusal) (λ n. refl) h

pub read_out_accepted : (s : Session) (nodes object : List ℕ) → (read_out_of s nodes object).refusal ≡ 0 → first_met (read_out_checks s nodes object) ≡ 0
unfolding read_out_of
read_out_accepted s nodes object h =
    none_met (read_out_checks s nodes object) _ (refused_out s) (λ (r : ReadOut). r.refusal) (λ n. refl) h
