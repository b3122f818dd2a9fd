-- The session in an answer: what C gets for the session that it handed in, and what the session's own operations give for theirs.
-- Assumes nothing.
use mathlib.Core.Path.{◌≡◌, refl}
use mathlib.Core.Bool.{Bool, true, false, cond}
use mathlib.Core.List.{List}
use mathlib.Core.Logic.{◌⊎◌, inl, inr}
use Prim.Native.Nat.{ℕ}
use borrow.Author.Tests.{ne_eqb}
use lib.Dec.{eqb}
use lib.ListN.{length}
use Rattle.checks.proofs.AnswerLaws.{answer_either}
use Rattle.repair.specs.declared.Session.{Session}
use Rattle.repair.specs.Answers.{Stepped, Repairs, Written, ReadOut, PairsFound, PlanChecked}
use Rattle.repair.specs.Step.{step_checks, stepped}
use Rattle.repair.specs.Repairs.{refused_repairs, plan_checks, planned, ran}
use Rattle.repair.specs.Carry.{refused_plan, check_checks, plan_checked, carry_checks, carried}
use Rattle.repair.specs.Boxed.{refused_write, write_checks, written}
use Rattle.repair.specs.LiveNodes.{live_checks, live_listed}
use Rattle.repair.specs.ReadOut.{read_out_checks, read_out_of}
use Rattle.repair.specs.Pairs.{pairs_checks, refused_pairs, pairs_found}
use Rattle.repair.specs.Session.{nodes_checks}
use Rattle.mogtriz.specs.declared.sessions.MarkedSession.{MarkedSession}
use Rattle.mogtriz.specs.Sessions.{some_above1, session_for_c}
use Rattle.mogtriz.specs.Repairs.{handed_back, stepped_c, ran_c, carried_c}
use Rattle.repair.proofs.Refused.{refused_step, refused_out}
use Rattle.mogtriz.proofs.MarkLaws.{marks_low}

-- what holds of both answers holds of the one that a test chooses
pub either : {R : Type 0} (P : R → Type 0) {one other : R} (test : Bool) → P one → P other → P (cond test one other)
either P true y n = y
either P false y n = n

-- ---- from C

-- the session of an accepted answer has no byte above 1
abbrev Low : ℕ → MarkedSession → Type 0
Low refusal given = refusal ≡ 0 → some_above1 given.live ≡ false

module _ (s : MarkedSession) where
  handed_low : (refusal : ℕ) (next : Session) → Low refusal (handed_back s refusal next)
  unfolding handed_back
  handed_low refusal next e = rw e (marks_low next.live)

  pub step_low : (nodes : List ℕ) (j a b : ℕ) → Low (stepped_c s nodes j a b).refusal (stepped_c s nodes j a b).session
  unfolding stepped_c
  step_low nodes j a b = handed_low _ _

  pub run_low : (nodes : List ℕ) → Low (ran_c s nodes).refusal (ran_c s nodes).session
  unfolding ran_c
  run_low nodes = handed_low _ _

  pub carry_low : (plan nodes : List ℕ) → Low (carried_c s plan nodes).refusal (carried_c s plan nodes).session
  unfolding carried_c
  carry_low plan nodes = handed_low _ _

-- refused, the session that was handed in
pub kept_session : (s : MarkedSession) (refusal : ℕ) (next : Session) → (refusal ≡ 0 → ⊥) → handed_back s refusal next ≡ s
unfolding handed_back
kept_session s refusal next h = rw (ne_eqb refusal 0 h)

-- ---- the session's own operations

module _ (s : Session) where
  -- a step, a run or a plan carried out that is refused gives the session that it got
  pub step_done : (nodes : List ℕ) (j a b : ℕ) → ((stepped s nodes j a b).refusal ≡ 0) ⊎ ((stepped s nodes j a b).session ≡ s)
  unfolding stepped
  step_done nodes j a b = answer_either (step_checks s nodes j a b) _ (refused_step s) (λ (r : Stepped). (r.refusal ≡ 0) ⊎ (r.session ≡ s)) (inl refl) (λ n. inr refl)

  pub run_done : (nodes : List ℕ) → ((ran s nodes).refusal ≡ 0) ⊎ ((ran s nodes).session ≡ s)
  unfolding ran
  run_done nodes = answer_either (nodes_checks s (length nodes)) _ (refused_repairs s) (λ (r : Repairs). (r.refusal ≡ 0) ⊎ (r.session ≡ s)) (inl refl) (λ n. inr refl)

  pub carry_done : (plan nodes : List ℕ) → ((carried s plan nodes).refusal ≡ 0) ⊎ ((carried s plan nodes).session ≡ s)
  unfolding carried
  carry_done plan nodes = answer_either (carry_checks s plan nodes) _ (refused_plan s) (λ (r : PlanChecked). (r.refusal ≡ 0) ⊎ (r.session ≡ s)) (inl refl) (λ n. inr refl)

  -- so for C it does not matter which of the two is handed on
  pub handed_on : (next : Session) (refusal : ℕ) → (refusal ≡ 0) ⊎ (next ≡ s) → handed_back (session_for_c s) refusal next ≡ session_for_c next
  unfolding handed_back
  handed_on next refusal (inl e) = rw e
  handed_on next refusal (inr e) = rw e (either (λ (t : MarkedSession). t ≡ session_for_c s) (eqb refusal 0) refl refl)

  -- plan, write, live nodes, read out, pairs and the check of a plan give it always
  pub plan_kept : (out : List ℕ) → (planned s out).session ≡ s
  unfolding planned
  plan_kept out = answer_either (plan_checks s out) _ (refused_repairs s) (λ (r : Repairs). r.session ≡ s) refl (λ n. refl)

  pub write_kept : (nodes list out : List ℕ) → (written s nodes list out).session ≡ s
  unfolding written
  write_kept nodes list out = answer_either (write_checks s nodes list out) _ (refused_write s) (λ (r : Written). r.session ≡ s) refl (λ n. refl)

  pub live_kept : (out : List ℕ) → (live_listed s out).session ≡ s
  unfolding live_listed
  live_kept out = answer_either (live_checks s out) _ (refused_write s) (λ (r : Written). r.session ≡ s) refl (λ n. refl)

  pub read_out_kept : (nodes object : List ℕ) → (read_out_of s nodes object).session ≡ s
  unfolding read_out_of
  read_out_kept nodes object = answer_either (read_out_checks s nodes object) _ (refused_out s) (λ (r : ReadOut). r.session ≡ s) refl (λ n. refl)

  pub pairs_kept : (j : ℕ) → (pairs_found s j).session ≡ s
  unfolding pairs_found
  pairs_kept j = answer_either (pairs_checks s j) _ (refused_pairs s) (λ (r : PairsFound). r.session ≡ s) refl (λ n. refl)

  pub check_plan_kept : (plan : List ℕ) → (plan_checked s plan).session ≡ s
  unfolding plan_checked
  check_plan_kept plan = answer_either (check_checks s plan) _ (refused_plan s) (λ (r : PlanChecked). r.session ≡ s) refl (λ n. refl)
