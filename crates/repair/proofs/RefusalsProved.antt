-- The claims of specs/Refusals.antt.
-- Assumes nothing.
use mathlib.Core.Path.{◌≡◌, refl}
use mathlib.Core.Bool.{true}
use mathlib.Core.List.{[]}
use Prim.Native.Nat.{ℕ}
use native.Mathlib.Omega.{arith}
use lib.ListN.{length}
use Rattle.base.proofs.Tests.{not_both}
use Rattle.checks.specs.Checks.{first_met}
use Rattle.checks.proofs.AnswerLaws.{after_refused, never_answered, refusal_is, refusal_keeps}
use Rattle.encoding.specs.Encode.{encode_checks, encode_answer, encoded}
use Rattle.boxes.specs.Box.{box_checks, body_checks, body_of}
use Rattle.repair.specs.Answers.{Started, Stepped, Repairs, Written, ReadOut, PairsFound, PlanChecked}
use Rattle.repair.specs.Session.{refused_start, start_checks, started, unsound, nodes_checks}
use Rattle.repair.specs.Boxed.{checked_box, read_checks, read_box, nodes_read, refused_write, write_checks, written, out_written}
use Rattle.repair.specs.LiveNodes.{live_checks, live_listed, out_listed}
use Rattle.repair.specs.ReadOut.{read_out_checks, read_out_of, object_out}
use Rattle.repair.specs.Step.{step_checks, stepped, nodes_stepped}
use Rattle.repair.specs.Pairs.{pairs_checks, refused_pairs, pairs_found}
use Rattle.repair.specs.Repairs.{refused_repairs, plan_checks, planned, out_planned, ran, nodes_ran}
use Rattle.repair.specs.Carry.{refused_plan, check_checks, plan_checked, carry_checks, carried, nodes_carried}
use Rattle.repair.specs.Refusals.{RefusalClaim, ThirteenClaim, NotThirteenClaim}
use Rattle.repair.proofs.Refused.{refused_step, refused_out}

pub refusal_claim : RefusalClaim
unfolding encoded encode_answer started checked_box read_box nodes_read body_of written out_written live_listed out_listed read_out_of object_out pairs_found stepped nodes_stepped planned out_planned ran nodes_ran plan_checked carried nodes_carried
refusal_claim =
    record {
      encode = λ family k L object nodes h. after_refused (encode_checks family k L (length object) (length nodes)) _ nodes h;
      start = λ family k L list h. refusal_is (start_checks family k L list) _ refused_start start_number (λ n. refl) refl h;
      check = λ bytes h. refusal_is (box_checks bytes) _ refused_start start_number (λ n. refl) refl h;
      read = λ bytes nodes h. refusal_keeps (read_checks bytes nodes) _ refused_start start_number (λ n. refl) refl h _ nodes;
      body = λ bytes j h. after_refused (body_checks bytes j) _ [] h;
      write = λ s nodes list out h.
          refusal_keeps (write_checks s nodes list out) _ (refused_write s) (λ (a : Written). a.refusal) (λ n. refl) refl h _ out;
      live = λ s out h. refusal_keeps (live_checks s out) _ (refused_write s) (λ (a : Written). a.refusal) (λ n. refl) refl h _ out;
      read_out = λ s nodes object h.
          refusal_keeps (read_out_checks s nodes object) _ (refused_out s) (λ (a : ReadOut). a.refusal) (λ n. refl) refl h _ object;
      pairs = λ s j h. refusal_is (pairs_checks s j) _ (refused_pairs s) (λ (a : PairsFound). a.refusal) (λ n. refl) refl h;
      step = λ s nodes j a b h.
          refusal_keeps (step_checks s nodes j a b) _ (refused_step s) (λ (a : Stepped). a.refusal) (λ n. refl) refl h _ nodes;
      plan = λ s out h. refusal_keeps (plan_checks s out) _ (refused_repairs s) repairs_number (λ n. refl) refl h _ out;
      run = λ s nodes h. refusal_keeps (nodes_checks s (length nodes)) _ (refused_repairs s) repairs_number (λ n. refl) refl h _ nodes;
      check_plan = λ s plan h. refusal_is (check_checks s plan) _ (refused_plan s) plan_number (λ n. refl) refl h;
      carry = λ s plan nodes h. refusal_keeps (carry_checks s plan nodes) _ (refused_plan s) plan_number (λ n. refl) refl h _ nodes;
    }
  where
    start_number : Started → ℕ
    start_number answer = answer.refusal

    repairs_number : Repairs → ℕ
    repairs_number answer = answer.refusal

    plan_number : PlanChecked → ℕ
    plan_number answer = answer.refusal

pub thirteen_claim : ThirteenClaim
unfolding nodes_checks first_met written live_listed read_out_of pairs_found stepped planned ran plan_checked carried write_checks live_checks read_out_checks pairs_checks step_checks plan_checks check_checks carry_checks
thirteen_claim s e =
    record { write = λ nodes list out. rw e; live = λ out. rw e; read_out = λ nodes object. rw e; pairs = λ j. rw e; step = λ nodes j a b. rw e; plan = λ out. rw e; run = λ nodes. rw e; check_plan = λ plan. rw e; carry = λ plan nodes. rw e }

-- 13 stands first, and no other check gives it
pub not_thirteen_claim : NotThirteenClaim
unfolding nodes_checks written live_listed read_out_of pairs_found stepped planned ran plan_checked carried write_checks live_checks read_out_checks pairs_checks step_checks plan_checks check_checks carry_checks
not_thirteen_claim s e =
    record {
      write = λ nodes list out.
          never_answered (write_checks s nodes list out) _ (refused_write s) (λ (a : Written). a.refusal) (λ n. refl) refl 13 some
          (passed, ((λ t n. omega arith), ((λ t n. omega arith), ((λ t n. omega arith), ((λ t n. omega arith), ((λ t n. omega arith), tt))))));
      live = λ out.
          never_answered (live_checks s out) _ (refused_write s) (λ (a : Written). a.refusal) (λ n. refl) refl 13 some (passed, ((λ t n. omega arith), tt));
      read_out = λ nodes object.
          never_answered (read_out_checks s nodes object) _ (refused_out s) (λ (a : ReadOut). a.refusal) (λ n. refl) refl 13 some
          (passed, ((λ t n. omega arith), ((λ t n. omega arith), ((λ t n. omega arith), tt))));
      pairs = λ j.
          never_answered (pairs_checks s j) _ (refused_pairs s) (λ (a : PairsFound). a.refusal) (λ n. refl) refl 13 some (passed, ((λ t n. omega arith), tt));
      step = λ nodes j a b.
          never_answered (step_checks s nodes j a b) _ (refused_step s) (λ (a : Stepped). a.refusal) (λ n. refl) refl 13 some
          (passed, ((λ t n. omega arith), ((λ t n. omega arith), ((λ t n. omega arith), ((λ t n. omega arith), ((λ t n. omega arith), tt))))));
      plan = λ out.
          never_answered (plan_checks s out) _ (refused_repairs s) (λ (a : Repairs). a.refusal) (λ n. refl) refl 13 some (passed, ((λ t n. omega arith), tt));
      run = λ nodes.
          never_answered (nodes_checks s (length nodes)) _ (refused_repairs s) (λ (a : Repairs). a.refusal) (λ n. refl) refl 13 some (passed, ((λ t n. omega arith), tt));
      check_plan = λ plan.
          never_answered (check_checks s plan) _ (refused_plan s) (λ (a : PlanChecked). a.refusal) (λ n. refl) refl 13 some (passed, ((λ t n. omega arith), tt));
      carry = λ plan nodes.
          never_answered (carry_checks s plan nodes) _ (refused_plan s) (λ (a : PlanChecked). a.refusal) (λ n. refl) refl 13 some
          (passed, ((λ t n. omega arith), ((λ t n. omega arith), tt)));
    }
  where
    some : ◌≡◌ {A = ℕ} 13 0 → ⊥
    some z = omega arith

    passed : unsound s ≡ true → ◌≡◌ {A = ℕ} 13 13 → ⊥
    passed t n = not_both (unsound s) t e
