-- The claims of specs/Claims.antt.
-- Assumes nothing.
use native.Mathlib.Omega.{arith}
use mathlib.Core.List.{[]}
use Rattle.planning.specs.Plan.{times_read, steps_with}
use Rattle.validation.specs.Claims.{CheckClaim, AcceptedClaim, OwnPlanClaim, AgainClaim}
use Rattle.validation.proofs.GoodLaws.{none_bad, bad_none, first_bad, bad_first, number_most}
use Rattle.validation.proofs.StandLaws.{stands_first, by_none, by_make}
use Rattle.validation.proofs.AcceptedLaws.{by_order, by_some, read_live, read_once, again}
use Rattle.validation.proofs.OwnLaws.{own_good}

pub check_claim : CheckClaim
check_claim f k marks plan =
    record {
      accepted = ((λ e. none_bad f k marks [] plan e), (λ g. bad_none f k marks [] plan g));
      number = λ i l. ((λ e. first_bad f k marks plan i l e), (λ b. bad_first f k marks plan i b));
      most = omega (arith, number_most f k marks [] plan);
    }

pub accepted_claim : AcceptedClaim
unfolding times_read steps_with
accepted_claim f k marks plan e =
    let w = stands_first marks in
    let a = by_none f k marks plan [] 0 marks marks w e in
    record {
      makes = by_make f k marks plan [] 0 marks marks w a;
      order = by_order f k marks plan [] 0 marks marks w a;
      some = λ r l h. by_some f k marks plan [] 0 marks marks w a r l h;
      live = read_live f k marks plan (none_bad f k marks [] plan e);
      not_twice = λ r i. read_once f k marks r i plan [] e (omega arith);
    }

pub own_plan_claim : OwnPlanClaim
own_plan_claim f k range marks = own_good f k range marks

pub again_claim : AgainClaim
again_claim f k range marks size = again f k marks range size
