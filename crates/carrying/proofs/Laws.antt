-- What the checks of a plan made elsewhere say, and what its check and its steps give.
-- Assumes nothing.
use mathlib.Core.Path.{◌≡◌, refl, sym, ap, ap₂, ◌∙◌}
use mathlib.Core.Bool.{true, false}
use mathlib.Core.List.{List, [], ◌∷◌}
use Prim.Native.Nat.{ℕ, zero, suc}
use native.Mathlib.Omega.{arith}
use lib.ListN.{length}
use Rattle.std.specs.Prelude.{Option, Ok, None, Some}
use Rattle.base.specs.Numbers.{numbered}
use Rattle.base.proofs.NumberLaws.{numbered_is, numbered_not}
use Rattle.families.specs.Families.{family_of}
use Rattle.families.specs.declared.Code.{Code}
use Rattle.checks.specs.Checks.{◌gives◌, first_met}
use Rattle.checks.specs.Refusals.{IsCodeOf}
use Rattle.checks.proofs.Laws.{none_append, some_append}
use Rattle.checks.proofs.AnswerLaws.{Gives, serves, refuses}
use Rattle.planning.specs.Plan.{Step, marks_after}
use Rattle.planning.specs.Made.{nodes_made}
use Rattle.validation.specs.declared.Validated.{Validated}
use Rattle.validation.specs.Inner.{validated_of}
use Rattle.validation.proofs.GoodLaws.{all_good_steps}
use Rattle.validation.proofs.AcceptedLaws.{accepted_are, accepted_none}
use Rattle.repair.specs.declared.Session.{Session}
use Rattle.repair.specs.Answers.{PlanChecked, bad_with}
use Rattle.repair.specs.Session.{unsound, nodes_checks}
use Rattle.repair.specs.Step.{after_steps}
use Rattle.repair.specs.Carry.{plan_steps, is_cut, bad_in, refused_plan, check_checks, plan_checked, carry_checks, steps_carried, carried, nodes_carried}
use Rattle.repair.proofs.StartLaws.{nodes_none}
use Rattle.repair.proofs.AfterLaws.{none_made}

bad_numbered : (n : ℕ) → bad_with (Ok (numbered n)) ≡ n
bad_numbered zero = refl
bad_numbered (suc n) = refl

-- what a check gives for a session's code is what it gives for the session
pub validated_in : (s : Session) (plan : List ℕ) (code : Code) {checked : Validated} → IsCodeOf s.family s.k code
    → checked ≡ validated_of code.family code.k s.live (plan_steps plan) → checked ≡ validated_of (family_of s.family) s.k s.live (plan_steps plan)
validated_in s plan code c e = e ∙ rw (c.family_is, c.k_is)

module _ (s : Session) (plan : List ℕ) where
  -- ---- a plan checked

  pub check_13 : unsound s ≡ true → refused_plan s 13 ≡ plan_checked s plan
  unfolding plan_checked check_checks first_met
  check_13 e = rw e

  pub check_6 : unsound s ≡ false → is_cut plan ≡ true → refused_plan s 6 ≡ plan_checked s plan
  unfolding plan_checked check_checks first_met
  check_6 e c = rw (e, c)

  pub check_made : unsound s ≡ false → is_cut plan ≡ false → record { refusal = 0; bad = bad_in s plan; session = s } ≡ plan_checked s plan
  unfolding plan_checked check_checks first_met
  check_made e c = rw (e, c)

  -- ---- a plan carried out

  module _ (nodes : List ℕ) where
    -- an answer, and the nodes buffer afterwards
    abbrev pub Carries : PlanChecked → List ℕ → Type 0
    Carries = Gives (carried s plan nodes) (nodes_carried s plan nodes)

    carry_refuses : (number : ℕ) → number ≡ first_met (carry_checks s plan nodes) → (number ≡ 0 → ⊥) → Carries (refused_plan s number) nodes
    unfolding carried nodes_carried
    carry_refuses = refuses (carry_checks s plan nodes) _ (refused_plan s) _ nodes

    pub carry_refused : (number : ℕ) → number ≡ first_met (nodes_checks s (length nodes)) → (number ≡ 0 → ⊥) → Carries (refused_plan s number) nodes
    unfolding carry_checks
    carry_refused number e n = carry_refuses number (e ∙ sym (some_append (nodes_checks s (length nodes)) _ (λ z. n (e ∙ z)))) n

    module _ (e : first_met (nodes_checks s (length nodes)) ≡ 0) where
      rest : first_met (carry_checks s plan nodes) ≡ first_met ((is_cut plan gives 6) ∷ [])
      unfolding carry_checks
      rest = none_append (nodes_checks s (length nodes)) ((is_cut plan gives 6) ∷ []) (nodes_none s (length nodes) e)

      pub carry_6 : is_cut plan ≡ true → Carries (refused_plan s 6) nodes
      unfolding first_met
      carry_6 c = carry_refuses 6 (sym (rest ∙ rw c)) (λ z. omega arith)

      module _ (c : is_cut plan ≡ false) where
        served : first_met (carry_checks s plan nodes) ≡ 0
        unfolding first_met
        served = rest ∙ rw c

        -- a bad step: nothing is made
        pub carry_bad : (bad_in s plan ≡ 0 → ⊥) → Carries (record { refusal = 0; bad = bad_in s plan; session = s }) nodes
        unfolding carried nodes_carried nodes_made
        carry_bad b =
            let none : steps_carried s plan ≡ [] = accepted_none (family_of s.family) s.k s.live (plan_steps plan) b in
            let g = serves (carry_checks s plan nodes) (record { refusal = 0; bad = bad_in s plan; session = after_steps s (steps_carried s plan) }) (refused_plan s) (nodes_made s.len nodes (steps_carried s plan)) nodes served in
            record {
              answer_is = ap (λ (t : Session). record { refusal = 0; bad = bad_in s plan; session = t }) (none_made s ∙ ap (after_steps s) (sym none)) ∙ g.answer_is;
              buffer_is = ap (nodes_made s.len nodes) (sym none) ∙ g.buffer_is;
            }

        -- no bad step: all are made
        pub carry_made : bad_in s plan ≡ 0 → Carries (record { refusal = 0; bad = 0; session = after_steps s (plan_steps plan) }) (nodes_made s.len nodes (plan_steps plan))
        unfolding carried nodes_carried
        carry_made b =
            let all : steps_carried s plan ≡ plan_steps plan = accepted_are (family_of s.family) s.k s.live (plan_steps plan) b in
            let g = serves (carry_checks s plan nodes) (record { refusal = 0; bad = bad_in s plan; session = after_steps s (steps_carried s plan) }) (refused_plan s) (nodes_made s.len nodes (steps_carried s plan)) nodes served in
            record {
              answer_is = ap₂ (λ (n : ℕ) (l : List Step). record { refusal = 0; bad = n; session = after_steps s l }) (sym b) (sym all) ∙ g.answer_is;
              buffer_is = ap (nodes_made s.len nodes) (sym all) ∙ g.buffer_is;
            }

  -- ---- the plan's steps, checked

  module _ (checked : Validated) (is : checked ≡ validated_of (family_of s.family) s.k s.live (plan_steps plan)) where
    -- the first bad step's number, where there is one
    pub checked_numbered : checked.bad ≡ numbered (bad_in s plan)
    checked_numbered = ap (λ (v : Validated). v.bad) is

    -- the same, as the answer has it
    pub checked_bad : bad_with (Ok checked.bad) ≡ bad_in s plan
    checked_bad = ap (λ (b : Option ℕ). bad_with (Ok b)) checked_numbered ∙ bad_numbered (bad_in s plan)

    pub checked_none : checked.bad ≡ None → bad_in s plan ≡ 0
    checked_none e = numbered_not (bad_in s plan) (sym e ∙ checked_numbered)

    pub checked_some : (step : ℕ) → checked.bad ≡ Some step → (step ≡ bad_in s plan) × (step ≡ 0 → ⊥)
    checked_some step e = numbered_is (bad_in s plan) (sym e ∙ checked_numbered)

    -- with none bad, the marks are those after all of them
    pub checked_live : bad_in s plan ≡ 0 → checked.live ≡ marks_after s.live (plan_steps plan)
    checked_live z =
        ap (λ (v : Validated). v.live) is
        ∙ ap (marks_after s.live) (all_good_steps (family_of s.family) s.k s.live [] (plan_steps plan) z)
