-- A plan checked as far as step i: what the steps so far have come to, and what is still to come of the answer.
-- Assumes nothing.
use mathlib.Core.Path.{◌≡◌, refl, sym, ap, ap₂, ◌∙◌, subst}
use mathlib.Core.Bool.{Bool, true, false}
use mathlib.Core.List.{List, [], ◌∷◌, ◌++◌}
use Prim.Native.Nat.{ℕ, ◌+◌, ◌-◌, ◌*◌, ◌/◌, ◌≤◌, ◌<◌}
use native.Mathlib.Omega.{arith}
use Rattle.std.specs.Prelude.{Option, None, Some}
use lib.ListN.{length, get_or, take, drop, set, length-append, length-take, length-drop}
use lib.Seq.{get_or-take, get_or-drop}
use Rattle.base.specs.Numbers.{numbered}
use Rattle.base.proofs.NumberLaws.{numbered_next}
use Rattle.families.specs.declared.Family.{Family}
use Rattle.lists.specs.Lists.{set_live}
use Rattle.planning.specs.Plan.{Step, once, marks_after}
use Rattle.planning.specs.Made.{steps_in, step_of_bytes}
use Rattle.planning.proofs.CarryLaws.{steps_from, step_at, from_first, from_next, from_last}
use Rattle.validation.specs.Good.{is_good, bad_after, first_bad}
use Rattle.validation.specs.Inner.{good_by, free_in, good_steps, validated_of}
use Rattle.validation.proofs.GoodLaws.{after_good, after_bad}
use Rattle.validation.proofs.StandLaws.{Stands, stands_first, good_by_lem, stands_next}

-- how many steps a plan has
abbrev pub count : List ℕ → ℕ
count plan = length plan / 4

-- the four bytes of step i
abbrev part : List ℕ → ℕ → List ℕ
part plan i = take (4 * i + 4 - 4 * i) (drop (4 * i) plan)

part_step : (plan : List ℕ) (i : ℕ) → step_of_bytes (part plan i) ≡ step_at plan i
part_step plan i =
    let z : 4 * i + 0 ≡ 4 * i = omega arith in
    let at : (p : ℕ) → p < 4 → get_or (part plan i) p 0 ≡ get_or plan (4 * i + p) 0 = λ p l. get_or-take (4 * i + 4 - 4 * i) (drop (4 * i) plan) p 0 (omega arith) ∙ rw get_or-drop in
    rw (at 0 (omega arith), at 1 (omega arith), at 2 (omega arith), at 3 (omega arith), z)

pub part_length : (plan : List ℕ) (i : ℕ) → i < count plan → length (part plan i) ≡ 4
part_length plan i h = omega (arith, length-take (4 * i + 4 - 4 * i) (drop (4 * i) plan), length-drop (4 * i) plan)

-- the first i steps are good
pub record Checked (f : Family) (k : ℕ) (plan : List ℕ) (marks live free : List Bool) (last i : ℕ) : Type 0 where
  pub within : i ≤ count plan
  pub earlier : List Step
  pub number : i ≡ length earlier
  pub stands : Stands marks earlier last live free
  pub bad : first_bad f k marks (steps_in plan (count plan)) ≡ bad_after f k marks earlier (steps_from plan (count plan) i)
  pub made : marks_after marks (good_steps f k marks [] (steps_in plan (count plan))) ≡ marks_after live (good_steps f k marks earlier (steps_from plan (count plan) i))

module _ {f : Family} {k : ℕ} {plan : List ℕ} {marks : List Bool} where
  pub check_none : Checked f k plan marks marks marks 0 0
  check_none =
      let e = from_first plan (count plan) in
      record { within = omega arith; earlier = []; number = refl; stands = stands_first marks; bad = rw e; made = rw e }

  module _ {live free : List Bool} {last i : ℕ} (w : Checked f k plan marks live free last i) where
    -- step i
    abbrev step : Step
    step = step_at plan i

    -- the answer where the plan is at its end
    pub check_done : count plan ≤ i → record { bad = None; live = live } ≡ validated_of f k marks (steps_in plan (count plan))
    unfolding bad_after good_steps set_live
    check_done h =
        let e = from_last plan (count plan) i h in
        ap₂ (λ (b : ℕ) (l : List Bool). record { bad = numbered b; live = l })
        (sym (w.bad ∙ ap (bad_after f k marks w.earlier) e))
        (sym (w.made ∙ ap (λ (s : List Step). marks_after live (good_steps f k marks w.earlier s)) e))

    module _ (h : i < count plan) where
      abbrev rest : List Step
      rest = steps_from plan (count plan) (i + 1)

      -- whether it is good
      good_is : is_good f k marks w.earlier step ≡ good_by f k last live (free_in last step.round live free) step
      good_is = good_by_lem marks w.earlier last live free w.stands f k step

      -- the round is entered, and the step asked by its bytes
      module _ (round : ℕ) (entered : List Bool) (r : round ≡ (step_of_bytes (part plan i)).round) (g : entered ≡ free_in last round live free) where
        round_is : round ≡ step.round
        round_is = r ∙ ap (λ (s : Step). s.round) (part_step plan i)

        asked : good_by f k last live (free_in last step.round live free) step ≡ good_by f k last live entered (step_of_bytes (part plan i))
        asked = rw (g, round_is, part_step plan i)

        -- the answer where it is bad
        pub check_bad : good_by f k last live entered (step_of_bytes (part plan i)) ≡ false → record { bad = Some (i + 1); live = live } ≡ validated_of f k marks (steps_in plan (count plan))
        unfolding good_steps set_live
        check_bad b =
            let e = from_next plan (count plan) i h in
            let not-Good = good_is ∙ asked ∙ b in
            ap (λ (b : Option ℕ). record { bad = b; live = live }) (numbered_next i)
            ∙ ap₂ (λ (n : ℕ) (l : List Bool). record { bad = numbered n; live = l })
            (sym (w.bad ∙ ap (bad_after f k marks w.earlier) e ∙ after_bad f k marks w.earlier step rest not-Good ∙ omega (arith, w.number)))
            (sym (w.made ∙ ap (λ (s : List Step). marks_after live (good_steps f k marks w.earlier s)) e ∙ rw not-Good))

        -- and one more is good
        pub check_more : good_by f k last live entered (step_of_bytes (part plan i)) ≡ true
            → Checked f k plan marks (set live (step_of_bytes (part plan i)).node true) (once entered (step_of_bytes (part plan i))) round (i + 1)
        unfolding good_steps set_live
        check_more b =
            let e = from_next plan (count plan) i h in
            let by = asked ∙ b in
            let is_good_lem = good_is ∙ by in
            subst (λ (x : Step). Checked f k plan marks (set live x.node true) (once entered x) round (i + 1)) (sym (part_step plan i))
            (rw (g, round_is)
            (record {
              within = omega arith;
              earlier = w.earlier ++ step ∷ [];
              number = omega (arith, w.number, length-append w.earlier (step ∷ []));
              stands = stands_next marks w.earlier last live free w.stands f k step by;
              bad = w.bad ∙ ap (bad_after f k marks w.earlier) e ∙ after_good f k marks w.earlier step rest is_good_lem;
              made = w.made ∙ ap (λ (s : List Step). marks_after live (good_steps f k marks w.earlier s)) e ∙ rw is_good_lem;
            }))
