-- What is printed of an input, by its length and its checks, and the plan that is listed.
-- Assumes nothing.
use mathlib.Core.Path.{◌≡◌, refl, sym, ap, ◌∙◌}
use mathlib.Core.Bool.{false}
use mathlib.Core.List.{List, [], ◌++◌, append-nil}
use Prim.Native.Nat.{ℕ, ◌*◌, ◌/◌, ◌≤◌, ◌<◌}
use native.Mathlib.Decide.{ℕ_discrete, dec_lt}
use native.Mathlib.Omega.{arith}
use borrow.Author.Tests.{lt-ltb, le-ltb, eq-eqb, ne_eqb}
use lib.ListN.{length, take, drop, replicate, length-append, length-replicate}
use lib.Seq.{take_at}
use Rattle.std.specs.Prelude.{Result, Ok, Err, IsOk}
use Rattle.families.specs.Families.{family_of}
use Rattle.families.proofs.Laws.{few}
use Rattle.checks.specs.Refusals.{number_of, number_in}
use Rattle.checks.specs.declared.Refusal.{Refusal}
use Rattle.checks.proofs.RefusalLaws.{refused as not_served}
use Rattle.boxes.specs.Box.{family_in, k_in, block_length_in, names_in, node_count_in}
use Rattle.planning.specs.Plan.{step_bytes}
use Rattle.planning.specs.Made.{steps_in}
use Rattle.planning.proofs.RoundLaws.{length_bytes}
use Rattle.planning.proofs.CarryLaws.{steps_back}
use Rattle.repair.specs.declared.Session.{Session}
use Rattle.repair.specs.declared.Answer.{Answer}
use Rattle.repair.specs.declared.Totals.{Totals}
use Rattle.repair.specs.Answers.{Repairs, Started, started_as, repairs_as, totals_in}
use Rattle.repair.specs.Session.{unsound}
use Rattle.repair.specs.Boxed.{checked_box}
use Rattle.repair.specs.Repairs.{plan_in, repairs_of, planned, out_planned}
use Rattle.repair.proofs.StartLaws.{known}
use Rattle.repair.proofs.Proved.{box_start_claim}
use Rattle.repair.proofs.WholeWayProved.{fits_claim}
use Rattle.repair.proofs.RepairsLaws.{plan_few, plan_made}
use Rattle.listing.specs.Text.{refusal_line, too_long_line}
use Rattle.listing.specs.Listing.{answer_of}

-- ---- what a call gives

-- a call with no number is served
pub served : {A : Type 0} (result : Result A Refusal) → number_in result ≡ 0 → IsOk result
served (Ok value) h = refl
served (Err refusal) h = absurd (not_served refusal h)

pub started : (result : Result Session Refusal) → (started_as result).refusal ≡ 0 → IsOk result
started (Ok s) h = refl
started (Err refusal) h = absurd (not_served refusal h)

-- ---- an input that is turned away

-- a refusal's line has something on it
pub line_said : (number : ℕ) → length (refusal_line number) ≡ 0 → ⊥
unfolding refusal_line
line_said number e = omega (arith, simp length-append at e)

module _ (input text : List ℕ) where
  pub too_long : 65536 < length input → answer_of input text ≡ too_long_line
  unfolding answer_of
  too_long h = rw (lt-ltb 65536 (length input) h)

  module _ (h : length input ≤ 65536) where
    pub refused : ((checked_box input).refusal ≡ 0 → ⊥) → answer_of input text ≡ refusal_line (checked_box input).refusal
    unfolding answer_of
    refused n = rw (le-ltb 65536 (length input) h, ne_eqb (checked_box input).refusal 0 n)

    pub answered : (checked_box input).refusal ≡ 0 → answer_of input text ≡ text
    unfolding answer_of
    answered e = rw (le-ltb 65536 (length input) h, eq-eqb (checked_box input).refusal 0 e)

  some_line : length (answer_of input text) ≡ 0 → ((checked_box input).refusal ≡ 0 → ⊥) → length input ≤ 65536 → ⊥
  some_line e n h = line_said (checked_box input).refusal (ap length (sym (refused h n)) ∙ e)

-- the line of a refusal
pub refused_line : (input : List ℕ) → length input ≤ 65536 → (refusal : Refusal) → started_as (Err refusal) ≡ checked_box input → (number : ℕ) → number ≡ number_of refusal
    → answer_of input [] ≡ refusal_line number
refused_line input h refusal e number n =
    let same : number_of refusal ≡ (checked_box input).refusal = ap (λ (r : Started). r.refusal) e in
    refused input [] h (λ z. not_served refusal (same ∙ z)) ∙ rw (n, same)

module _ (input : List ℕ) where
  -- an input that is not turned away
  pub record Accepted : Type 0 where
    pub fits : length input ≤ 65536
    pub passes : (checked_box input).refusal ≡ 0

  pub accepted_input : length (answer_of input []) ≡ 0 → Accepted
  accepted_input e = go (dec_lt 65536 (length input)) (ℕ_discrete (checked_box input).refusal 0)
    where
      go : Dec (65536 < length input) → Dec ((checked_box input).refusal ≡ 0) → Accepted
      go (yes l) d = absurd (omega (arith, ap length (too_long input [] l)))
      go (no l) (yes p) = record { fits = omega arith; passes = p }
      go (no l) (no n) = absurd (some_line input [] e n (omega arith))

  -- what is printed of an input that is turned away does not hang on the text that is asked for
  pub turned : (text : List ℕ) → (length (answer_of input []) ≡ 0 → ⊥) → answer_of input text ≡ answer_of input []
  turned text h = go (dec_lt 65536 (length input)) (ℕ_discrete (checked_box input).refusal 0)
    where
      go : Dec (65536 < length input) → Dec ((checked_box input).refusal ≡ 0) → answer_of input text ≡ answer_of input []
      go (yes l) d = too_long input text l ∙ sym (too_long input [] l)
      go (no l) (yes p) = absurd (h (ap length (answered input [] (omega arith) p)))
      go (no l) (no n) = refused input text (omega arith) n ∙ sym (refused input [] (omega arith) n)

  -- the session of an accepted box is sound
  pub box_known : (checked_box input).refusal ≡ 0 → unsound (checked_box input).session ≡ false
  box_known passes =
      let from = (box_start_claim input passes).start in
      let accepted = ap (λ (r : Started). r.refusal) (sym from) ∙ passes in
      rw from (fits_claim.start (family_in input) (k_in input) (block_length_in input) (names_in input) (replicate (node_count_in input * block_length_in input) 0) accepted (length-replicate (node_count_in input * block_length_in input) 0)).sound

-- ---- the plan of an accepted box's session

-- what is drawn up into the bytes is the session's plan, of at most 255 steps
pub record Drawn (s : Session) (bytes : List ℕ) (totals : Totals) : Type 0 where
  pub steps : totals.steps ≡ (repairs_of s s).steps
  pub rounds : totals.rounds ≡ (repairs_of s s).rounds
  pub left : totals.left ≡ (repairs_of s s).left
  pub short : totals.steps ≤ 255
  -- the bytes of its steps, four a step
  pub count : length (take (4 * totals.steps) bytes) / 4 ≡ totals.steps
  pub steps_are : steps_in (take (4 * totals.steps) bytes) (length (take (4 * totals.steps) bytes) / 4) ≡ plan_in s

module _ (s : Session) (sound : unsound s ≡ false) (size : length s.live ≡ 256) where
  plan_short : length (plan_in s) ≤ 255
  plan_short =
      let range = (known s sound).range.blocks in
      omega (arith, plan_few (family_of s.family) s.k range s.live size, few (family_of s.family) s.k range)

  -- room for 255 steps is enough, so that the plan is not refused
  module _ (before : List ℕ) (room : length before ≡ 1020) (made : Answer Totals) (e : repairs_as made ≡ planned s before) where
    gives : repairs_as made ≡ repairs_of s s
    gives = e ∙ sym (plan_made s before sound (omega (arith, plan_short))).answer_is

    pub plan_served : IsOk made.result
    plan_served = served made.result (ap (λ (r : Repairs). r.refusal) gives)

    pub drawn : {bytes : List ℕ} {totals : Totals} → made.result ≡ Ok totals → bytes ≡ out_planned s before → Drawn s bytes totals
    drawn {bytes} {totals} h f =
        let plan = plan_in s in
        let is : totals ≡ totals_in made.result = sym (ap totals_in h) in
        let steps : totals.steps ≡ length plan = ap (λ (t : Totals). t.steps) is ∙ ap (λ (r : Repairs). r.steps) gives in
        let holds : bytes ≡ step_bytes plan ++ drop (4 * length plan) before = f ∙ sym (plan_made s before sound (omega (arith, plan_short))).buffer_is in
        let part : take (4 * totals.steps) bytes ≡ step_bytes plan = rw (holds, steps) (take_at (step_bytes plan) (drop (4 * length plan) before) (4 * length plan) (length_bytes plan)) in
        let count : length (take (4 * totals.steps) bytes) / 4 ≡ totals.steps = rw (part, length_bytes plan, steps) (omega arith) in
        record {
          steps = steps;
          rounds = ap (λ (t : Totals). t.rounds) is ∙ ap (λ (r : Repairs). r.rounds) gives;
          left = ap (λ (t : Totals). t.left) is ∙ ap (λ (r : Repairs). r.left) gives;
          short = rw steps plan_short;
          count = count;
          steps_are = rw (count, part, steps, ← append-nil (step_bytes plan)) (steps_back plan []);
        }
