-- The claims of specs/CarryClaims.antt: plans made elsewhere.
-- Assumes nothing.
use mathlib.Core.Path.{◌≡◌, refl, sym, ap, ap₂, ◌∙◌, subst}
use mathlib.Core.Bool.{Bool, true, false}
use mathlib.Core.List.{List, Memᴰ, [], ◌∷◌, append-nil}
use mathlib.Core.Logic.{◌⊎◌, inl, inr}
use Prim.Native.Nat.{ℕ, ◌*◌, ◌/◌, ◌%◌, ◌+◌}
use native.Mathlib.Omega.{arith}
use borrow.Author.Tests.{eqb-true, eqb-false}
use lib.Dec.{eqb}
use lib.ListN.{length}
use lib.Seq.{take_at}
use Rattle.families.specs.Families.{family_of, KInRange}
use Rattle.families.proofs.Laws.{few}
use Rattle.blocks.specs.Blocks.{block_of}
use Rattle.checks.specs.Checks.{first_met}
use Rattle.checks.proofs.Laws.{some_append}
use Rattle.checks.proofs.AnswerLaws.{answer_served}
use Rattle.lists.specs.Lists.{is_live}
use Rattle.lists.proofs.MarkLaws.{live_keeps, live_listed_lem, listed_live}
use Rattle.counts.specs.Counts.{count_of}
use Rattle.planning.specs.Plan.{Step, repaired_nodes, step_bytes, marks_after, nodes_left}
use Rattle.planning.specs.Made.{steps_in, nodes_made}
use Rattle.planning.proofs.RoundLaws.{length_bytes}
use Rattle.planning.proofs.MakeLaws.{make_missing, make_counts}
use Rattle.planning.proofs.CarryLaws.{steps_back}
use Rattle.planning.proofs.Proved.{reads_claim}
use Rattle.validation.specs.Good.{bad_after, first_bad, accepted_steps}
use Rattle.validation.proofs.AcceptedLaws.{accepted_are, accepted_none}
use Rattle.validation.proofs.Proved.{check_claim, accepted_claim, own_plan_claim, again_claim}
use Rattle.repair.specs.declared.Session.{Session}
use Rattle.repair.specs.Answers.{PlanChecked}
use Rattle.repair.specs.Session.{Arrays, unsound, nodes_checks, node_count_of}
use Rattle.repair.specs.Step.{after_steps}
use Rattle.repair.specs.Repairs.{plan_in, planned, out_planned, ran, nodes_ran}
use Rattle.repair.specs.Carry.{plan_steps, bad_in, refused_plan, check_checks, plan_checked, carry_checks, steps_carried, carried, nodes_carried}
use Rattle.repair.specs.Calls.{run, carry, called, state_after}
use Rattle.repair.specs.CarryClaims.{NumberClaim, BadStepClaim, CarryClaims, CarryClaim, plan_left, PlanAccepted, PlanAcceptedClaim}
use Rattle.repair.proofs.Accepted.{check_plan_accepted, carry_accepted, plan_accepted}
use Rattle.repair.proofs.AcceptsProved.{accepts_claim}
use Rattle.repair.proofs.StartLaws.{known, sized}
use Rattle.repair.proofs.AfterLaws.{none_made}
use Rattle.repair.proofs.OwnLaws.{Makes, steps_state, steps_accepted, steps_keep, unlisted_apart, session_ran, nodes_ran_lem, session_carried, nodes_carried_lem, carry_makes, stays}
use Rattle.repair.proofs.RepairsProved.{own_claim}

-- ---- the number

module _ (s : Session) (plan : List ℕ) where
  -- a check that is accepted, by its parts
  check_is : unsound s ≡ false → length plan % 4 ≡ 0 → plan_checked s plan ≡ record { refusal = 0; bad = bad_in s plan; session = s }
  unfolding plan_checked
  check_is sound four = answer_served (check_checks s plan) _ (refused_plan s) (check_plan_accepted s plan (((accepts_claim s).check_plan plan).1 (sound, four)))

  bad_is : (nodes : List ℕ) → (carried s plan nodes).refusal ≡ 0 → (carried s plan nodes).bad ≡ bad_in s plan
  unfolding carried
  bad_is nodes h = rw (carry_accepted s plan nodes h)

module _ (s : Session) where
  nothing_made : (nodes : List ℕ) → (carried s [] nodes).refusal ≡ 0 → ((carried s [] nodes).session ≡ s) × (nodes_carried s [] nodes ≡ nodes)
  unfolding steps_in bad_after accepted_steps nodes_made
  nothing_made nodes h = let e = carry_accepted s [] nodes h in (session_carried s [] nodes e ∙ sym (none_made s), nodes_carried_lem s [] nodes e)

pub number_claim : NumberClaim
unfolding plan_checked steps_in bad_after
number_claim s plan =
    record {
      is = λ h. rw (check_plan_accepted s plan h);
      words = check_claim (family_of s.family) s.k s.live (plan_steps plan);
      served = λ nodes size h. let p = ((accepts_claim s).check_plan plan).0 h in ((accepts_claim s).carry plan nodes).1 ((p.0, size), p.1);
      same = λ nodes h.
          let p = ((accepts_claim s).carry plan nodes).0 h in
          check_is s plan p.0.0 p.1 ∙ ap (λ (b : ℕ). record { refusal = 0; bad = b; session = s }) (sym (bad_is s plan nodes h));
      empty = λ sound. check_is s [] sound refl;
      nothing = nothing_made s;
    }

-- ---- a bad step

pub bad_step_claim : BadStepClaim
unfolding carried nodes_carried nodes_made
bad_step_claim s plan nodes some = go (eqb (first_met (carry_checks s plan nodes)) 0) refl some
  where
    go : (b : Bool) → eqb (first_met (carry_checks s plan nodes)) 0 ≡ b → ((carried s plan nodes).bad ≡ 0 → ⊥)
        → (carried s plan nodes ≡ record { refusal = 0; bad = bad_in s plan; session = s }) × (nodes_carried s plan nodes ≡ nodes)
    go true e some =
        let z = eqb-true _ 0 e in
        let bad : bad_in s plan ≡ 0 → ⊥ = λ q. some (rw e q) in
        let none : steps_carried s plan ≡ [] = accepted_none (family_of s.family) s.k s.live (plan_steps plan) bad in (
          answer_served (carry_checks s plan nodes) _ (refused_plan s) z ∙ ap (λ (t : Session). record { refusal = 0; bad = bad_in s plan; session = t }) (ap (after_steps s) none ∙ sym (none_made s)),
          nodes_carried_lem s plan nodes z ∙ ap (nodes_made s.len nodes) none,
        )
    go false e some = absurd (some (rw e))

-- ---- an accepted plan

module _ (s : Session) (arrays : Arrays s) (plan nodes : List ℕ) (h : (carried s plan nodes).refusal ≡ 0) (z : (carried s plan nodes).bad ≡ 0) where
  abbrev steps : List Step
  steps = plan_steps plan

  abbrev next : Session
  next = (carried s plan nodes).session

  e : first_met (carry_checks s plan nodes) ≡ 0
  e = carry_accepted s plan nodes h

  good : bad_in s plan ≡ 0
  good = sym (bad_is s plan nodes h) ∙ z

  are : steps_carried s plan ≡ steps
  are = accepted_are (family_of s.family) s.k s.live steps good

  session_is : next ≡ after_steps s steps
  session_is = session_carried s plan nodes e ∙ ap (after_steps s) are

  nodes_is : nodes_carried s plan nodes ≡ nodes_made s.len nodes steps
  nodes_is = nodes_carried_lem s plan nodes e ∙ ap (nodes_made s.len nodes) are

  makes : Makes s nodes steps
  makes = subst (Makes s nodes) are (carry_makes s plan nodes e arrays)

  range : KInRange (family_of s.family) s.k
  range = (known s makes.buffer.sound).range.blocks

  live_to : (j : ℕ) → is_live next.live j ≡ true → (is_live s.live j ≡ true) ⊎ Memᴰ j (repaired_nodes steps)
  live_to j l = go (is_live s.live j) refl
    where
      go : (b : Bool) → is_live s.live j ≡ b → (is_live s.live j ≡ true) ⊎ Memᴰ j (repaired_nodes steps)
      go true v = inl v
      go false v = inr (listed_live s.live (repaired_nodes steps) j v (rw session_is at l))

  live_from : (j : ℕ) → (is_live s.live j ≡ true) ⊎ Memᴰ j (repaired_nodes steps) → is_live next.live j ≡ true
  live_from j (inl v) = rw session_is (live_keeps s.live (repaired_nodes steps) j v)
  live_from j (inr m) =
      let n = (make_missing (family_of s.family) s.k s.live steps makes.all j m).0 in
      rw session_is (live_listed_lem {j = j} {list = repaired_nodes steps} s.live (omega (arith, n.last, few (family_of s.family) s.k range, arrays.marks)) m)

  again : (steps ≡ [] → ⊥) → plan_checked next plan ≡ record { refusal = 0; bad = 1; session = next }
  again some = go steps refl
    where
      go : (l : List Step) → steps ≡ l → plan_checked next plan ≡ record { refusal = 0; bad = 1; session = next }
      go [] q = absurd (some q)
      go (x ∷ later) q =
          let f = family_of s.family in
          let was : first_bad f s.k s.live (x ∷ later) ≡ 0 = ap (first_bad f s.k s.live) (sym q) ∙ good in
          let bad : bad_in next plan ≡ 1 = ap (λ (t : Session). bad_in t plan) session_is ∙ ap (λ (l : List Step). first_bad f s.k (marks_after s.live l) l) q ∙ again_claim f s.k range s.live arrays.marks x later was in
          check_is next plan (stays s nodes (carry plan) arrays makes.buffer.sound) (((accepts_claim s).carry plan nodes).0 h).1 ∙ ap (λ (b : ℕ). record { refusal = 0; bad = b; session = next }) bad

  again_carried : (steps ≡ [] → ⊥) → (other : List ℕ) → length other ≡ node_count_of s * s.len → carried next plan other ≡ record { refusal = 0; bad = 1; session = next }
  again_carried some other size =
      let checked = again some in
      let size-next : length other ≡ node_count_of next * next.len = size ∙ ap (λ (t : Session). node_count_of t * t.len) (sym session_is) in
      let c = number_claim next plan in
      let served = c.served other size-next (ap (λ (r : PlanChecked). r.refusal) checked) in
      let bad : (carried next plan other).bad ≡ 1 = ap (λ (r : PlanChecked). r.bad) (sym (c.same other served) ∙ checked) in
      let is = (bad_step_claim next plan other (λ z. omega (arith, bad, z))).0 in
      is ∙ ap (λ (b : ℕ). record { refusal = 0; bad = b; session = next }) (sym (ap (λ (r : PlanChecked). r.bad) is) ∙ bad)

  few_steps : length steps + nodes_left next.live (node_count_of s) ≡ nodes_left s.live (node_count_of s)
  few_steps = rw session_is (make_counts (family_of s.family) s.k range s.live arrays.marks steps makes.all)

  carry_claims : CarryClaims s plan nodes
  unfolding state_after
  carry_claims =
      record {
        steps = accepted_claim (family_of s.family) s.k s.live steps good;
        accepted = steps_accepted s nodes steps makes;
        calls = steps_state s nodes steps makes ∙ sym (ap₂ (λ (t : Session) (b : List ℕ). record { session = t; nodes = b }) session_is nodes_is);
        live = λ j. (live_to j, live_from j);
        missing = λ j m. (make_missing (family_of s.family) s.k s.live steps makes.all j m).1;
        kept = λ j n out. ap (λ (b : List ℕ). block_of s.len b j) nodes_is ∙ steps_keep s nodes steps makes j n (unlisted_apart steps j out);
        own = λ object size live. (own_claim object s nodes arrays size live (carry plan ∷ [])).live;
        few = few_steps;
        counted = ap (λ (t : Session). t.steps) session_is;
        reads = λ j. ap (λ (t : Session). count_of t.reads j) session_is ∙ (reads_claim (family_of s.family) s.k range s.live s.reads steps arrays.counts makes.all).times j;
        again = again;
        again_carried = again_carried;
      }

pub carry_claim : CarryClaim
carry_claim = carry_claims

-- ---- our own plan

module _ (s : Session) (out : List ℕ) (h : (planned s out).refusal ≡ 0) where
  sound : unsound s ≡ false
  sound = (((accepts_claim s).plan out).0 h).0

  left_is : plan_left s out ≡ step_bytes (plan_in s)
  unfolding planned out_planned
  left_is = rw (plan_accepted s out h) (take_at (step_bytes (plan_in s)) _ (4 * length (plan_in s)) (length_bytes (plan_in s)))

  four : length (plan_left s out) % 4 ≡ 0
  four = rw left_is (omega (arith, length_bytes (plan_in s)))

  steps_are : plan_steps (plan_left s out) ≡ plan_in s
  steps_are =
      let bytes = step_bytes (plan_in s) in
      let count : length bytes / 4 ≡ length (plan_in s) = omega (arith, length_bytes (plan_in s)) in
      ap plan_steps left_is ∙ ap (steps_in bytes) count ∙ ap (λ (b : List ℕ). steps_in b (length (plan_in s))) (sym (append-nil bytes)) ∙ steps_back (plan_in s) []

  own_good : bad_in s (plan_left s out) ≡ 0
  own_good = ap (first_bad (family_of s.family) s.k s.live) steps_are ∙ own_plan_claim (family_of s.family) s.k (known s sound).range.blocks s.live

  runs : (nodes : List ℕ) → called s nodes (carry (plan_left s out)) ≡ called s nodes run
  unfolding carried nodes_carried ran nodes_ran carry_checks
  runs nodes = ap₂ (λ (t : Session) (b : List ℕ). record { session = t; nodes = b }) (go met refl).0 (go met refl).1
    where
      plan : List ℕ
      plan = plan_left s out

      met : Bool
      met = eqb (first_met (nodes_checks s (length nodes))) 0

      are : steps_carried s plan ≡ plan_in s
      are = accepted_are (family_of s.family) s.k s.live (plan_steps plan) own_good ∙ steps_are

      go : (b : Bool) → eqb (first_met (nodes_checks s (length nodes))) 0 ≡ b → ((carried s plan nodes).session ≡ (ran s nodes).session) × (nodes_carried s plan nodes ≡ nodes_ran s nodes)
      go true e =
          let z = eqb-true _ 0 e in
          let b = sized s (length nodes) z in
          let c : first_met (carry_checks s plan nodes) ≡ 0 = carry_accepted s plan nodes (((accepts_claim s).carry plan nodes).1 ((b.sound, b.size), four)) in (
            session_carried s plan nodes c ∙ ap (after_steps s) are ∙ sym (session_ran s nodes z),
            nodes_carried_lem s plan nodes c ∙ ap (nodes_made s.len nodes) are ∙ sym (nodes_ran_lem s nodes z),
          )
      go false e =
          let c : first_met (carry_checks s plan nodes) ≡ first_met (nodes_checks s (length nodes)) = some_append (nodes_checks s (length nodes)) _ (eqb-false _ 0 e) in
          (rw (c, e), rw (c, e))

  own_plan : PlanAccepted s out
  own_plan = record { accepted = check_is s (plan_left s out) sound four ∙ ap (λ (b : ℕ). record { refusal = 0; bad = b; session = s }) own_good; run_is = runs }

pub plan_accepted_claim : PlanAcceptedClaim
plan_accepted_claim = own_plan
