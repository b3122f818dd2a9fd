-- The claims of specs/Reads.antt: what the counts of a session are after a list of calls.
-- Assumes nothing.
use mathlib.Core.Path.{◌≡◌, refl, ap, ◌∙◌}
use mathlib.Core.Bool.{false}
use mathlib.Core.List.{List}
use Prim.Native.Nat.{ℕ, zero, suc}
use native.Mathlib.Omega.{arith}
use lib.ListN.{get_or-replicate}
use Rattle.families.specs.Families.{family_of, IsNode}
use Rattle.counts.specs.Counts.{no_counts, count_of}
use Rattle.planning.specs.Plan.{Step}
use Rattle.planning.proofs.SourceLaws.{times_few}
use Rattle.planning.proofs.Proved.{reads_claim}
use Rattle.repair.specs.declared.Session.{Session}
use Rattle.repair.specs.Session.{Arrays, session_of, unsound}
use Rattle.repair.specs.Step.{after_steps}
use Rattle.repair.specs.Calls.{Call, made_after}
use Rattle.repair.specs.LeftOver.{last_session}
use Rattle.repair.specs.Claims.{Sound}
use Rattle.repair.specs.Reads.{Counted, CountedClaim, NotReachedClaim}
use Rattle.repair.proofs.Accepted.{start_accepted}
use Rattle.repair.proofs.StartLaws.{start_sound, start_arrays}
use Rattle.repair.proofs.AfterLaws.{after_arrays, after_sound}
use Rattle.repair.proofs.Proved.{sound_claim}
use Rattle.repair.proofs.RefusalsProved.{not_thirteen_claim}
use Rattle.repair.proofs.CallLaws.{FromStart, from_start}
use Rattle.repair.proofs.LeftOverProved.{session_is, made_makes}

-- ---- after a list of calls

module _ (family k L : ℕ) (list : List ℕ) (start : FromStart family k L list) (calls : List Call) where
  abbrev made : List Step
  made = made_after family k L list calls

  abbrev last : Session
  last = last_session family k L list calls

  abbrev is : last ≡ after_steps (session_of family k L list) made
  is = session_is family k L list start calls

  arrays : Arrays last
  arrays = rw is (after_arrays (session_of family k L list) (start_arrays family k L list) made)

  still_sound : unsound last ≡ false
  still_sound =
      rw is
      (after_sound (session_of family k L list) (start_arrays family k L list) made (start_sound family k L list start.in_range start.outside)
      (made_makes family k L list start calls))

  holds : Sound last
  holds = (sound_claim last arrays).0 still_sound

  -- the family and k stay
  node_of_lem : (j : ℕ) → IsNode (family_of last.family) last.k j → IsNode (family_of family) k j
  node_of_lem j n = rw is at n

  none_read : (j : ℕ) → (IsNode (family_of family) k j → ⊥) → (c : ℕ) → count_of last.reads j ≡ c → c ≡ 0
  none_read j out zero e = refl
  none_read j out (suc c) e = absurd (out (node_of_lem j (holds.reads j (omega arith))))

  counted : Counted family k L list calls
  counted =
      record {
        steps = ap (λ (s : Session). s.steps) is ∙ omega arith;
        reads = λ j h. ap (λ (s : Session). count_of s.reads j) is ∙ (reads_claim (family_of family) k start.range _ no_counts made refl (made_makes family k L list start calls)).times j ∙ rw (get_or-replicate {A = ℕ} 256 j 0 0 h) (omega arith);
        sum = holds.sum;
        none = λ j out. none_read j out (count_of last.reads j) refl;
        not_13 = not_thirteen_claim last still_sound;
      }

pub counted_claim : CountedClaim
counted_claim family k L list e calls = counted family k L list (from_start family k L list (start_accepted family k L list e)) calls

pub not_reached_claim : NotReachedClaim
not_reached_claim s j h more family k L list e calls is =
    let c = counted_claim family k L list e calls in
    let steps = ap (λ (t : Session). t.steps) is in
    let reads = ap (λ (t : Session). count_of t.reads j) is in
    omega (arith, times_few j (made_after family k L list calls), c.steps, c.reads j h, steps, reads, more)
