-- The claims of specs/LeftOver.antt: demand 3, and that the number of open nodes is the same at every block length.
-- Assumes nothing.
use mathlib.Core.Path.{◌≡◌, refl, sym, ap, subst, ◌∙◌}
use mathlib.Core.List.{List}
use Prim.Native.Nat.{ℕ, ◌≤◌, ◌<◌}
use native.Mathlib.Omega.{arith}
use Rattle.families.specs.declared.Family.{Family}
use Rattle.families.specs.Families.{family_of}
use Rattle.families.proofs.Laws.{few}
use Rattle.lists.specs.Lists.{none_live, is_live, set_live, is_in}
use Rattle.lists.proofs.MarkLaws.{live_append}
use Rattle.planning.specs.Claims.{CanMakeAll}
use Rattle.planning.specs.Plan.{Step, repaired_nodes, marks_after, nodes_left}
use Rattle.pairing.specs.Pairs.{NoPairLeft}
use Rattle.leftover.specs.Open.{OpenCount}
use Rattle.leftover.proofs.Reached.{Ended}
use Rattle.leftover.proofs.Missing.{missing_is_open}
use Rattle.leftover.proofs.Count.{one_count}
use Rattle.repair.specs.declared.Session.{Session}
use Rattle.repair.specs.Session.{session_of, started, node_count_of}
use Rattle.repair.specs.Step.{after_steps}
use Rattle.repair.specs.Repairs.{plan_in}
use Rattle.repair.specs.Calls.{Call, made_after, live_after}
use Rattle.repair.specs.LeftOver.{last_session, LeftOver, Demand3, SameCount}
use Rattle.repair.proofs.Accepted.{start_accepted}
use Rattle.repair.proofs.LeftOverLaws.{Grown, grown_start, grown_marked, grown_more, steps_reach, grown_ended, is_in_lem, left_of, left_open, left_same}
use Rattle.repair.proofs.CallLaws.{FromStart, from_start, ran_left, planned_left, Holds, calls_session, calls_make}

module _ (family k L : ℕ) (list : List ℕ) (start : FromStart family k L list) where
  abbrev f : Family
  f = family_of family

  abbrev made : List Call → List Step
  made calls = made_after family k L list calls

  abbrev after : List Call → List ℕ
  after calls = live_after family k L list calls

  holds : Holds f k (started family k L list).session list
  holds = rw start.session (record { family = refl; blocks = refl; marks = refl })

  -- the last session is the start's once all steps are made
  pub session_is : (calls : List Call) → last_session family k L list calls ≡ after_steps (session_of family k L list) (made calls)
  session_is calls =
      calls_session f k calls (started family k L list).session list holds
      ∙ ap (λ (s : Session). after_steps s (made calls)) start.session

  -- and these can be made
  pub made_makes : (calls : List Call) → CanMakeAll f k (set_live none_live list) (made calls)
  made_makes calls =
      subst (λ (s : Session). CanMakeAll f k s.live (made calls)) start.session
      (calls_make f k start.range calls (started family k L list).session list holds)

  -- its marks are those of the nodes live after the list
  pub marks_are : (calls : List Call) → (last_session family k L list calls).live ≡ set_live none_live (after calls)
  marks_are calls = ap (λ (s : Session). s.live) (session_is calls) ∙ sym (live_append none_live list (repaired_nodes (made calls)))

  first : Grown f k list list
  first = grown_start f k list start.range start.nodes

  grown : (calls : List Call) → Grown f k list (after calls)
  grown calls =
      grown_more f k list list (repaired_nodes (made calls)) first
      (steps_reach f k list (made calls) (set_live none_live list) (grown_marked f k list list first) (made_makes calls))

  in_after : (calls : List Call) (j : ℕ) → j < 256 → is_live (set_live none_live (after calls)) j ≡ is_in (after calls) j
  in_after calls j h = is_in_lem f k list start.range (after calls) (grown calls) j h

  -- when no pair is left
  ended : (calls : List Call) → NoPairLeft f k (is_in (after calls)) → Ended f k list (is_in (after calls))
  ended calls done =
      grown_ended f k list start.range start.nodes (after calls) (grown calls) (is_in (after calls))
      (λ j n. in_after calls j (omega (arith, n.last, few f k start.range))) done

  -- what a plan made of the last session leaves
  left_after : (calls : List Call) → let s = last_session family k L list calls in nodes_left (marks_after s.live (plan_in s)) (node_count_of s) ≡ left_of f k (after calls)
  left_after calls = rw (session_is calls, live_append none_live list (repaired_nodes (made calls)))

  same_left : (calls : List Call) → left_of f k (after calls) ≡ left_of f k list
  same_left calls = left_same f k list start.range start.nodes (after calls) (grown calls)

  -- the number of open nodes at any block length
  open_first : (M : ℕ) → 1 ≤ M → OpenCount f k M list (left_of f k list)
  open_first M h = left_open f k list start.range start.nodes list first M h

  left_over : (calls : List Call) (M : ℕ) → 1 ≤ M → LeftOver family k L list calls M
  left_over calls M h =
      record {
        marks = λ j l. rw (marks_are calls) (in_after calls j l);
        missing_open = λ done. missing_is_open f k start.range list start.nodes (is_in (after calls)) (ended calls done) M h;
        count = left_of f k list;
        open_nodes = open_first M h;
        runs = λ earlier nodes later is e. ran_left (last_session family k L list earlier) nodes e ∙ left_after earlier ∙ same_left earlier;
        plans = λ out e. planned_left (last_session family k L list calls) out e ∙ left_after calls ∙ same_left calls;
      }

pub demand_3 : Demand3
demand_3 family k L list e = left_over family k L list (from_start family k L list (start_accepted family k L list e))

pub same_count : SameCount
same_count family k L list e M N c d m n p q =
    let start = from_start family k L list (start_accepted family k L list e) in
    let number : ℕ = left_of (family_of family) k list in
    one_count (family_of family) k M list c number p (open_first family k L list start M m)
    ∙ sym (one_count (family_of family) k N list d number q (open_first family k L list start N n))
