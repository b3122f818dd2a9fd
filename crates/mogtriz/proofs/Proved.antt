-- The claims of specs/Claims.antt: a session handed to C and back, the session in an answer, and the calls that agree.
-- Assumes nothing.
use mathlib.Core.Path.{◌≡◌, refl, sym, ap, ◌∙◌}
use mathlib.Core.Bool.{Bool, true, false}
use mathlib.Core.Logic.{◌⊎◌, inl, inr}
use mathlib.Core.List.{List, map}
use Prim.Native.Nat.{ℕ}
use native.Mathlib.Omega.{arith}
use borrow.Author.Tests.{eqb-true, eqb-false, le-leb}
use lib.Dec.{eqb}
use lib.ListN.{length-map, get_or-map, replicate}
use Rattle.checks.specs.Checks.{first_met}
use Rattle.families.specs.Families.{family_of, IsNode, node_count, node_of}
use Rattle.checks.specs.Claims.{InRange}
use Rattle.checks.proofs.Laws.{range_claim}
use Rattle.boxes.specs.Box.{body_checks, body_of}
use Rattle.checks.specs.Parameters.{parameter_checks}
use Rattle.repair.specs.declared.Session.{Session}
use Rattle.repair.specs.Session.{started, unsound}
use Rattle.repair.specs.Boxed.{read_box, nodes_read}
use Rattle.repair.specs.Claims.{WrittenAgain}
use Rattle.repair.proofs.Proved.{live_list_claim, read_write_claim}
use Rattle.repair.proofs.PairsProved.{pairs_claim}
use Rattle.repair.proofs.RefusalsProved.{refusal_claim, thirteen_claim, not_thirteen_claim}
use Rattle.mogtriz.specs.declared.sessions.MarkedSession.{MarkedSession}
use Rattle.mogtriz.specs.Sessions.{mark_of, some_above1, session_for_c, session_of_c, started_c, written_c, live_listed_c, read_out_c, part_in}
use Rattle.mogtriz.specs.Exports.{node_count_or0, is_node, column_or0, node_or0, related_or0}
use Rattle.mogtriz.specs.Repairs.{stepped_c, planned_c, ran_c, pairs_found_c, plan_checked_c, carried_c}
use Rattle.mogtriz.specs.Claims.{ThereAndBackClaim, BackAndThereClaim, StartedMarksClaim, HandedBackClaim, RefusedStartClaim, TurnedAwayClaim, ThirteenC, ThirteenCClaim, NotThirteenCClaim, list_left_c, PairsC, PairsCClaim, LiveListCClaim, WrittenAgainC, ReadWriteCClaim, SameFieldsClaim, PartOf, PartClaim, AnswersClaim, AgreeClaim}
use Rattle.mogtriz.proofs.Laws.{count_accepted}
use Rattle.mogtriz.proofs.MarkLaws.{marks_back, bytes_back, marks_low}
use Rattle.mogtriz.proofs.AnswerLaws.{kept_session, step_low, run_low, carry_low, step_done, run_done, carry_done, handed_on, plan_kept, write_kept, live_kept, read_out_kept, pairs_kept, check_plan_kept}

pub there_and_back : ThereAndBackClaim
unfolding session_of_c
there_and_back s = rw (marks_low s.live, marks_back s.live)

pub back_and_there : BackAndThereClaim
unfolding session_of_c
back_and_there s h = rw (h, bytes_back s.live h)

-- with no byte above 1 it is taken in field by field
pub of_low : (s : MarkedSession) → some_above1 s.live ≡ false
    → session_of_c s ≡ record { family = s.family; k = s.k; len = s.len; steps = s.steps; live = map mark_of s.live; reads = s.reads }
unfolding session_of_c
of_low s h = rw h

pub started_marks_claim : StartedMarksClaim
started_marks_claim answer = marks_low answer.session.live

pub handed_back_claim : HandedBackClaim
unfolding planned_c written_c live_listed_c read_out_c pairs_found_c plan_checked_c
handed_back_claim s =
    record {
      step_marks = step_low s;
      run_marks = run_low s;
      carry_marks = carry_low s;
      plan = λ out. refl;
      write = λ nodes list out. refl;
      live = λ out. refl;
      read_out = λ nodes object. refl;
      pairs = λ j. refl;
      check_plan = λ plan. refl;
    }

pub refused_start_claim : RefusedStartClaim
refused_start_claim number = refl

-- by what the session's own operation gives
pub turned_away_claim : TurnedAwayClaim
unfolding stepped_c planned_c ran_c written_c live_listed_c read_out_c pairs_found_c plan_checked_c carried_c
turned_away_claim s =
    let own = refusal_claim in
    record {
      step = λ nodes j a b h. (rw (kept_session s _ _ h), (own.step (session_of_c s) nodes j a b h).1);
      plan = λ out h. let r = own.plan (session_of_c s) out h in (rw r.0, r.1);
      run = λ nodes h. let r = own.run (session_of_c s) nodes h in (rw (kept_session s _ _ h, r.0), r.1);
      write = λ nodes list out h. let r = own.write (session_of_c s) nodes list out h in (rw r.0, r.1);
      live = λ out h. let r = own.live (session_of_c s) out h in (rw r.0, r.1);
      read_out = λ nodes object h. let r = own.read_out (session_of_c s) nodes object h in (rw r.0, r.1);
      pairs = λ j h. rw (own.pairs (session_of_c s) j h);
      check_plan = λ plan h. rw (own.check_plan (session_of_c s) plan h);
      carry = λ plan nodes h. let r = own.carry (session_of_c s) plan nodes h in (rw (kept_session s _ _ h, r.0), r.1);
    }

-- a session with a byte above 1 is taken in as an unsound one
above_unsound : (s : MarkedSession) → some_above1 s.live ≡ true → unsound (session_of_c s) ≡ true
unfolding session_of_c unsound parameter_checks first_met
above_unsound s h = rw h

pub thirteen_c_claim : ThirteenCClaim
unfolding stepped_c planned_c ran_c written_c live_listed_c read_out_c pairs_found_c plan_checked_c carried_c
thirteen_c_claim s due = go due
  where
    own : unsound (session_of_c s) ≡ true → ThirteenC s
    own n =
        let t = thirteen_claim (session_of_c s) n in
        record { step = t.step; plan = t.plan; run = t.run; write = t.write; live = t.live; read_out = t.read_out; pairs = t.pairs; check_plan = t.check_plan; carry = t.carry }

    go : (some_above1 s.live ≡ true) ⊎ (unsound (session_of_c s) ≡ true) → ThirteenC s
    go (inl above) = own (above_unsound s above)
    go (inr n) = own n

pub not_thirteen_c_claim : NotThirteenCClaim
unfolding stepped_c planned_c ran_c written_c live_listed_c read_out_c pairs_found_c plan_checked_c carried_c
not_thirteen_c_claim s sound =
    let t = not_thirteen_claim (session_of_c s) sound in
    record { step = t.step; plan = t.plan; run = t.run; write = t.write; live = t.live; read_out = t.read_out; pairs = t.pairs; check_plan = t.check_plan; carry = t.carry }

-- one that is accepted has no byte above 1, so that it is C's again once it is handed out
pub live_list_c_claim : LiveListCClaim
unfolding live_listed_c session_of_c
live_list_c_claim s out size h = go (some_above1 s.live) refl
  where
    go : (above : Bool) → some_above1 s.live ≡ above
        → started_c (started s.family s.k s.len (list_left_c s out))
        ≡ record { refusal = 0; session = record { family = s.family; k = s.k; len = s.len; steps = 0; live = s.live; reads = replicate 256 0 } }
    go true e = absurd (omega (arith, h, (thirteen_c_claim s (inl e)).live out))
    go false e =
        let own : Session = record { family = s.family; k = s.k; len = s.len; steps = s.steps; live = map mark_of s.live; reads = s.reads } in
        let is : session_of_c s ≡ own = of_low s e in
        rw is (ap started_c ((live_list_claim own out (rw is at h)).start (length-map s.live mark_of ∙ size)) ∙ rw (bytes_back s.live e))

pub pairs_c_claim : PairsCClaim
unfolding stepped_c pairs_found_c
pairs_c_claim s size j h = go (some_above1 s.live) refl
  where
    go : (above : Bool) → some_above1 s.live ≡ above → PairsC s j
    go true e = absurd (omega (arith, h, (thirteen_c_claim s (inl e)).pairs j))
    go false e =
        let own : Session = record { family = s.family; k = s.k; len = s.len; steps = s.steps; live = map mark_of s.live; reads = s.reads } in
        let is : session_of_c s ≡ own = of_low s e in
        let claims = pairs_claim own (length-map s.live mark_of ∙ size) j (rw is at h) in
        record {
          all = λ every. rw is (claims.all (λ i n. get_or-map mark_of s.live i 0 ∙ rw (every i n)));
          most = rw is claims.most;
          step = λ missing some nodes fits. rw is (claims.step (get_or-map mark_of s.live j 0 ∙ rw missing) (rw is at some) nodes fits);
        }

pub part_claim : PartClaim
unfolding part_in body_of
part_claim bytes j = go (eqb (first_met (body_checks bytes j)) 0) refl
  where
    go : (met : Bool) → eqb (first_met (body_checks bytes j)) 0 ≡ met → PartOf bytes j
    go true e = record { number = rw e (sym (eqb-true _ 0 e)); refused = λ h. absurd (h (rw e)); part = rw e; size = λ h. rw e }
    go false e = record { number = rw e; refused = λ h. rw e; part = rw e; size = λ h. absurd (eqb-false _ 0 e (rw e at h)) }

pub same_fields : SameFieldsClaim
same_fields s = record { family = refl; k = refl; len = refl; steps = refl; reads = refl }

module _ (family k : ℕ) (range : InRange family k 1) where
  count_is : node_count_or0 family k ≡ node_count (family_of family) k
  count_is = count_accepted family k ((range_claim family k 1).1 range)

  is_a_node : (j : ℕ) → IsNode (family_of family) k j → is_node family k j ≡ true
  unfolding is_node
  is_a_node j n = rw count_is (simp (le-leb 1 j n.first, le-leb j (node_count (family_of family) k) n.last))

  node_is : (c : ℕ) → node_or0 family k c ≡ node_of (family_of family) k c
  unfolding node_or0
  node_is c = rw ((range_claim family k 1).1 range)

pub answers_claim : AnswersClaim
unfolding column_or0 related_or0
answers_claim family k range =
    record {
      count = count_is family k range;
      column = λ j n. rw (is_a_node family k range j n);
      node = node_is family k range;
      related = λ a b c na nb nc r. simp (is_a_node family k range a na, is_a_node family k range b nb, is_a_node family k range c nc, r);
      unrelated = λ a b c na nb nc r. simp (is_a_node family k range a na, is_a_node family k range b nb, is_a_node family k range c nc, r);
    }

-- a session in C's form is the session again once it is taken in
pub agree_claim : AgreeClaim
unfolding stepped_c planned_c ran_c written_c live_listed_c read_out_c pairs_found_c plan_checked_c carried_c
agree_claim s =
    let back = there_and_back s in
    record {
      step = λ nodes j a b. rw (back, handed_on s _ _ (step_done s nodes j a b));
      plan = λ out. rw (back, plan_kept s out);
      run = λ nodes. rw (back, handed_on s _ _ (run_done s nodes));
      write = λ nodes list out. rw (back, write_kept s nodes list out);
      live = λ out. rw (back, live_kept s out);
      read_out = λ nodes object. rw (back, read_out_kept s nodes object);
      pairs = λ j. rw (back, pairs_kept s j);
      check_plan = λ plan. rw (back, check_plan_kept s plan);
      carry = λ plan nodes. rw (back, handed_on s _ _ (carry_done s plan nodes));
    }

-- a session in C's form writes what the session writes
written_again : (bytes nodes list out : List ℕ) → WrittenAgain bytes nodes list out → WrittenAgainC (session_for_c (read_box bytes nodes).session) bytes nodes list out
written_again bytes nodes list out w =
    let s = (read_box bytes nodes).session in
    record { answer = (agree_claim s).write (nodes_read bytes nodes) list out ∙ rw w.answer; rest = rw (there_and_back s) w.rest }

pub read_write_c_claim : ReadWriteCClaim
unfolding live_listed_c
read_write_c_claim bytes nodes out byte h room =
    let s = (read_box bytes nodes).session in
    let own = read_write_claim bytes nodes out byte h room in
    (written_again bytes nodes _ out own.0, λ lent l. rw (there_and_back s) (written_again bytes nodes _ out (own.1 lent (rw (there_and_back s) at l))))
