-- The claims of specs/Claims.antt about lists of C's calls: demand 3, the object's own blocks, and the whole way.
-- Assumes nothing.
use mathlib.Core.Path.{◌≡◌, refl, sym, ap, ap₂, ◌∙◌, subst}
use mathlib.Core.Bool.{Bool, true, false}
use mathlib.Core.List.{List}
use mathlib.Core.Logic.{◌↔◌, inl}
use Prim.Native.Nat.{ℕ, ◌*◌, ◌≤◌}
use native.Mathlib.Omega.{arith}
use lib.ListN.{length, take, drop, length-map}
use lib.Seq.{take-append_seam}
use Rattle.boxes.specs.Box.{names_in}
use Rattle.repair.specs.declared.Session.{Session}
use Rattle.repair.specs.Session.{Arrays}
use Rattle.repair.specs.Refusals.{NotThirteen}
use Rattle.repair.specs.Answers.{Written, ReadOut}
use Rattle.repair.specs.Boxed.{read_box, nodes_read, written, out_written}
use Rattle.repair.specs.ReadOut.{read_out_of, object_out}
use Rattle.repair.specs.Repairs.{ran, nodes_ran}
use Rattle.repair.specs.Calls.{Move, State, called, state_after}
use Rattle.repair.specs.LeftOver.{last_session}
use Rattle.repair.specs.RepairClaims.{LiveAreOwn, OwnClaims}
use Rattle.repair.specs.WholeWay.{OutWhereOpen, Way, start_of, nodes_encoded, box_away, state_at, WholeWay}
use Rattle.repair.proofs.Proved.{write_read_claim}
use Rattle.repair.proofs.LeftOverProved.{demand_3}
use Rattle.repair.proofs.ReadsProved.{counted_claim}
use Rattle.repair.proofs.RepairsProved.{rounds_claim, own_claim}
use Rattle.repair.proofs.WholeWayProved.{whole_way_claim}
use Rattle.mogtriz.specs.declared.sessions.MarkedSession.{MarkedSession}
use Rattle.mogtriz.specs.declared.sessions.WriteAnswer.{WriteAnswer}
use Rattle.mogtriz.specs.declared.sessions.ReadOutAnswer.{ReadOutAnswer}
use Rattle.mogtriz.specs.declared.repairs.RepairsAnswer.{RepairsAnswer}
use Rattle.mogtriz.specs.Sessions.{mark_of, some_above1, session_for_c, session_of_c, read_out_c}
use Rattle.mogtriz.specs.Repairs.{planned_c, ran_c}
use Rattle.mogtriz.specs.Claims.{Demand3C, NotThirteenC, CountedCClaim, RoundsC, RoundsCClaim, OwnC, OwnCClaim, box_away_c, state_at_c, OnTheWayC, OutWhereOpenC, WholeWayCClaim}
use Rattle.mogtriz.proofs.MarkLaws.{byte_at}
use Rattle.mogtriz.proofs.Proved.{of_low, there_and_back, back_and_there, turned_away_claim, thirteen_c_claim, agree_claim}
use Rattle.mogtriz.proofs.AnswerLaws.{read_out_kept}
use Rattle.mogtriz.proofs.CallLaws.{last_agrees, state_agrees, state_stays}

pub demand_3_c : Demand3C
demand_3_c family k L list e calls M h =
    let own = demand_3 family k L list e calls M h in
    let last = last_session family k L list in
    let agrees = last_agrees family k L list in
    record {
      marks = λ j l. rw (agrees calls, byte_at (last calls).live j, own.marks j l);
      missing_open = own.missing_open;
      count = own.count;
      open_nodes = own.open_nodes;
      runs = λ earlier nodes later is. rw (agrees earlier, (agree_claim (last earlier)).run nodes) (own.runs earlier nodes later is);
      plans = λ out. rw (agrees calls, (agree_claim (last calls)).plan out) (own.plans out);
    }

-- a session that no operation turns away with 13, in C's form
agree_not_13 : (s : Session) → NotThirteen s → NotThirteenC (session_for_c s)
agree_not_13 s t =
    let a = agree_claim s in
    record {
      step = λ nodes j x y. rw (a.step nodes j x y) (t.step nodes j x y);
      plan = λ out. rw (a.plan out) (t.plan out);
      run = λ nodes. rw (a.run nodes) (t.run nodes);
      write = λ nodes list out. rw (a.write nodes list out) (t.write nodes list out);
      live = λ out. rw (a.live out) (t.live out);
      read_out = λ nodes object. rw (a.read_out nodes object) (t.read_out nodes object);
      pairs = λ j. rw (a.pairs j) (t.pairs j);
      check_plan = λ plan. rw (a.check_plan plan) (t.check_plan plan);
      carry = λ plan nodes. rw (a.carry plan nodes) (t.carry plan nodes);
    }

pub counted_c_claim : CountedCClaim
counted_c_claim family k L list e calls =
    let own = counted_claim family k L list e calls in
    let is = last_agrees family k L list calls in
    let last = last_session family k L list calls in
    record {
      steps = rw is own.steps;
      reads = rw is own.reads;
      sum = rw is own.sum;
      none = rw is own.none;
      not_13 = rw is (agree_not_13 last own.not_13);
    }

-- a session that is turned away has no rounds
no_rounds : (s : MarkedSession) → some_above1 s.live ≡ true → RoundsC s
no_rounds s e =
    let t = thirteen_c_claim s (inl e) in
    let none : 0 ≤ 0 = omega arith in
    record {
      plan = λ out. rw ((turned_away_claim s).plan out (λ z. omega (arith, z, t.plan out))).0 none;
      run = λ nodes. rw ((turned_away_claim s).run nodes (λ z. omega (arith, z, t.run nodes))).0 none;
    }

pub rounds_c_claim : RoundsCClaim
unfolding planned_c ran_c
rounds_c_claim s marks = go (some_above1 s.live) refl
  where
    go : (above : Bool) → some_above1 s.live ≡ above → RoundsC s
    go true e = no_rounds s e
    go false e =
        let own = rounds_claim (session_of_c s) (rw (of_low s e) (length-map s.live mark_of ∙ marks)) in
        record { plan = own.plan_few; run = own.run_few }

-- what is claimed of a session holds of its C form
pub own_agrees : (object : List ℕ) (s : Session) (nodes : List ℕ) (moves : List Move) → OwnClaims object s nodes moves → OwnC object (session_for_c s) nodes moves
unfolding read_out_of
own_agrees object s nodes moves o =
    let after = state_after called s nodes moves in
    let same-state = state_agrees s nodes moves in
    record {
      live = rw same-state (subst (λ (t : Session). LiveAreOwn object t after.nodes) (sym (there_and_back after.session)) o.live);
      out = λ result. rw (same-state, (agree_claim after.session).read_out after.nodes result, there_and_back after.session) (o.out result);
    }

pub own_c_claim : OwnCClaim
own_c_claim object s nodes marks counts size live moves = go (some_above1 s.live) refl
  where
    go : (above : Bool) → some_above1 s.live ≡ above → OwnC object s nodes moves
    go true e =
        let same-state = state_stays s e nodes moves in
        record { live = rw same-state live; out = λ result a. absurd (omega (arith, rw same-state at a, (thirteen_c_claim s (inl e)).read_out nodes result)) }
    go false e =
        let is = back_and_there s e in
        let n : Arrays (session_of_c s) = rw (of_low s e) (record { marks = length-map s.live mark_of ∙ marks; counts = counts }) in
        subst (λ (t : MarkedSession). OwnC object t nodes moves) is
        (own_agrees object (session_of_c s) nodes moves (own_claim object (session_of_c s) nodes n (size ∙ ap (λ (t : MarkedSession). t.k * t.len) (sym is)) live moves))

-- the box that C finds at the start of its destination is the box that is put away
box_agrees : (way : Way) → (written (start_of way).session (nodes_encoded way) way.list way.out).refusal ≡ 0 → box_away_c way ≡ box_away way
box_agrees way h =
    let s = (start_of way).session in
    let c = write_read_claim s (nodes_encoded way) way.list way.out h in
    ap₂ (λ (r : WriteAnswer) (t : Session). take r.length (out_written t (nodes_encoded way) way.list way.out))
    ((agree_claim s).write (nodes_encoded way) way.list way.out)
    (there_and_back s)
    ∙ ap₂ (λ (r : Written) (b : List ℕ). take r.length b) c.answer c.rest
    ∙ take-append_seam (box_away way) (drop (length (box_away way)) way.out)

-- an answer of read out, by its parts
parts : (r : ReadOut) (refusal block : ℕ) (s : Session) → r.refusal ≡ refusal → r.block ≡ block → r.session ≡ s → r ≡ record { refusal = refusal; block = block; session = s }
parts r refusal block s p q k = rw (sym p, sym q, sym k)

-- C is told what the session's own read out gives
told : (s : Session) (nodes result : List ℕ) (refusal block : ℕ)
    → (read_out_c (session_for_c s) nodes result ≡ record { refusal = refusal; block = block; session = session_for_c s })
    ↔ (read_out_of s nodes result ≡ record { refusal = refusal; block = block; session = s })
told s nodes result refusal block =
    let c = (agree_claim s).read_out nodes result in (
      (λ h.
          let same = sym c ∙ h in
          parts (read_out_of s nodes result) refusal block s (ap (λ (r : ReadOutAnswer). r.refusal) same) (ap (λ (r : ReadOutAnswer). r.block) same) (read_out_kept s nodes result)),
      (λ h. c ∙ rw h),
    )

out_agrees : (s : Session) (nodes result list : List ℕ) (M : ℕ) → OutWhereOpen s nodes result list M → OutWhereOpenC (session_for_c s) nodes result list M
out_agrees s nodes result list M o =
    record {
      accepted = let t = told s nodes result 0 0 in ((λ h. o.accepted.0 (t.0 h)), (λ n. t.1 (o.accepted.1 n)));
      refused = λ i. let t = told s nodes result 14 i in ((λ h. (o.refused i).0 (t.0 h)), (λ l. t.1 ((o.refused i).1 l)));
    }

module _ (way : Way) (on : OnTheWayC way) (moves : List Move) where
  pub writes : (written (start_of way).session (nodes_encoded way) way.list way.out).refusal ≡ 0
  writes = sym (ap (λ (r : WriteAnswer). r.refusal) ((agree_claim (start_of way).session).write (nodes_encoded way) way.list way.out)) ∙ on.write

  pub same : box_away_c way ≡ box_away way
  same = box_agrees way writes

  whole : WholeWay way moves
  whole = whole_way_claim way (record { encode = on.encode; start = on.start; write = writes; read = rw same at on.read }) moves

  abbrev at_end : State Session
  at_end = state_at way moves

  state_is : state_at_c way moves ≡ record { session = session_for_c at_end.session; nodes = at_end.nodes }
  state_is = rw same (state_agrees (read_box (box_away way) way.other).session (nodes_read (box_away way) way.other) moves)

  own_read : OwnC way.object (session_for_c (read_box (box_away way) way.other).session) (nodes_read (box_away way) way.other) moves
  own_read = own_agrees way.object (read_box (box_away way) way.other).session (nodes_read (box_away way) way.other) moves (record { live = whole.live; out = whole.out })

  run_is : (ran_c (session_for_c at_end.session) at_end.nodes).session ≡ session_for_c (ran at_end.session at_end.nodes).session
  run_is = ap (λ (r : RepairsAnswer). r.session) ((agree_claim at_end.session).run at_end.nodes)

  back : (result : List ℕ) → length result ≡ way.k * way.len → (M : ℕ) → 1 ≤ M
      → OutWhereOpenC (ran_c (session_for_c at_end.session) at_end.nodes).session (nodes_ran (session_of_c (session_for_c at_end.session)) at_end.nodes) result (names_in (box_away way)) M
  back result size M some =
      rw (run_is, there_and_back at_end.session)
      (out_agrees (ran at_end.session at_end.nodes).session (nodes_ran at_end.session at_end.nodes) result (names_in (box_away way)) M (whole.back result size M some))

module _ (way : Way) (on : OnTheWayC way) (moves : List Move) where
  abbrev next : Session
  next = (ran (state_at way moves).session (state_at way moves).nodes).session

  abbrev after : List ℕ
  after = nodes_ran (state_at way moves).session (state_at way moves).nodes

  again : (result : List ℕ)
      → (read_out_c (ran_c (session_for_c (state_at way moves).session) (state_at way moves).nodes).session (nodes_ran (session_of_c (session_for_c (state_at way moves).session)) (state_at way moves).nodes) result).refusal ≡ 0
      → object_out (session_of_c (ran_c (session_for_c (state_at way moves).session) (state_at way moves).nodes).session) (nodes_ran (session_of_c (session_for_c (state_at way moves).session)) (state_at way moves).nodes) result ≡ way.object
  again result =
      rw (run_is way on moves, there_and_back (state_at way moves).session, (agree_claim next).read_out after result, there_and_back next)
      ((whole way on moves).again result)

pub whole_way_c_claim : WholeWayCClaim
whole_way_c_claim way on moves =
    let same-state = state_is way on moves in
    record {
      own = rw (same way on moves) (own_read way on moves);
      runs = rw (same-state, (agree_claim (state_at way moves).session).run (state_at way moves).nodes) (whole way on moves).runs;
      back = λ result size M some. rw (same-state, same way on moves) (back way on moves result size M some);
      again = λ result. rw same-state (again way on moves result);
    }
