-- The claims of specs/WholeWay.antt.
-- Assumes nothing.
use mathlib.Core.Path.{◌≡◌, refl, sym, ap, ap₂, ◌∙◌, subst}
use mathlib.Core.Bool.{Bool, true, false, not, false≢true}
use mathlib.Core.List.{List, [], ◌∷◌, ◌++◌}
use mathlib.Core.Logic.{◌↔◌}
use Prim.Native.Nat.{ℕ, zero, suc, ◌*◌, ◌≤◌, ◌<◌}
use native.Mathlib.Decide.{ℕ_discrete}
use native.Mathlib.Omega.{arith}
use borrow.Author.Tests.{not-false}
use lib.ListN.{length, get_or}
use Rattle.base.specs.Ranges.{first_from}
use Rattle.base.proofs.Tests.{or_neither}
use Rattle.families.specs.declared.Family.{Family}
use Rattle.families.specs.Families.{family_of, IsNode}
use Rattle.families.proofs.Laws.{few}
use Rattle.base.proofs.First.{first_of, first_none, Found, found, first_least, first_zero}
use Rattle.checks.specs.Checks.{first_met}
use Rattle.encoding.specs.Encode.{encode_answer, encoded}
use Rattle.encoding.proofs.Answers.{accepted_call, written as encoded-is}
use Rattle.encoding.proofs.Nodes.{buffer_block}
use Rattle.lists.specs.Lists.{is_live, some_missing, is_in}
use Rattle.lists.proofs.Laws.{outside_none}
use Rattle.boxes.specs.Box.{family_in, k_in, block_length_in, names_in, node_count_in, box_checks}
use Rattle.boxes.proofs.Laws.{FieldsOf, fields_of}
use Rattle.pairing.specs.Pairs.{NoPairLeft}
use Rattle.planning.specs.Plan.{Step}
use Rattle.leftover.specs.Open.{Open}
use Rattle.readout.specs.DataBlocks.{data_node, missing_block}
use Rattle.readout.proofs.Laws.{data_node_lem}
use Rattle.repair.specs.declared.Session.{Session}
use Rattle.repair.specs.Answers.{Started, ReadOut}
use Rattle.repair.specs.Session.{Arrays, session_of, accepted_start, started, node_count_of, nodes_checks}
use Rattle.repair.specs.Step.{after_steps}
use Rattle.repair.specs.Boxed.{checked_box, read_checks, read_box, nodes_read, write_checks, written}
use Rattle.repair.specs.ReadOut.{missing_in, read_out_of, object_out}
use Rattle.repair.specs.Repairs.{ran, nodes_ran}
use Rattle.repair.specs.Calls.{Move, run, State, called, Call, session_after_all, made_after, live_after, state_after}
use Rattle.repair.specs.LeftOver.{last_session, LeftOver}
use Rattle.repair.specs.Claims.{box_written, list_left}
use Rattle.repair.specs.RepairClaims.{LiveAreOwn, OwnClaims}
use Rattle.repair.specs.WholeWay.{Fits, FitsClaim, WriteLiveClaim, BodiesAreOwn, OwnBoxClaim, MissingOpenClaim, LowestOpen, NoneOpen, OutWhereOpen, OutWhereLiveClaim, OutAfterRunClaim, Way, start_of, nodes_encoded, box_away, state_at, OnTheWay, WholeWayClaim}
use Rattle.repair.proofs.Accepted.{start_accepted, check_accepted, read_accepted, write_accepted, run_accepted}
use Rattle.repair.proofs.StartLaws.{known, nodes_0, start_arrays}
use Rattle.repair.proofs.AfterLaws.{after_arrays}
use Rattle.repair.proofs.ReadOutLaws.{by_block, accepted_out, read}
use Rattle.repair.proofs.RoundTripLaws.{accepted_write, box_written_lem, box_checked, accepted_read, session_read}
use Rattle.repair.proofs.Proved.{live_list_claim, read_body_claim, written_body_claim, box_start_claim}
use Rattle.repair.proofs.RepairsProved.{run_claim, own_claim}
use Rattle.repair.proofs.LeftOverProved.{session_is, demand_3}
use Rattle.repair.proofs.CallLaws.{FromStart, from_start}
use Rattle.repair.proofs.OwnLaws.{ran_sized}
use Rattle.repair.proofs.FitsLaws.{session_started, start_fits, read_same, read_fits, fits_runs, fits_call, same_code, fits_list, fits_write}

not-true : (b : Bool) → not b ≡ true → b ≡ false
not-true true h = absurd (false≢true h)
not-true false h = refl

-- ---- a session and a nodes buffer that go together

pub fits_claim : FitsClaim
unfolding ran
fits_claim =
    record {
      start = λ family k L list nodes h size. start_fits family k L list (start_accepted family k L list h) nodes size;
      read = λ bytes nodes h size. read_same bytes nodes (check_accepted bytes h) size;
      read_fits = λ bytes nodes h. read_fits bytes nodes (read_accepted bytes nodes h);
      call = fits_call;
      same = same_code;
      run = λ s nodes f. rw (fits_runs s nodes f);
      list = fits_list;
      write = λ s nodes room out f. fits_write s nodes room f out;
    }

-- a start by the list gives the session that it was listed from, with zeros in its counts
pub write_live_claim : WriteLiveClaim
write_live_claim s nodes room out size l h =
    let list = list_left s room in
    let starts = (live_list_claim s room l).start size in
    box_checked s nodes list out (write_accepted s nodes list out h)
    ∙ ap accepted_start (sym (session_started s.family s.k s.len list (start_accepted s.family s.k s.len list (ap (λ (r : Started). r.refusal) starts))))
    ∙ ap (λ (r : Started). accepted_start r.session) starts

-- ---- the object's own blocks

checks : (bytes : List ℕ) → first_met (box_checks bytes) ≡ 0 → (checked_box bytes).refusal ≡ 0
unfolding checked_box
checks bytes e = rw e

own_encode : (family k L : ℕ) (object nodes list : List ℕ) → encode_answer family k L object nodes ≡ 0 → (started family k L list).refusal ≡ 0
    → LiveAreOwn object (started family k L list).session (encoded family k L object nodes)
own_encode family k L object nodes list e h =
    rw (session_started family k L list (start_accepted family k L list h), sym (encoded-is family k L object nodes e))
    (λ j n l. buffer_block (family_of family) k L object (accepted_call family k L object nodes e).first j n)

-- each node of a list of which none is missing is live
live_at : (marks : List Bool) (list : List ℕ) (i : ℕ) → some_missing marks list ≡ false → i < length list → is_live marks (get_or list i 0) ≡ true
unfolding some_missing
live_at marks [] i m l = absurd (omega arith)
live_at marks (x ∷ list) zero m l = not-false _ (or_neither (not (is_live marks x)) (some_missing marks list) m).0
live_at marks (x ∷ list) (suc i) m l = live_at marks list i (or_neither (not (is_live marks x)) (some_missing marks list) m).1 (omega arith)

own_write : (object : List ℕ) (s : Session) (nodes list out : List ℕ) → LiveAreOwn object s nodes → (written s nodes list out).refusal ≡ 0
    → BodiesAreOwn object (box_written s nodes list out)
own_write object s nodes list out own h =
    let e = write_accepted s nodes list out h in
    let a = accepted_write s nodes list out e in
    let d = fields_of s.family s.k s.len list nodes in
    let is = box_written_lem s nodes list out e in
    rw is
    (λ i l.
    let m : i < length list = omega (arith, d.held_is) in
    let n = outside_none (node_count_of s) list a.good.outside i m in
    rw (d.names_is, d.family_is, d.k_is, d.length_is)
    (rw is at (written_body_claim s nodes list out h i m)
    ∙ own (get_or list i 0) (record { first = n.0; last = n.1 }) (live_at s.live list i a.live m)))

own_read : (object bytes nodes : List ℕ) → BodiesAreOwn object bytes → (read_box bytes nodes).refusal ≡ 0
    → LiveAreOwn object (read_box bytes nodes).session (nodes_read bytes nodes)
own_read object bytes nodes own h =
    let e = read_accepted bytes nodes h in
    let c = box_start_claim bytes (checks bytes (accepted_read bytes nodes e).passes) in
    let few_nodes = few (family_of (family_in bytes)) (k_in bytes) c.form.range.blocks in
    rw (session_read bytes nodes e)
    (λ j n l.
    let at = (c.named j (omega (arith, n.last, few_nodes))).0 (rw c.is l) in
    let own-here = read_body_claim bytes nodes h at.place at.within ∙ own at.place at.within in
    rw at.there at own-here)

pub own_box_claim : OwnBoxClaim
own_box_claim = record { encode = own_encode; write = own_write; read = own_read }

-- ---- the nodes missing after a run

-- calls, and one more
one_more : (s : Session) (calls : List Call) (call : Call) → session_after_all called s (calls ++ (call ∷ [])) ≡ (called (session_after_all called s calls) call.nodes call.move).session
unfolding session_after_all
one_more s [] call = refl
one_more s (x ∷ calls) call = one_more (called s x.nodes x.move).session calls call

module _ (family k L : ℕ) (list : List ℕ) (h : (started family k L list).refusal ≡ 0) (calls : List Call) (nodes : List ℕ)
    (e : (ran (last_session family k L list calls) nodes).refusal ≡ 0) where
  abbrev f : Family
  f = family_of family

  start : FromStart family k L list
  start = from_start family k L list (start_accepted family k L list h)

  -- the run is the last of these calls
  abbrev all : List Call
  all = calls ++ (record { nodes = nodes; move = run } ∷ [])

  abbrev now : List ℕ
  now = live_after family k L list all

  last_is : last_session family k L list all ≡ (ran (last_session family k L list calls) nodes).session
  last_is = one_more (started family k L list).session calls (record { nodes = nodes; move = run })

  pub ran_is : (ran (last_session family k L list calls) nodes).session ≡ after_steps (session_of family k L list) (made_after family k L list all)
  ran_is = sym last_is ∙ session_is family k L list start all

  ends : (s : Session) (made : List Step) → s ≡ after_steps (session_of family k L list) made → (ran s nodes).refusal ≡ 0 → NoPairLeft f k (is_live (ran s nodes).session.live)
  ends s made is a =
      let begins = session_of family k L list in
      rw is (run_claim (after_steps begins made) (after_arrays begins (start_arrays family k L list) made) nodes (rw is at a)).ends

  -- so no pair is left after them, and demand 3 says which nodes are missing
  module _ (M : ℕ) (some : 1 ≤ M) where
    over : LeftOver family k L list all M
    over = demand_3 family k L list h all M some

    marks : (j : ℕ) → IsNode f k j → is_live (ran (last_session family k L list calls) nodes).session.live j ≡ is_in now j
    marks j n = rw last_is at (over.marks j (omega (arith, n.last, few f k start.range)))

    pub missing_open : (j : ℕ) → IsNode f k j → (is_live (ran (last_session family k L list calls) nodes).session.live j ≡ false) ↔ Open f k M list j
    missing_open j n =
        let quiet = ends (last_session family k L list calls) (made_after family k L list calls) (session_is family k L list start calls) e in
        let both = over.missing_open (λ j a b nj na nb mj la lb r. quiet j a b nj na nb (marks j nj ∙ mj) (marks a na ∙ la) (marks b nb ∙ lb) r) j n in
        ((λ m. both.0 (sym (marks j n) ∙ m)), (λ o. marks j n ∙ both.1 o))

pub missing_open_claim : MissingOpenClaim
missing_open_claim family k L list h calls nodes e M some j n = missing_open family k L list h calls nodes e M some j n

-- ---- read out

module _ (s : Session) (nodes result : List ℕ) (fits : Fits s nodes) (size : length result ≡ s.k * s.len) where
  abbrev code : Family
  code = family_of s.family

  -- data block i's node is missing
  abbrev gone : ℕ → Bool
  gone i = not (is_live s.live (data_node code s.k i))

  is_missing : missing_in s ≡ first_from gone 1 s.k
  unfolding missing_block
  is_missing = refl

  accepts : first_met (nodes_checks s (length nodes)) ≡ 0
  accepts = nodes_0 s (length nodes) fits.sound fits.size

  -- what read out gives, by the lowest missing block
  none_missing : missing_in s ≡ 0 → read_out_of s nodes result ≡ record { refusal = 0; block = 0; session = s }
  none_missing z = sym (read s nodes result (accepted_out s nodes result accepts size z)).answer_is

  some_missing_lem : (i : ℕ) → missing_in s ≡ i → 1 ≤ i → read_out_of s nodes result ≡ record { refusal = 14; block = i; session = s }
  some_missing_lem i z l = sym (by_block s nodes result accepts size i (sym z) (λ n. omega arith)).answer_is

  -- the block that a read out tells
  told : (refusal block : ℕ) → read_out_of s nodes result ≡ record { refusal = refusal; block = block; session = s } → missing_in s ≡ block
  told refusal block is = go (ℕ_discrete (missing_in s) 0)
    where
      go : Dec (missing_in s ≡ 0) → missing_in s ≡ block
      go (yes z) = z ∙ ap (λ (r : ReadOut). r.block) (sym (none_missing z) ∙ is)
      go (no n) = ap (λ (r : ReadOut). r.block) (sym (some_missing_lem (missing_in s) refl (omega arith)) ∙ is)

  told_some : (i : ℕ) → read_out_of s nodes result ≡ record { refusal = 14; block = i; session = s } → 1 ≤ i
  told_some i is = go (ℕ_discrete i 0)
    where
      go : Dec (i ≡ 0) → 1 ≤ i
      go (yes z) = let never : ◌≡◌ {A = ℕ} 0 14 = ap (λ (r : ReadOut). r.refusal) (sym (none_missing (told 14 i is ∙ z)) ∙ is) in absurd (omega arith)
      go (no n) = omega arith

  -- the blocks before the first whose node is missing
  before : {i : ℕ} → first_from gone 1 s.k ≡ i → (m : ℕ) → 1 ≤ m → m ≤ s.k → m < i → (b : Bool) → gone m ≡ b → gone m ≡ false
  before first m l h less true g = absurd (omega (arith, (first_least gone 1 s.k m (omega arith) l (omega arith) g).1))
  before first m l h less false g = g

  pub out_where_live : ((read_out_of s nodes result).refusal ≡ 0) ↔ ((i : ℕ) → 1 ≤ i → i ≤ s.k → is_live s.live (data_node code s.k i) ≡ true)
  out_where_live = (all_live, (λ live. ap (λ (r : ReadOut). r.refusal) (none_missing (is_missing ∙ first_none gone 1 s.k (λ i l h. ap not (live i l (omega arith)))))))
    where
      none : (read_out_of s nodes result).refusal ≡ 0 → Dec (missing_in s ≡ 0) → missing_in s ≡ 0
      none h (yes z) = z
      none h (no n) = absurd (omega (arith, h, ap (λ (r : ReadOut). r.refusal) (some_missing_lem (missing_in s) refl (omega arith))))

      all_live : (read_out_of s nodes result).refusal ≡ 0 → (i : ℕ) → 1 ≤ i → i ≤ s.k → is_live s.live (data_node code s.k i) ≡ true
      all_live h i l g = not-false _ (first_zero gone 1 s.k (omega arith) (sym is_missing ∙ none h (ℕ_discrete (missing_in s) 0)) i l (omega arith))

  -- where the missing nodes are the open ones
  module _ (list : List ℕ) (M : ℕ) (missing : (j : ℕ) → IsNode (family_of s.family) s.k j → (is_live s.live j ≡ false) ↔ Open (family_of s.family) s.k M list j) where
    module _ (i : ℕ) (l : 1 ≤ i) (h : i ≤ s.k) where
      node : IsNode code s.k (data_node code s.k i)
      node = (data_node_lem code s.k i (known s fits.sound).range.blocks l h).is_node

      gone_open : gone i ≡ true → Open code s.k M list (data_node code s.k i)
      gone_open g = (missing _ node).0 (not-true _ g)

      there_shut : gone i ≡ false → Open code s.k M list (data_node code s.k i) → ⊥
      there_shut g o = false≢true (sym ((missing _ node).1 o) ∙ not-false _ g)

      open_gone : Open code s.k M list (data_node code s.k i) → gone i ≡ true
      open_gone o = ap not ((missing _ node).1 o)

      shut_there : (Open code s.k M list (data_node code s.k i) → ⊥) → gone i ≡ false
      shut_there n = go (gone i) refl
        where
          go : (b : Bool) → gone i ≡ b → gone i ≡ false
          go true g = absurd (n (gone_open g))
          go false g = g

    pub out_where_open : OutWhereOpen s nodes result list M
    out_where_open = record { accepted = (all_shut, all_there); refused = λ i. (lowest i, first i) }
      where
        all_shut : read_out_of s nodes result ≡ record { refusal = 0; block = 0; session = s } → NoneOpen s.family s.k M list
        all_shut is i l h = there_shut i l h (first_zero gone 1 s.k (omega arith) (sym is_missing ∙ told 0 0 is) i l (omega arith))

        all_there : NoneOpen s.family s.k M list → read_out_of s nodes result ≡ record { refusal = 0; block = 0; session = s }
        all_there n = none_missing (is_missing ∙ first_none gone 1 s.k (λ i l h. shut_there i l (omega arith) (n i l (omega arith))))

        lowest : (i : ℕ) → read_out_of s nodes result ≡ record { refusal = 14; block = i; session = s } → LowestOpen s.family s.k M list i
        lowest i is =
            let first : first_from gone 1 s.k ≡ i = sym is_missing ∙ told 14 i is in
            let some = told_some i is in
            let at : Found gone 1 s.k i = rw first at (found gone 1 s.k (omega arith)) in
            let last : i ≤ s.k = omega (arith, at.below) in
            record {
              first = some;
              last = last;
              is_open = gone_open i some last at.passes;
              lowest = λ m l h. there_shut m l (omega arith) (before first m l (omega arith) h (gone m) refl);
            }

        first : (i : ℕ) → LowestOpen s.family s.k M list i → read_out_of s nodes result ≡ record { refusal = 14; block = i; session = s }
        first i o =
            some_missing_lem i
            (is_missing ∙ first_of gone 1 s.k i o.first (omega (arith, o.last)) (open_gone i o.first o.last o.is_open)
            (λ m l h. shut_there m l (omega (arith, o.last)) (o.lowest m l h)))
            o.first

pub out_where_live_claim : OutWhereLiveClaim
out_where_live_claim s nodes result fits size = out_where_live s nodes result fits size

pub out_after_run_claim : OutAfterRunClaim
out_after_run_claim family k L list h calls nodes e other result size room M some =
    let is = ran_is family k L list h calls nodes e in
    let begins = session_of family k L list in
    let arrays = start_arrays family k L list in
    let made = made_after family k L list (calls ++ (record { nodes = nodes; move = run } ∷ [])) in
    let s = after_steps begins made in
    let before = session_is family k L list (from_start family k L list (start_accepted family k L list h)) calls in
    let last : Arrays (last_session family k L list calls) = rw before (after_arrays begins arrays (made_after family k L list calls)) in
    let sound = (ran_sized (last_session family k L list calls) nodes (run_accepted (last_session family k L list calls) nodes e) last).sound in
    let fits : Fits s other = record { arrays = after_arrays begins arrays made; sound = rw is at sound; size = size } in
    rw is (out_where_open s other result fits room list M (λ j n. rw is at (missing_open family k L list h calls nodes e M some j n)))

-- ---- the whole way

-- session and buffer after calls
state_fits : (s : Session) (nodes : List ℕ) (moves : List Move) → Fits s nodes → Fits (state_after called s nodes moves).session (state_after called s nodes moves).nodes
unfolding state_after
state_fits s nodes [] f = f
state_fits s nodes (move ∷ moves) f = state_fits (called s nodes move).session (called s nodes move).nodes moves (fits_call s nodes f move)

-- one more run
state_more : (s : Session) (nodes : List ℕ) (moves : List Move)
    → state_after called s nodes (moves ++ (run ∷ []))
    ≡ record { session = (ran (state_after called s nodes moves).session (state_after called s nodes moves).nodes).session; nodes = nodes_ran (state_after called s nodes moves).session (state_after called s nodes moves).nodes }
unfolding state_after
state_more s nodes [] = refl
state_more s nodes (move ∷ moves) = state_more (called s nodes move).session (called s nodes move).nodes moves

-- the calls on one buffer, each with the buffer as it gets it
calls_on : Session → List ℕ → List Move → List Call
calls_on s nodes [] = []
calls_on s nodes (move ∷ moves) = record { nodes = nodes; move = move } ∷ calls_on (called s nodes move).session (called s nodes move).nodes moves

state_calls : (s : Session) (nodes : List ℕ) (moves : List Move) → (state_after called s nodes moves).session ≡ session_after_all called s (calls_on s nodes moves)
unfolding state_after session_after_all calls_on
state_calls s nodes [] = refl
state_calls s nodes (move ∷ moves) = state_calls (called s nodes move).session (called s nodes move).nodes moves

-- a box that is read, calls, and a run: the box's session is that of a start with its node numbers
module _ (bytes nodes : List ℕ) (e : first_met (read_checks bytes nodes) ≡ 0) where
  passes : first_met (box_checks bytes) ≡ 0
  passes = (accepted_read bytes nodes e).passes

  abbrev from_box : Started
  from_box = started (family_in bytes) (k_in bytes) (block_length_in bytes) (names_in bytes)

  sound : from_box.refusal ≡ 0
  sound = ap (λ (r : Started). r.refusal) (sym (box_start_claim bytes (checks bytes passes)).start) ∙ checks bytes passes

  session_from : (read_box bytes nodes).session ≡ from_box.session
  session_from =
      let c = box_start_claim bytes (checks bytes passes) in
      session_read bytes nodes e ∙ ap (λ (r : Started). r.session) (sym c.is ∙ c.start)

  module _ (moves : List Move) where
    abbrev state : State Session
    state = state_after called (read_box bytes nodes).session (nodes_read bytes nodes) moves

    abbrev calls : List Call
    calls = calls_on (read_box bytes nodes).session (nodes_read bytes nodes) moves

    state_is : state.session ≡ last_session (family_in bytes) (k_in bytes) (block_length_in bytes) (names_in bytes) calls
    state_is = state_calls (read_box bytes nodes).session (nodes_read bytes nodes) moves ∙ ap (λ (s : Session). session_after_all called s calls) session_from

    fits : Fits state.session state.nodes
    fits = state_fits (read_box bytes nodes).session (nodes_read bytes nodes) moves (read_fits bytes nodes e)

    pub read_runs : (ran state.session state.nodes).refusal ≡ 0
    read_runs = fits_claim.run state.session state.nodes fits

    -- what the run leaves has the box's n × L bytes
    ran_size : length (nodes_ran state.session state.nodes) ≡ node_count_in bytes * block_length_in bytes
    ran_size =
        let is = ran_is (family_in bytes) (k_in bytes) (block_length_in bytes) (names_in bytes) sound calls state.nodes (rw state_is at read_runs) in
        (fits_call state.session state.nodes fits run).size
        ∙ ap (λ (s : Session). node_count_of s * s.len) (ap (λ (s : Session). (ran s state.nodes).session) state_is ∙ is)

    pub read_back : (result : List ℕ) → length result ≡ k_in bytes * block_length_in bytes → (M : ℕ) → 1 ≤ M
        → OutWhereOpen (ran state.session state.nodes).session (nodes_ran state.session state.nodes) result (names_in bytes) M
    read_back result size M some =
        let out = out_after_run_claim (family_in bytes) (k_in bytes) (block_length_in bytes) (names_in bytes) sound calls state.nodes (rw state_is at read_runs) (nodes_ran state.session state.nodes) result ran_size size M some in
        rw (sym state_is) at out

module _ (way : Way) (on : OnTheWay way) (moves : List Move) where
  abbrev box : List ℕ
  box = box_away way

  abbrev read_session : Session
  read_session = (read_box box way.other).session

  abbrev read_nodes : List ℕ
  read_nodes = nodes_read box way.other

  reads : first_met (read_checks box way.other) ≡ 0
  reads = read_accepted box way.other on.read

  -- the box has the way's k and L
  start_is : (start_of way).session ≡ session_of way.family way.k way.len way.live
  start_is = session_started way.family way.k way.len way.live (start_accepted way.family way.k way.len way.live on.start)

  writes : first_met (write_checks (start_of way).session (nodes_encoded way) way.list way.out) ≡ 0
  writes = write_accepted (start_of way).session (nodes_encoded way) way.list way.out on.write

  fields : FieldsOf (start_of way).session.family (start_of way).session.k (start_of way).session.len way.list (nodes_encoded way)
  fields = fields_of (start_of way).session.family (start_of way).session.k (start_of way).session.len way.list (nodes_encoded way)

  object_is : k_in box * block_length_in box ≡ way.k * way.len
  object_is =
      let is = box_written_lem (start_of way).session (nodes_encoded way) way.list way.out writes in
      ap₂ ◌*◌
      (ap k_in is ∙ fields.k_is ∙ ap (λ (s : Session). s.k) start_is)
      (ap block_length_in is ∙ fields.length_is ∙ ap (λ (s : Session). s.len) start_is)

  -- every live block is the object's, from encode to the last call
  own : OwnClaims way.object read_session read_nodes moves
  own =
      let c = own_box_claim in
      let is = session_read box way.other reads in
      own_claim way.object read_session read_nodes (read_fits box way.other reads).arrays
      (rw is ((accepted_call way.family way.k way.len way.object way.nodes on.encode).first ∙ sym object_is))
      (c.read way.object box way.other
      (c.write way.object (start_of way).session (nodes_encoded way) way.list way.out
      (c.encode way.family way.k way.len way.object way.nodes way.live on.encode on.start)
      on.write)
      on.read)
      moves

  back : (result : List ℕ) → length result ≡ way.k * way.len → (M : ℕ) → 1 ≤ M
      → OutWhereOpen (ran (state_at way moves).session (state_at way moves).nodes).session (nodes_ran (state_at way moves).session (state_at way moves).nodes) result (names_in box) M
  back result size M some = read_back box way.other reads moves result (size ∙ sym object_is) M some

pub whole_way_claim : WholeWayClaim
unfolding read_out_of
whole_way_claim way on moves =
    record {
      live = (own way on moves).live;
      out = λ result h. (own way on moves).out result h;
      runs = read_runs (box_away way) way.other (read_accepted (box_away way) way.other on.read) moves;
      back = back way on moves;
      again = subst (λ (h : State Session). (result : List ℕ) → (read_out_of h.session h.nodes result).refusal ≡ 0 → object_out h.session h.nodes result ≡ way.object)
          (state_more (read_box (box_away way) way.other).session (nodes_read (box_away way) way.other) moves) (own way on (moves ++ (run ∷ []))).out;
    }
