-- The claims of specs/Claims.antt. What is cited of boxes and sessions is claims alone.
-- Assumes nothing.
use mathlib.Core.Path.{◌≡◌, refl, sym, ap, ap₂, ◌∙◌, subst}
use mathlib.Core.Bool.{true, false}
use mathlib.Core.List.{List, [], ◌∷◌}
use mathlib.Core.Logic.{◌↔◌}
use Prim.Native.Nat.{ℕ, ◌*◌, ◌≤◌, ◌<◌}
use native.Mathlib.Nat.{mul-le-mul_right}
use native.Mathlib.Omega.{arith}
use lib.ListN.{length, get_or, replicate, length-replicate}
use Rattle.families.specs.Families.{family_of, IsNode}
use Rattle.families.proofs.Proved.{family_claims}
use Rattle.lists.specs.Lists.{is_live, is_in}
use Rattle.blocks.specs.Blocks.{block_of}
use Rattle.boxes.specs.Box.{family_in, k_in, block_length_in, held_count_in, names_in, node_count_in, box_length, body_of}
use Rattle.boxes.specs.Bodies.{box_of}
use Rattle.boxes.specs.Claims.{Named}
use Rattle.boxes.proofs.Proved.{box_claim, body_claim}
use Rattle.leftover.specs.Open.{Open}
use Rattle.repair.specs.declared.Session.{Session}
use Rattle.repair.specs.Answers.{Started, Written, Repairs}
use Rattle.repair.specs.Session.{afresh, node_count_of, unsound}
use Rattle.repair.specs.Boxed.{session_in, checked_box, read_box, nodes_read, written}
use Rattle.repair.specs.LiveNodes.{live_nodes_of}
use Rattle.repair.specs.Repairs.{ran, nodes_ran}
use Rattle.repair.specs.Calls.{run, session_after_all, state_after}
use Rattle.repair.specs.Claims.{box_written, WriteReadClaims, list_left, LiveListClaims}
use Rattle.repair.specs.RepairClaims.{LiveAreOwn, RunAgain}
use Rattle.repair.specs.WholeWay.{SameCode, BodiesAreOwn}
use Rattle.repair.proofs.Proved.{start_marks_claim, box_start_claim, write_read_claim, read_write_claim, read_body_claim, written_body_claim}
use Rattle.repair.proofs.RepairsProved.{live_stays, run_claim, own_claim}
use Rattle.repair.proofs.WholeWayProved.{write_live_claim, own_box_claim, missing_open_claim}
use Rattle.listing.proofs.ListingLaws.{Accepted}
use Rattle.refilling.specs.Refilled.{after_run, box_after_run, nodes_given, refilled_of}
use Rattle.refilling.specs.Claims.{RefilledClaim}
use Rattle.refilling.proofs.Laws.{box, session_is, same, read_is, reads, buffer_fits, runs, after_fits, listed_claims, written_claims, refilled_is}

-- ---- what is written of an accepted box that is not too long

-- the box of all live nodes of a session
abbrev live_box : Session → List ℕ → List ℕ
live_box s nodes = box_of s.family s.k s.len (live_nodes_of s) nodes

module _ (input : List ℕ) (passes : (checked_box input).refusal ≡ 0) (short : box_length (node_count_in input) (block_length_in input) ≤ 65536) where
  abbrev given : Session
  given = (checked_box input).session

  given_is : given ≡ session_in input
  given_is = session_is input passes

  -- the box is read into zeros
  abbrev zeros : List ℕ
  zeros = replicate (node_count_in input * block_length_in input) 0

  zeros_fit : length zeros ≡ node_count_in input * block_length_in input
  zeros_fit = length-replicate (node_count_in input * block_length_in input) 0

  abbrev buffer : List ℕ
  buffer = nodes_read input zeros

  -- and written from there once the plan is run, into room for all nodes
  abbrev next : Session
  next = after_run given buffer

  abbrev after : List ℕ
  after = nodes_ran given buffer

  abbrev room : List ℕ
  room = replicate (box_length (node_count_in input) (block_length_in input)) 0

  room_fits : length room ≡ box_length (node_count_in input) (block_length_in input)
  room_fits = length-replicate (box_length (node_count_in input) (block_length_in input)) 0

  -- by the list of its live nodes
  abbrev lent : List ℕ
  lent = replicate 255 0

  lists : LiveListClaims next lent
  lists = listed_claims input passes zeros zeros_fit lent refl

  abbrev names : List ℕ
  names = list_left next lent

  wrote : WriteReadClaims next after names room
  wrote = written_claims input passes zeros zeros_fit lent refl room (omega (arith, room_fits))

  accepted_input : Accepted input
  accepted_input =
      let b = box input passes in
      record { fits = omega (arith, b.size, b.few_held, mul-le-mul_right (block_length_in input) b.few_held); passes = passes }

  abbrev refilled : List ℕ
  refilled = refilled_of input

  is_box : refilled ≡ live_box next after
  unfolding box_after_run nodes_given
  is_box = refilled_is input accepted_input short

  is_written : refilled ≡ box_written next after names room
  is_written = is_box ∙ ap (λ (list : List ℕ). box_of next.family next.k next.len list after) (sym lists.is) ∙ sym wrote.box

  writes : (written next after names room).refusal ≡ 0
  writes = ap (λ (r : Written). r.refusal) wrote.answer

  names_are : names_in refilled ≡ names
  names_are = ap names_in is_written ∙ wrote.names

  -- its session is the one that it was written from, with zeros in its counts
  checked : checked_box refilled ≡ record { refusal = 0; session = afresh next }
  checked = ap checked_box is_written ∙ write_live_claim next after lent room (after_fits input passes zeros zeros_fit).arrays.marks (ap (λ (r : Written). r.refusal) lists.answer) writes

  accepted : (checked_box refilled).refusal ≡ 0
  accepted = ap (λ (r : Started). r.refusal) checked

  session_kept : session_in refilled ≡ afresh next
  session_kept = ap (λ (r : Started). r.session) (sym (box_start_claim refilled accepted).is ∙ checked)

  -- of the same family, k and L
  code : SameCode (session_in input) (session_in refilled)
  code =
      let c = same input passes zeros zeros_fit in
      rw session_kept
      (record { family = c.family ∙ ap (λ (s : Session). s.family) given_is; k = c.k ∙ ap (λ (s : Session). s.k) given_is; len = c.len ∙ ap (λ (s : Session). s.len) given_is })

  -- ---- which nodes it holds

  module _ (j : ℕ) (node : IsNode (family_of (family_in input)) (k_in input) j) where
    low : j < 256
    low = omega (arith, node.last, (family_claims (family_of (family_in input)) (k_in input) (box input passes).range.blocks).few)

    -- those that are live in the session that it was written from
    named_live : is_in (names_in refilled) j ≡ is_live next.live j
    named_live =
        let from = sym (box_start_claim refilled accepted).start ∙ checked in
        sym (start_marks_claim (family_in refilled) (k_in refilled) (block_length_in refilled) (names_in refilled) (ap (λ (r : Started). r.refusal) from) j low)
        ∙ ap (λ (r : Started). is_live r.session.live j) from

    -- and after the run the missing ones are the open ones
    missing : (M : ℕ) → 1 ≤ M → (is_live (ran given buffer).session.live j ≡ false) ↔ Open (family_of (family_in input)) (k_in input) M (names_in input) j
    unfolding session_after_all
    missing M some =
        let from = (box_start_claim input passes).start in
        subst (λ (r : Started). (is_live (ran r.session buffer).session.live j ≡ false) ↔ Open (family_of (family_in input)) (k_in input) M (names_in input) j) (sym from)
        (missing_open_claim (family_in input) (k_in input) (block_length_in input) (names_in input) (ap (λ (r : Started). r.refusal) (sym from) ∙ passes) [] buffer
        (subst (λ (r : Started). (ran r.session buffer).refusal ≡ 0) from (runs input passes zeros zeros_fit))
        M some j node)

    holds : (M : ℕ) → 1 ≤ M → (is_in (names_in refilled) j ≡ false) ↔ Open (family_of (family_in input)) (k_in input) M (names_in input) j
    holds M some = let m = missing M some in ((λ h. m.0 (sym named_live ∙ h)), (λ o. named_live ∙ m.1 o))

  -- ---- its bodies

  module _ (i : ℕ) (l : i < held_count_in input) where
    abbrev node : ℕ
    node = get_or (names_in input) i 0

    is_node : IsNode (family_of (family_in input)) (k_in input) node
    is_node = (body_claim input ((box_claim input).1 (box input passes)) i l).node

    live_before : is_live given.live node ≡ true
    live_before = ((box_start_claim input passes).named node (low node is_node)).1 (record { place = i; within = l; there = refl })

    at : Named refilled node
    at = ((box_start_claim refilled accepted).named node (low node is_node)).0 (rw checked (live_stays given buffer run node live_before))

    -- written, it is the node's block, which the run left as it was read
    block_written : body_of refilled node ≡ block_of next.len after node
    block_written =
        let there : get_or names at.place 0 ≡ node = ap (λ (l : List ℕ). get_or l at.place 0) (sym names_are) ∙ at.there in
        let within : at.place < length names = omega (arith, at.within, (box refilled accepted).names_size, ap length names_are) in
        ap (λ (b : List ℕ). body_of b node) is_written ∙ rw there at (written_body_claim next after names room writes at.place within)

    keeps : body_of refilled node ≡ body_of input node
    keeps =
        block_written
        ∙ ap (λ (L : ℕ). block_of L after node) (same input passes zeros zeros_fit).len
        ∙ (run_claim given (buffer_fits input passes zeros zeros_fit).arrays buffer (runs input passes zeros zeros_fit)).live_kept node
        (subst (λ (s : Session). IsNode (family_of s.family) s.k node) (sym given_is) is_node) live_before
        ∙ ap (λ (L : ℕ). block_of L buffer node) (ap (λ (s : Session). s.len) given_is)
        ∙ read_body_claim input zeros (reads input passes zeros zeros_fit) i l

  own : (object : List ℕ) → length object ≡ k_in input * block_length_in input → BodiesAreOwn object input → BodiesAreOwn object refilled
  unfolding state_after
  own object size bodies =
      let c = own_box_claim in
      let read-own : LiveAreOwn object given buffer
      = subst (λ (r : Started). LiveAreOwn object r.session buffer) (read_is input passes zeros zeros_fit) (c.read object input zeros bodies (reads input passes zeros zeros_fit)) in
      let moved = own_claim object given buffer (buffer_fits input passes zeros zeros_fit).arrays (size ∙ ap (λ (s : Session). s.k * s.len) (sym given_is)) read-own (run ∷ []) in
      subst (BodiesAreOwn object) (sym is_written) (c.write object next after names room moved.live writes)

-- ---- refilled again

module _ (input : List ℕ) (passes : (checked_box input).refusal ≡ 0) (short : box_length (node_count_in input) (block_length_in input) ≤ 65536) where
  abbrev first : List ℕ
  first = refilled_of input

  abbrev start : Session
  start = (checked_box input).session

  abbrev read_first : List ℕ
  read_first = buffer input passes short

  passes_again : (checked_box first).refusal ≡ 0
  passes_again = accepted input passes short

  short_again : box_length (node_count_in first) (block_length_in first) ≤ 65536
  short_again = let c = code input passes short in rw (c.family, c.k, c.len) short

  -- what is read of the first box
  abbrev read_again : List ℕ
  read_again = buffer first passes_again short_again

  reads_again : (read_box first (zeros first passes_again short_again)).refusal ≡ 0
  reads_again = reads first passes_again (zeros first passes_again short_again) (zeros_fit first passes_again short_again)

  -- the session is the one after the first run, with zeros in its counts
  session_again : (read_box first (zeros first passes_again short_again)).session ≡ afresh (next input passes short)
  session_again =
      ap (λ (r : Started). r.session) (read_is first passes_again (zeros first passes_again short_again) (zeros_fit first passes_again short_again) ∙ checked input passes short)

  -- the second run leaves session and buffer as they were
  abbrev room_of : Session → ℕ
  room_of s = node_count_of s * s.len

  same_size : node_count_in first * block_length_in first ≡ node_count_in input * block_length_in input
  same_size = let c = code input passes short in rw (c.family, c.k, c.len)

  quiet : RunAgain start read_first (afresh (next input passes short)) read_again
  quiet =
      let f = buffer_fits input passes (zeros input passes short) (zeros_fit input passes short) in
      let g = buffer_fits first passes_again (zeros first passes_again short_again) (zeros_fit first passes_again short_again) in
      (run_claim start f.arrays read_first (runs input passes (zeros input passes short) (zeros_fit input passes short))).again (afresh (next input passes short)) read_again
      refl (subst (λ (r : Started). unsound r.session ≡ false) (checked input passes short) g.sound)
      (g.size ∙ ap room_of (session_is first passes_again) ∙ same_size ∙ ap room_of (sym (given_is input passes short)))

  low_byte : get_or first 2 0 < 256
  unfolding box_of
  low_byte = rw (is_box input passes short) (omega arith)

  again : refilled_of first ≡ first
  again =
      let w = (read_write_claim first (zeros first passes_again short_again) first low_byte reads_again (omega arith)).0 in
      let own-list = sym (lists input passes short).is ∙ sym (names_are input passes short) in
      is_box first passes_again short_again
      ∙ ap (λ (r : Started). live_box (after_run r.session read_again) (nodes_ran r.session read_again)) (checked input passes short)
      ∙ ap₂ (λ (r : Repairs) (b : List ℕ). live_box r.session b) quiet.answer quiet.nodes_are
      ∙ ap₂ (λ (s : Session) (list : List ℕ). box_of s.family s.k s.len list read_again) (sym session_again) own-list
      ∙ sym (write_read_claim (read_box first (zeros first passes_again short_again)).session read_again (names_in first) first (ap (λ (r : Written). r.refusal) w.answer)).box
      ∙ w.box

pub refilled_claim : RefilledClaim
refilled_claim input passes short =
    let c = code input passes short in
    record {
      accepted = accepted input passes short;
      family = c.family;
      k = c.k;
      L = c.len;
      holds = λ M some j n. holds input passes short j n M some;
      keeps = keeps input passes short;
      own = own input passes short;
      again = again input passes short;
    }
