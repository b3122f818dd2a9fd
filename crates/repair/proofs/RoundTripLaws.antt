-- What an accepted write says and what its box checks and reads to, and how an accepted box that is read is written again.
-- Assumes nothing.
use mathlib.Core.Path.{◌≡◌, refl, sym, ap, ap₂, ◌∙◌}
use mathlib.Core.Bool.{true, false, not}
use mathlib.Core.List.{List, [], ◌∷◌, ◌++◌, flat_map}
use Prim.Native.Nat.{ℕ, ◌*◌, ◌≤◌, ◌<◌}
use native.Mathlib.Omega.{arith}
use borrow.Author.Tests.{eqb-true, eq-eqb, ltb-false, le-ltb, not-false}
use lib.Dec.{eqb}
use lib.ListN.{length, get_or, take, drop}
use lib.Seq.{take_at}
use Rattle.families.specs.Families.{family_of}
use Rattle.families.proofs.Laws.{few}
use Rattle.checks.specs.Checks.{Check, ◌gives◌, first_met}
use Rattle.checks.specs.Claims.{InRange}
use Rattle.checks.proofs.Laws.{accepted, none_zero, none_append}
use Rattle.blocks.specs.Blocks.{block_of}
use Rattle.lists.specs.Lists.{some_outside, rises, some_missing}
use Rattle.lists.proofs.Laws.{live_nodes_of_list, live_nodes_live, rising_few}
use Rattle.boxes.specs.Box.{family_in, k_in, block_length_in, names_in, bodies_in, node_count_in, box_checks}
use Rattle.boxes.specs.Bodies.{box_of, with_bodies}
use Rattle.boxes.specs.Inner.{ListIn}
use Rattle.boxes.specs.Claims.{AcceptedBox}
use Rattle.boxes.proofs.Answers.{box_none}
use Rattle.boxes.proofs.Laws.{accepted_box, box_accepted, FieldsOf, fields_of, box_of_fields, length-box_of, length-with_bodies, bodies_there, bodies_same, bodies_other, list_in}
use Rattle.repair.specs.declared.Session.{Session}
use Rattle.repair.specs.Session.{session_of, node_count_of, unsound, nodes_checks}
use Rattle.repair.specs.Boxed.{session_in, checked_box, read_checks, read_box, nodes_read, written_length, write_checks, written, out_written}
use Rattle.repair.specs.LiveNodes.{live_nodes_of}
use Rattle.repair.specs.Claims.{box_written, WrittenAgain}
use Rattle.repair.proofs.StartLaws.{known, start_sound}

-- ---- the nodes that are written

-- the numbers of a list are those of nodes, and rise
pub record Good (n : ℕ) (list : List ℕ) : Type 0 where
  pub outside : some_outside n list ≡ false
  pub rising : rises list ≡ true

-- what an accepted write says
pub record AcceptedWrite (s : Session) (nodes list out : List ℕ) : Type 0 where
  pub range : InRange s.family s.k s.len
  pub sound : unsound s ≡ false
  pub size : length nodes ≡ node_count_of s * s.len
  pub good : Good (node_count_of s) list
  pub live : some_missing s.live list ≡ false
  pub room : written_length s list ≤ length out

pub accepted_write : (s : Session) (nodes list out : List ℕ) → first_met (write_checks s nodes list out) ≡ 0 → AcceptedWrite s nodes list out
unfolding write_checks nodes_checks
accepted_write s nodes list out e =
    let n = accepted (write_checks s nodes list out) refl e in
    record {
      range = (known s n.0).range;
      sound = n.0;
      size = eqb-true (length nodes) (node_count_of s * s.len) (not-false _ n.1.0);
      good = record { outside = n.1.1.0; rising = not-false (rises list) n.1.1.1.0 };
      live = n.1.1.1.1.0;
      room = ltb-false (length out) (written_length s list) n.1.1.1.1.1.0;
    }

-- ---- the box that a write leaves, checked and read

module _ (s : Session) (nodes list out : List ℕ) (e : first_met (write_checks s nodes list out) ≡ 0) where
  says : AcceptedWrite s nodes list out
  says = accepted_write s nodes list out e

  -- a buffer of n × L bytes has the listed nodes
  listed_in : (buffer : List ℕ) → length buffer ≡ node_count_of s * s.len → ListIn s.len buffer list
  listed_in buffer h = list_in s.len (node_count_of s) buffer list h says.good.outside

  -- what is left is the box of the listed nodes
  pub box_written_lem : box_written s nodes list out ≡ box_of s.family s.k s.len list nodes
  unfolding out_written
  box_written_lem =
      rw e
      (take_at (box_of s.family s.k s.len list nodes) (drop (written_length s list) out) (written_length s list)
      (length-box_of s.family s.k s.len list nodes (listed_in nodes says.size)))

  box_size : length (box_written s nodes list out) ≡ written_length s list
  box_size = ap length box_written_lem ∙ length-box_of s.family s.k s.len list nodes (listed_in nodes says.size)

  -- its length is returned, there is room for it, and beyond it nothing is written
  pub write_answer : written s nodes list out ≡ record { refusal = 0; length = length (box_written s nodes list out); session = s }
  unfolding written
  write_answer = rw (box_size, e)

  pub write_room : length (box_written s nodes list out) ≤ length out
  write_room = omega (arith, box_size, says.room)

  done : out_written s nodes list out ≡ box_of s.family s.k s.len list nodes ++ drop (written_length s list) out
  unfolding out_written
  done = rw e

  pub write_rest : out_written s nodes list out ≡ box_written s nodes list out ++ drop (length (box_written s nodes list out)) out
  write_rest = rw (box_size, box_written_lem) done

  -- and it is accepted
  pub box_passes : first_met (box_checks (box_of s.family s.k s.len list nodes)) ≡ 0
  box_passes =
      let g = says.good in
      box_accepted s.family s.k s.len list nodes says.range g.outside g.rising
      (rising_few (node_count_of s) list g.outside g.rising) says.size

  fields : FieldsOf s.family s.k s.len list nodes
  fields = fields_of s.family s.k s.len list nodes

  pub box_names : names_in (box_written s nodes list out) ≡ list
  box_names = ap names_in box_written_lem ∙ fields.names_is

  -- it checks to the session of the listed nodes
  pub box_checked : checked_box (box_written s nodes list out) ≡ record { refusal = 0; session = session_of s.family s.k s.len list }
  unfolding checked_box
  box_checked = ap checked_box box_written_lem ∙ rw (box_passes, fields.names_is, fields.length_is, fields.k_is, fields.family_is)

  module _ (other : List ℕ) (h : length other ≡ node_count_of s * s.len) where
    reads : first_met (read_checks (box_of s.family s.k s.len list nodes) other) ≡ 0
    unfolding read_checks first_met
    reads =
        let box = box_of s.family s.k s.len list nodes in
        none_append (box_checks box) _ (box_none box box_passes)
        ∙ rw (fields.length_is, fields.k_is, fields.family_is, eq-eqb (length other) (node_count_of s * s.len) h)

    -- it reads into a buffer of n × L bytes, to the session that it checks to
    pub box_reads : read_box (box_written s nodes list out) other ≡ checked_box (box_written s nodes list out)
    unfolding read_box checked_box
    box_reads = rw (box_written_lem, reads, box_passes)

    -- the bodies of the buffer that was written
    box_read : nodes_read (box_written s nodes list out) other ≡ with_bodies s.len other list (flat_map (block_of s.len nodes) list)
    unfolding nodes_read
    box_read = ap (λ (x : List ℕ). nodes_read x other) box_written_lem ∙ rw (reads, fields.bodies_is, fields.names_is, fields.length_is)

    pub bodies_read : (i : ℕ) → i < length list
        → block_of s.len (nodes_read (box_written s nodes list out) other) (get_or list i 0) ≡ block_of s.len nodes (get_or list i 0)
    bodies_read i l = rw box_read (bodies_same s.len nodes other list i says.good.rising (listed_in nodes says.size) (listed_in other h) l)

-- ---- an accepted box, read

-- where none of two lists of checks is met, none of the first is
front_none : (checks later : List Check) → first_met (checks ++ later) ≡ 0 → first_met checks ≡ 0
unfolding first_met
front_none [] later e = refl
front_none ((true gives n) ∷ checks) later e = e
front_none ((false gives n) ∷ checks) later e = front_none checks later e

-- what an accepted read says
pub record AcceptedRead (bytes nodes : List ℕ) : Type 0 where
  pub passes : first_met (box_checks bytes) ≡ 0
  pub size : length nodes ≡ node_count_in bytes * block_length_in bytes

pub accepted_read : (bytes nodes : List ℕ) → first_met (read_checks bytes nodes) ≡ 0 → AcceptedRead bytes nodes
unfolding read_checks
accepted_read bytes nodes e =
    let sizes = (not (eqb (length nodes) (node_count_in bytes * block_length_in bytes)) gives 6) ∷ [] in
    let p = front_none (box_checks bytes) sizes e in
    let n = accepted sizes refl (sym (none_append (box_checks bytes) sizes (box_none bytes p)) ∙ e) in
    record { passes = p; size = eqb-true _ _ (not-false _ n.0) }

-- the named nodes are the live ones of the session of an accepted box
module _ (bytes : List ℕ) (a : AcceptedBox bytes) where
  few_nodes : node_count_in bytes ≤ 255
  few_nodes = few (family_of (family_in bytes)) (k_in bytes) a.range.blocks

  pub names_are : live_nodes_of (session_in bytes) ≡ names_in bytes
  names_are = live_nodes_of_list (node_count_in bytes) (names_in bytes) few_nodes a.nodes a.rising

  names_live : some_missing (session_in bytes).live (names_in bytes) ≡ false
  names_live = rw names_are at (live_nodes_live (session_in bytes).live (node_count_in bytes))

  -- that session is sound
  pub box_sound : unsound (session_in bytes) ≡ false
  box_sound = start_sound (family_in bytes) (k_in bytes) (block_length_in bytes) (names_in bytes) a.range a.nodes

-- ---- and written again

module _ (bytes nodes : List ℕ) (e : first_met (read_checks bytes nodes) ≡ 0) where
  passed : AcceptedBox bytes
  passed = accepted_box bytes (accepted_read bytes nodes e).passes

  names_in_lem : ListIn (block_length_in bytes) nodes (names_in bytes)
  names_in_lem = list_in (block_length_in bytes) (node_count_in bytes) nodes (names_in bytes) (accepted_read bytes nodes e).size passed.nodes

  -- as many bodies as names
  bodies_held : length (bodies_in bytes) ≡ length (names_in bytes) * block_length_in bytes
  bodies_held = rw passed.names_size passed.bodies_size

  -- what was read
  pub session_read : (read_box bytes nodes).session ≡ session_in bytes
  unfolding read_box
  session_read = rw e

  pub read_is : nodes_read bytes nodes ≡ with_bodies (block_length_in bytes) nodes (names_in bytes) (bodies_in bytes)
  unfolding nodes_read
  read_is = rw e

  pub read_size : length (nodes_read bytes nodes) ≡ node_count_in bytes * block_length_in bytes
  read_size = rw read_is (length-with_bodies (block_length_in bytes) nodes (names_in bytes) (bodies_in bytes) names_in_lem bodies_held ∙ (accepted_read bytes nodes e).size)

  pub read_keeps : (j : ℕ) → 1 ≤ j → ((i : ℕ) → i < length (names_in bytes) → get_or (names_in bytes) i 0 ≡ j → ⊥)
      → block_of (block_length_in bytes) (nodes_read bytes nodes) j ≡ block_of (block_length_in bytes) nodes j
  read_keeps j p n = rw read_is (bodies_other (block_length_in bytes) nodes (names_in bytes) (bodies_in bytes) j names_in_lem bodies_held p n)

  module _ (byte : get_or bytes 2 0 < 256) (out : List ℕ) (room : length bytes ≤ length out) where
    -- the box of what was read is the box
    box_again : box_of (family_in bytes) (k_in bytes) (block_length_in bytes) (names_in bytes) (nodes_read bytes nodes) ≡ bytes
    box_again =
        box_of_fields bytes (nodes_read bytes nodes) byte (accepted_read bytes nodes e).passes
        (rw read_is (bodies_there (block_length_in bytes) nodes (names_in bytes) (bodies_in bytes) passed.rising names_in_lem bodies_held))

    -- by its own list
    pub again : WrittenAgain bytes nodes (names_in bytes) out
    unfolding written out_written write_checks nodes_checks
    again =
        let s = session_in bytes in
        let list = names_in bytes in
        let long : written_length s list ≡ length bytes = rw passed.names_size (sym passed.size) in
        let none : first_met (write_checks s (nodes_read bytes nodes) list out) ≡ 0
        = none_zero (write_checks s (nodes_read bytes nodes) list out)
        (box_sound bytes passed, (ap not (eq-eqb _ _ read_size), (passed.nodes, (ap not passed.rising, (names_live bytes passed, (le-ltb (length out) (written_length s list) (omega arith), tt)))))) in
        let rest : out_written s (nodes_read bytes nodes) list out ≡ bytes ++ drop (length bytes) out = rw (none, long, box_again) in
        let box = ap₂ (λ (n : ℕ) (x : List ℕ). take n x) long rest ∙ take_at bytes (drop (length bytes) out) (length bytes) refl in
        record { answer = rw (session_read, none, long); rest = rw session_read rest; box = rw session_read box }
