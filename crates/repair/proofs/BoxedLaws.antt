-- What check, read and write answer, check by check, and what that leaves in the buffers.
-- Assumes nothing.
use mathlib.Core.Path.{◌≡◌, refl, sym, ap, ◌∙◌}
use mathlib.Core.Bool.{true, false}
use mathlib.Core.List.{List, [], ◌∷◌, ◌++◌, append_assoc}
use Prim.Native.Nat.{ℕ, ◌*◌, ◌≤◌, ◌<◌}
use native.Mathlib.Omega.{arith}
use borrow.Author.Tests.{eq-eqb, ne_eqb, lt-ltb, le-ltb, not-false}
use lib.Dec.{ltb}
use lib.ListN.{length, drop}
use Rattle.checks.specs.Checks.{Check, ◌gives◌, first_met}
use Rattle.checks.specs.Claims.{NoneMet}
use Rattle.checks.proofs.Laws.{accepted, none_append, some_append}
use Rattle.checks.proofs.AnswerLaws.{Gives, serves, refuses}
use Rattle.lists.specs.Lists.{some_outside, rises, list_checks, some_missing}
use Rattle.lists.proofs.Laws.{list_accepted}
use Rattle.boxes.specs.Box.{block_length_in, names_in, bodies_in, node_count_in, box_checks}
use Rattle.boxes.specs.Bodies.{box_of, with_bodies}
use Rattle.boxes.proofs.Answers.{box_none}
use Rattle.repair.specs.declared.Session.{Session}
use Rattle.repair.specs.Answers.{Started, Written}
use Rattle.repair.specs.Session.{refused_start, node_count_of, nodes_checks}
use Rattle.repair.specs.Boxed.{session_in, read_checks, read_box, nodes_read, written_length, refused_write, write_checks, written, out_written}
use Rattle.repair.proofs.StartLaws.{nodes_none}

-- ---- a box

module _ (bytes nodes : List ℕ) where
  -- an answer, and the nodes buffer afterwards
  abbrev pub Reads : Started → List ℕ → Type 0
  Reads = Gives (read_box bytes nodes) (nodes_read bytes nodes)

  refused : (number : ℕ) → number ≡ first_met (read_checks bytes nodes) → (number ≡ 0 → ⊥) → Reads (refused_start number) nodes
  unfolding read_box nodes_read
  refused number e h = refuses (read_checks bytes nodes) _ refused_start _ nodes number e h

  pub read_by_box : (number : ℕ) → number ≡ first_met (box_checks bytes) → (number ≡ 0 → ⊥) → Reads (refused_start number) nodes
  unfolding read_checks
  read_by_box number e h = refused number (e ∙ sym (some_append (box_checks bytes) _ (λ z. h (e ∙ z)))) h

  module _ (e : first_met (box_checks bytes) ≡ 0) where
    pub read_by_nodes : (length nodes ≡ node_count_in bytes * block_length_in bytes → ⊥) → Reads (refused_start 6) nodes
    unfolding read_checks first_met
    read_by_nodes h = refused 6 (sym (none_append (box_checks bytes) _ (box_none bytes e) ∙ simp (ne_eqb (length nodes) (node_count_in bytes * block_length_in bytes) h))) (λ z. omega arith)

    pub read_done : length nodes ≡ node_count_in bytes * block_length_in bytes
        → Reads (record { refusal = 0; session = session_in bytes }) (with_bodies (block_length_in bytes) nodes (names_in bytes) (bodies_in bytes))
    unfolding read_box nodes_read read_checks first_met
    read_done h =
        serves (read_checks bytes nodes) _ refused_start _ nodes
        (none_append (box_checks bytes) _ (box_none bytes e) ∙ simp (eq-eqb (length nodes) (node_count_in bytes * block_length_in bytes) h))

-- ---- write

module _ (s : Session) (nodes list out : List ℕ) where
  abbrev lists : List Check
  lists = list_checks (node_count_of s) list ++ ((some_missing s.live list gives 12) ∷ [])

  abbrev room : List Check
  room = (ltb (length out) (written_length s list) gives 6) ∷ []

  -- the checks before that of the destination
  abbrev pub earlier : List Check
  earlier = nodes_checks s (length nodes) ++ lists

  split : write_checks s nodes list out ≡ earlier ++ room
  unfolding write_checks
  split = sym (append_assoc (nodes_checks s (length nodes)) lists room)

  -- an answer, and the destination afterwards
  abbrev pub Writes : Written → List ℕ → Type 0
  Writes = Gives (written s nodes list out) (out_written s nodes list out)

  pub write_by_list : (number : ℕ) → number ≡ first_met earlier → (number ≡ 0 → ⊥) → Writes (refused_write s number) out
  unfolding written out_written
  write_by_list number e h =
      refuses (write_checks s nodes list out) _ (refused_write s) _ out number (sym (ap first_met split ∙ some_append earlier room (λ z. h (e ∙ z)) ∙ sym e)) h

  pub list_none : first_met earlier ≡ 0 → NoneMet earlier
  unfolding nodes_checks
  list_none e = accepted earlier refl e

  -- what is known once 13, 6, 4, 5 and 12 are passed
  pub record Listed : Type 0 where
    pub sizes : first_met (nodes_checks s (length nodes)) ≡ 0
    pub inside : some_outside (node_count_of s) list ≡ false
    pub rising : rises list ≡ true
    pub live : some_missing s.live list ≡ false

  pub list_passed : first_met earlier ≡ 0 → Listed
  unfolding nodes_checks first_met
  list_passed e =
      let n = list_none e in
      record { sizes = simp (n.0, n.1.0); inside = n.1.1.0; rising = not-false _ n.1.1.1.0; live = n.1.1.1.1.0 }

  module _ (e : first_met earlier ≡ 0) where
    to_room : first_met (write_checks s nodes list out) ≡ first_met room
    to_room = ap first_met split ∙ none_append earlier room (list_none e)

    pub write_6 : length out < written_length s list → Writes (refused_write s 6) out
    unfolding written out_written first_met
    write_6 h = refuses (write_checks s nodes list out) _ (refused_write s) _ out 6 (sym (to_room ∙ rw (lt-ltb (length out) (written_length s list) h))) (λ z. omega arith)

    pub write_made : written_length s list ≤ length out
        → Writes (record { refusal = 0; length = written_length s list; session = s }) (box_of s.family s.k s.len list nodes ++ drop (written_length s list) out)
    unfolding written out_written first_met
    write_made h = serves (write_checks s nodes list out) _ (refused_write s) _ out (to_room ∙ rw (le-ltb (length out) (written_length s list) h))

-- the list's own checks, one by one
module _ (s : Session) (length : ℕ) (list : List ℕ) where
  abbrev missing : List Check
  missing = (some_missing s.live list gives 12) ∷ []

  abbrev checks : List Check
  checks = nodes_checks s length ++ (list_checks (node_count_of s) list ++ missing)

  module _ (e : first_met (nodes_checks s length) ≡ 0) where
    on : first_met checks ≡ first_met (list_checks (node_count_of s) list ++ missing)
    on = none_append (nodes_checks s length) _ (nodes_none s length e)

    pub list_numbers : (first_met (list_checks (node_count_of s) list) ≡ 0 → ⊥) → first_met checks ≡ first_met (list_checks (node_count_of s) list)
    list_numbers h = on ∙ some_append (list_checks (node_count_of s) list) missing h

    module _ (g : first_met (list_checks (node_count_of s) list) ≡ 0) where
      past : first_met checks ≡ first_met missing
      past = on ∙ none_append (list_checks (node_count_of s) list) missing (list_accepted (node_count_of s) list g)

      pub list_12 : some_missing s.live list ≡ true → first_met checks ≡ 12
      unfolding first_met
      list_12 m = past ∙ rw m

      pub list_0 : some_missing s.live list ≡ false → first_met checks ≡ 0
      unfolding first_met
      list_0 m = past ∙ rw m
