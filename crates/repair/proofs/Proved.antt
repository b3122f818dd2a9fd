-- The claims of specs/Claims.antt.
-- Assumes nothing.
use mathlib.Core.Path.{◌≡◌, refl, sym, ap, ◌∙◌, subst}
use mathlib.Core.Bool.{true, false, not, false≢true}
use mathlib.Core.List.{List, [], flat_map}
use Prim.Native.Nat.{ℕ, suc, ◌≤◌, ◌<◌}
use native.Mathlib.Omega.{arith}
use borrow.Author.Tests.{lt-ltb, le-ltb, eq-eqb, ne_eqb, ltb-true}
use lib.Dec.{ltb}
use lib.ListN.{length}
use Rattle.base.proofs.ListLaws.{within}
use Rattle.families.specs.Families.{family_of, node_count}
use Rattle.families.proofs.Laws.{few}
use Rattle.checks.specs.Checks.{first_met}
use Rattle.checks.proofs.Laws.{none_zero, parameters_in}
use Rattle.checks.proofs.AnswerLaws.{answer_refused}
use Rattle.lists.specs.Lists.{some_outside, rises, place_in, is_in, is_live, some_missing}
use Rattle.lists.proofs.PlaceLaws.{place_there, at_is}
use Rattle.lists.proofs.Laws.{live_of_list, outside_more, passes_within, passes_inside}
use Rattle.counts.specs.Counts.{count_of}
use Rattle.boxes.specs.Box.{family_in, k_in, block_length_in, names_in, node_count_in, box_checks}
use Rattle.boxes.specs.Bodies.{box_of}
use Rattle.boxes.proofs.Answers.{by_page, by_tests, by_box, body_empty}
use Rattle.boxes.proofs.Laws.{accepted_box}
use Rattle.boxes.proofs.Proved.{order_claim, body_claim, box_of_body_claim}
use Rattle.repair.specs.Answers.{Started}
use Rattle.repair.specs.Session.{refused_start, started, node_count_of, unsound, nodes_checks}
use Rattle.repair.specs.Boxed.{checked_box, read_checks, read_box, written_length, write_checks, written, out_written}
use Rattle.repair.specs.LiveNodes.{live_nodes_of}
use Rattle.repair.specs.Claims.{Sound, StartClaim, SoundClaim, StartMarksClaim, WriteReadClaim, EmptyBoxClaim, LiveListClaim, StartListClaim, BoxListClaim, ReadKeepsClaim, WrittenAgain, ReadWriteClaim, ReadBodyClaim, WrittenBodyClaim, BoxStartClaim, RefusedBox, WrongCountClaim, ReadOrderClaim}
use Rattle.repair.proofs.Accepted.{start_accepted, check_accepted, read_accepted, write_accepted, list_accepted}
use Rattle.repair.proofs.StartLaws.{start_0, accepted_start_lem, known, sound}
use Rattle.repair.proofs.LiveListLaws.{accepted_list, list_is, list_answer, list_rest, live_starts, start_lists}
use Rattle.repair.proofs.BoxedLaws.{read_by_box}
use Rattle.repair.proofs.RoundTripLaws.{accepted_write, box_written_lem, write_answer, write_room, write_rest, box_passes, box_names, box_checked, box_reads, bodies_read, accepted_read, names_are, session_read, read_is, read_keeps, again}

-- ---- start

pub start_claim : StartClaim
unfolding started
start_claim family k L list = (
  (λ h. let a = accepted_start_lem family k L list (start_accepted family k L list h) in (a.range, a.outside, a.rising)),
  (λ p. rw (start_0 family k L list (parameters_in family k L p.0) p.1 p.2)),
)

pub sound_claim : SoundClaim
sound_claim s arrays = (to, back)
  where
    n : ℕ
    n = node_count_of s

    live_within : (j : ℕ) → is_live s.live j ≡ true → j < 256
    live_within j t = omega (arith, arrays.marks, within s.live false j (λ e. false≢true (sym e ∙ t)))

    read_within : (j : ℕ) → 1 ≤ count_of s.reads j → j < 256
    read_within j t = omega (arith, arrays.counts, within s.reads 0 j (λ e. omega arith))

    to : unsound s ≡ false → Sound s
    to e =
        let g = known s e in
        record {
          range = g.range;
          live = λ j t. let p = passes_within n (is_live s.live) g.inside j (live_within j t) t in record { first = p.0; last = p.1 };
          sum = g.sum;
          reads = λ j t. let p = passes_within n (λ i. ltb 0 (count_of s.reads i)) g.reads_inside j (read_within j t) (lt-ltb 0 _ t) in record { first = p.0; last = p.1 };
          few = g.few;
        }

    back : Sound s → unsound s ≡ false
    back g =
        sound s
        (record {
          range = g.range;
          inside = passes_inside n (is_live s.live) (λ i h t. let p = g.live i t in (p.first, p.last));
          sum = g.sum;
          reads_inside = passes_inside n (λ i. ltb 0 (count_of s.reads i)) (λ i h t. let p = g.reads i (ltb-true 0 _ t) in (p.first, p.last));
          few = g.few;
        })

pub box_start_claim : BoxStartClaim
unfolding checked_box started
box_start_claim bytes h =
    let e = check_accepted bytes h in
    let a = accepted_box bytes e in
    let starts = start_0 (family_in bytes) (k_in bytes) (block_length_in bytes) (names_in bytes) (parameters_in (family_in bytes) (k_in bytes) (block_length_in bytes) a.range) a.nodes a.rising in
    let few_nodes = few (family_of (family_in bytes)) (k_in bytes) a.range.blocks in
    let live : (j : ℕ) → j < 256 → is_live (checked_box bytes).session.live j ≡ ltb (place_in (names_in bytes) j) (length (names_in bytes))
    = λ j l. rw e (live_of_list (names_in bytes) j l (outside_more (node_count_in bytes) 255 (names_in bytes) few_nodes a.nodes)) in
    record {
      form = a;
      is = rw e;
      start = rw (e, starts);
      named = λ j l. (
        (λ t.
            let p : place_in (names_in bytes) j < length (names_in bytes) = ltb-true _ _ (sym (live j l) ∙ t) in
            record { place = place_in (names_in bytes) j; within = omega (arith, p, a.names_size); there = place_there (names_in bytes) j p }),
        (λ n. live j l ∙ ap (is_in (names_in bytes)) (sym n.there) ∙ at_is (names_in bytes) n.place (omega (arith, n.within, a.names_size))),
      );
    }

pub start_marks_claim : StartMarksClaim
unfolding started
start_marks_claim family k L list r j h =
    let e = start_accepted family k L list r in
    let a = accepted_start_lem family k L list e in
    rw e (live_of_list list j h (outside_more (node_count (family_of family) k) 255 list (few (family_of family) k a.range.blocks) a.outside))

-- ---- write, then read

pub write_read_claim : WriteReadClaim
write_read_claim s nodes list out h =
    let e = write_accepted s nodes list out h in
    record {
      box = box_written_lem s nodes list out e;
      answer = write_answer s nodes list out e;
      room = write_room s nodes list out e;
      rest = write_rest s nodes list out e;
      names = box_names s nodes list out e;
      checks = box_checked s nodes list out e;
      reads = box_reads s nodes list out e;
      bodies = bodies_read s nodes list out e;
    }

pub empty_box_claim : EmptyBoxClaim
unfolding written out_written write_checks nodes_checks some_outside rises some_missing box_of flat_map
empty_box_claim s nodes out sound size room =
    let long : written_length s [] ≡ 8 = omega arith in
    let none : first_met (write_checks s nodes [] out) ≡ 0
    = none_zero (write_checks s nodes [] out) (sound, (ap not (eq-eqb _ _ size), (refl, (refl, (refl, (le-ltb (length out) (written_length s []) (omega arith), tt)))))) in
    record { answer = rw (none, long); head = rw (none, long) }

-- ---- the live nodes, listed

pub live_list_claim : LiveListClaim
live_list_claim s out h =
    let e = list_accepted s out h in
    let a = accepted_list s out e in
    record {
      is = list_is s out e;
      answer = list_answer s out e;
      room = omega (arith, ap length (list_is s out e), a.room);
      rest = list_rest s out e;
      start = λ size. rw (list_is s out e) (live_starts s size a.sound);
    }

pub start_list_claim : StartListClaim
unfolding started
start_list_claim family k L list out h l =
    let e = start_accepted family k L list h in
    let s = (started family k L list).session in
    list_is s out (list_accepted s out l) ∙ rw e (start_lists family k L list e)

pub box_list_claim : BoxListClaim
box_list_claim bytes out h l =
    let b = box_start_claim bytes h in
    let s = (checked_box bytes).session in
    list_is s out (list_accepted s out l) ∙ ap (λ (r : Started). live_nodes_of r.session) b.is ∙ names_are bytes b.form

-- ---- read, then write

pub read_keeps_claim : ReadKeepsClaim
read_keeps_claim bytes nodes h j p n = read_keeps bytes nodes (read_accepted bytes nodes h) j p n

pub read_write_claim : ReadWriteClaim
read_write_claim bytes nodes out byte h room =
    let e = read_accepted bytes nodes h in
    let a = accepted_box bytes (accepted_read bytes nodes e).passes in
    let s = (read_box bytes nodes).session in
    let own = ap live_nodes_of (session_read bytes nodes e) ∙ names_are bytes a in
    let same = again bytes nodes e byte out room in
    (same, λ lent l. subst (λ (list : List ℕ). WrittenAgain bytes nodes list out) (sym (list_is s lent (list_accepted s lent l) ∙ own)) same)

-- ---- the body of a node

pub read_body_claim : ReadBodyClaim
read_body_claim bytes nodes h i l =
    let e = read_accepted bytes nodes h in
    let a = accepted_read bytes nodes e in
    rw (read_is bytes nodes e) ((body_claim bytes a.passes i l).read nodes a.size)

pub written_body_claim : WrittenBodyClaim
written_body_claim s nodes list out h i l =
    let e = write_accepted s nodes list out h in
    rw (box_written_lem s nodes list out e)
    (box_of_body_claim s.family s.k s.len list nodes (box_passes s nodes list out e) (accepted_write s nodes list out e).size i l)

-- ---- a page that counts another number

refused_box : (bytes : List ℕ) (r : ℕ) → first_met (box_checks bytes) ≡ suc r → RefusedBox bytes (suc r)
unfolding checked_box
refused_box bytes r b =
    let some : first_met (box_checks bytes) ≡ 0 → ⊥ = λ none. omega (arith, b) in
    record {
      check = answer_refused (box_checks bytes) _ refused_start some ∙ ap refused_start b;
      read = λ nodes. let t = read_by_box bytes nodes (suc r) (sym b) (λ z. omega arith) in (sym t.answer_is, sym t.buffer_is);
      body = λ j. let y = by_box bytes j some ∙ b in (y, body_empty bytes j (λ none. omega (arith, y)));
    }

pub wrong_count_claim : WrongCountClaim
wrong_count_claim bytes p =
    let page = by_page bytes p.long (parameters_in _ _ _ p.range) in
    (λ few other. refused_box bytes 6 (page ∙ by_tests bytes p.zeros (ne_eqb _ _ other) (le-ltb _ _ few)), λ many. refused_box bytes 8 (page ∙ by_tests bytes p.zeros refl (lt-ltb _ _ many)))

pub read_order_claim : ReadOrderClaim
unfolding read_checks
read_order_claim bytes nodes = (order_claim bytes).followed _
