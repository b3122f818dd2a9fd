-- A session and a nodes buffer that go together: which calls give such a pair, and which they are accepted by.
-- Assumes nothing.
use mathlib.Core.Path.{◌≡◌, refl, sym, ap, ◌∙◌}
use mathlib.Core.Bool.{not}
use mathlib.Core.List.{List}
use mathlib.Core.Logic.{◌⊎◌, inl, inr}
use Prim.Native.Nat.{ℕ, ◌*◌, ◌≤◌}
use native.Mathlib.Nat.{mul-le-mul_right}
use native.Mathlib.Omega.{arith}
use borrow.Author.Tests.{eq-eqb, le-ltb}
use lib.ListN.{length}
use Rattle.families.specs.Families.{family_of, node_count}
use Rattle.checks.specs.Checks.{first_met}
use Rattle.checks.proofs.Laws.{none_zero, none_append}
use Rattle.lists.proofs.Laws.{live_nodes_few, live_nodes_inside, live_nodes_rise, live_nodes_live}
use Rattle.boxes.specs.Box.{family_in, k_in, block_length_in, names_in, node_count_in, box_length, box_checks}
use Rattle.boxes.proofs.Answers.{box_none}
use Rattle.boxes.proofs.Laws.{accepted_box}
use Rattle.repair.specs.declared.Session.{Session}
use Rattle.repair.specs.Answers.{Written}
use Rattle.repair.specs.Session.{session_of, start_checks, started, node_count_of, nodes_checks}
use Rattle.repair.specs.Boxed.{checked_box, read_checks, read_box, nodes_read, write_checks, written}
use Rattle.repair.specs.LiveNodes.{live_nodes_of, live_listed}
use Rattle.repair.specs.Calls.{Move, called}
use Rattle.repair.specs.Claims.{list_left}
use Rattle.repair.specs.WholeWay.{Fits, SameCode}
use Rattle.repair.proofs.Accepted.{list_accepted}
use Rattle.repair.proofs.StartLaws.{nodes_0, accepted_start_lem, start_sound, start_arrays}
use Rattle.repair.proofs.AfterLaws.{after_arrays, after_sound}
use Rattle.repair.proofs.LiveListLaws.{live_listed_lem, list_is}
use Rattle.repair.proofs.RoundTripLaws.{box_sound, accepted_read, session_read, read_size}
use Rattle.repair.proofs.OwnLaws.{steps_size, Kept, Made, outcome}

-- ---- start and read

module _ (family k L : ℕ) (list : List ℕ) (e : first_met (start_checks family k L list) ≡ 0) where
  pub session_started : (started family k L list).session ≡ session_of family k L list
  unfolding started
  session_started = rw e

  pub start_fits : (nodes : List ℕ) → length nodes ≡ node_count (family_of family) k * L → Fits (started family k L list).session nodes
  start_fits nodes size =
      let a = accepted_start_lem family k L list e in
      rw session_started
      (record {
        arrays = start_arrays family k L list;
        sound = start_sound family k L list a.range a.outside;
        size = size;
      })

pub read_same : (bytes nodes : List ℕ) → first_met (box_checks bytes) ≡ 0 → length nodes ≡ node_count_in bytes * block_length_in bytes → read_box bytes nodes ≡ checked_box bytes
unfolding read_box checked_box read_checks first_met
read_same bytes nodes e size =
    let reads : first_met (read_checks bytes nodes) ≡ 0 = none_append (box_checks bytes) _ (box_none bytes e) ∙ simp (eq-eqb (length nodes) (node_count_in bytes * block_length_in bytes) size) in
    rw (reads, e)

module _ (bytes nodes : List ℕ) (e : first_met (read_checks bytes nodes) ≡ 0) where
  pub read_fits : Fits (read_box bytes nodes).session (nodes_read bytes nodes)
  read_fits =
      rw (session_read bytes nodes e)
      (record {
        arrays = start_arrays (family_in bytes) (k_in bytes) (block_length_in bytes) (names_in bytes);
        sound = box_sound bytes (accepted_box bytes (accepted_read bytes nodes e).passes);
        size = read_size bytes nodes e;
      })

-- ---- calls

module _ (s : Session) (nodes : List ℕ) where
  pub fits_runs : Fits s nodes → first_met (nodes_checks s (length nodes)) ≡ 0
  fits_runs f = nodes_0 s (length nodes) f.sound f.size

  pub fits_call : Fits s nodes → (move : Move) → Fits (called s nodes move).session (called s nodes move).nodes
  fits_call f move = go (outcome s nodes move)
    where
      go : Kept s nodes move ⊎ Made s nodes move → Fits (called s nodes move).session (called s nodes move).nodes
      go (inl k) = rw (k.session_is, k.nodes_is) f
      go (inr m) =
          let a = m.makes f.arrays in
          rw (m.session_is, m.nodes_is)
          (record { arrays = after_arrays s f.arrays m.steps; sound = after_sound s f.arrays m.steps f.sound a.all; size = steps_size s nodes m.steps a })

  -- family, k and L stay, whatever is asked for
  pub same_code : (move : Move) → SameCode s (called s nodes move).session
  same_code move = go (outcome s nodes move)
    where
      go : Kept s nodes move ⊎ Made s nodes move → SameCode s (called s nodes move).session
      go (inl k) = rw k.session_is (record { family = refl; k = refl; len = refl })
      go (inr m) = rw m.session_is (record { family = refl; k = refl; len = refl })

-- ---- every live node listed, and written

module _ (s : Session) (nodes room : List ℕ) (f : Fits s nodes) where
  few_live : length (live_nodes_of s) ≤ node_count_of s
  few_live = live_nodes_few s.live (node_count_of s)

  pub fits_list : node_count_of s ≤ length room → (live_listed s room).refusal ≡ 0
  fits_list h = ap (λ (r : Written). r.refusal) (sym (live_listed_lem s room f.sound (omega (arith, few_live))).answer_is)

  pub fits_write : (out : List ℕ) → (live_listed s room).refusal ≡ 0 → box_length (node_count_of s) s.len ≤ length out → (written s nodes (list_left s room) out).refusal ≡ 0
  unfolding written write_checks nodes_checks
  fits_write out l h =
      let list = live_nodes_of s in
      let none : first_met (write_checks s nodes list out) ≡ 0
      = none_zero (write_checks s nodes list out)
      (f.sound, (ap not (eq-eqb (length nodes) (node_count_of s * s.len) f.size), (live_nodes_inside s.live (node_count_of s), (ap not (live_nodes_rise s.live (node_count_of s)), (live_nodes_live s.live (node_count_of s), (le-ltb (length out) (box_length (length list) s.len) (omega (arith, few_live, mul-le-mul_right s.len few_live)), tt)))))) in
      rw (list_is s room (list_accepted s room l), none)
