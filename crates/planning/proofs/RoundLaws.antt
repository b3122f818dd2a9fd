-- The steps of a round, one next repair after the other, and how far a round has been put into a list of bytes and marked.
-- Assumes nothing.
use mathlib.Core.Path.{◌≡◌, refl, sym, ap, ◌∙◌}
use mathlib.Core.Bool.{Bool, true, false, not, and-false, false≢true}
use mathlib.Core.Logic.{◌⊎◌, inl, inr}
use mathlib.Core.List.{List, [], ◌∷◌, ◌++◌, append_assoc, append-nil, map-append, flat_map}
use Prim.Native.Nat.{ℕ, zero, suc, ◌+◌, ◌-◌, ◌*◌, ◌≤◌, ◌<◌}
use native.Mathlib.Nat.{sub-zero, eq-zero-or-pos}
use native.Mathlib.Omega.{arith}
use borrow.Author.Tests.{lt-ltb, ne_eqb}
use borrow.Rule.Slice.PartMut.{put_mid, same_len_mid}
use lib.Dec.{ltb}
use lib.ListN.{length, set, take, drop, length-append, length-replicate, get_or-replicate, take-append-drop}
use lib.Seq.{take-append-le}
use Rattle.base.specs.Ranges.{first_from, those_from}
use Rattle.base.proofs.First.{first_same, found}
use Rattle.base.proofs.ListLaws.{length_zero, flat_map-append}
use Rattle.base.proofs.RangeLaws.{those_has, those_are, others_count}
use Rattle.base.proofs.Tests.{and_both}
use Rattle.blocks.proofs.PartLaws.{length_mid, put_beside}
use Rattle.families.specs.declared.Family.{Family}
use Rattle.families.specs.Families.{KInRange, IsNode, node_count}
use Rattle.families.proofs.Laws.{few}
use Rattle.lists.specs.Lists.{missing_nodes, is_live, set_live, live_nodes}
use Rattle.lists.proofs.MarkLaws.{live_append}
use Rattle.lists.proofs.WithoutLaws.{unset_live}
use Rattle.counts.specs.Counts.{no_counts, count_of}
use Rattle.std.specs.Prelude.{Option, None, Some}
use Rattle.pairing.specs.declared.Found.{Found}
use Rattle.pairing.proofs.SearchLaws.{found_none, found_some}
use Rattle.pairing.specs.Pairs.{larger_node, smaller_node, pair_count, LiveNode}
use Rattle.pairing.specs.Inner.{count_each, next_found, found_at, found_in}
use Rattle.pairing.proofs.PairLaws.{pair_of, pairs_are, smaller_some}
use Rattle.pairing.proofs.ListedLaws.{missing_count}
use Rattle.pairing.proofs.EachLaws.{each_listed, each_other}
use Rattle.pairing.proofs.NoneLaws.{count_some}
use Rattle.pairing.proofs.SearchLaws.{is_found}
use Rattle.planning.specs.Plan.{Step, step_of, Reading, once, steps_for, round_steps, repaired_nodes, marks_after, step_bytes}
use Rattle.planning.proofs.MakeLaws.{steps_few, is_repaired, repaired_smaller, live_kept, pairless_kept, pair_repairs, turn_waits, turn_repairs, Within}

-- ---- lists of steps

pub bytes_append : (s t : List Step) → step_bytes (s ++ t) ≡ step_bytes s ++ step_bytes t
unfolding step_bytes
bytes_append s t = flat_map-append _ s t

pub length_bytes : (s : List Step) → length (step_bytes s) ≡ 4 * length s
unfolding step_bytes flat_map
length_bytes [] = refl
length_bytes (x ∷ s) = omega (arith, length_bytes s)

pub marks_append : (marks : List Bool) (s t : List Step) → marks_after marks (s ++ t) ≡ marks_after (marks_after marks s) t
marks_append marks s t = ap (set_live marks) (map-append (λ (step : Step). step.node) s t) ∙ live_append marks (repaired_nodes s) (repaired_nodes t)

-- ---- a round where every node is live

pub all_live : (reading : Reading) (f : Family) (k : ℕ) (marks : List Bool) (r : ℕ) → node_count f k ≤ length (live_nodes marks (node_count f k)) → round_steps reading f k marks r ≡ []
unfolding steps_for
all_live reading f k marks r h =
    let none = length_zero (missing_nodes marks (node_count f k)) (omega (arith, others_count (is_live marks) 1 (node_count f k))) in
    rw none

-- ---- which nodes the search finds

-- the counts of the missing nodes, and 0 for every other number
abbrev pub missing_counts : Family → ℕ → List Bool → List ℕ
missing_counts f k marks = count_each f k marks no_counts (missing_nodes marks (node_count f k))

module _ (f : Family) (k : ℕ) (range : KInRange f k) (marks free : List Bool) (within : Within free marks) where
  -- a pair that may be read is live, so that its node is counted where it is missing
  has_count : (i : ℕ) → IsNode f k i → 1 ≤ smaller_node f k free i → 1 ≤ pair_count f k marks i
  has_count i n h =
      let p = pair_of f k range free i h in
      count_some f k marks i
      (smaller_some f k marks i range n _ _ (record { node = p.smaller; live = within _ p.smaller_live }) (record { node = p.larger; live = within _ p.larger_live }) p.related)

  -- a node that is counted, and has a pair that may be read, is one that the round repairs
  found_is : (i : ℕ) → IsNode f k i → is_found f k free (missing_counts f k marks) i ≡ is_repaired f k marks free i
  found_is i n = go (is_live marks i) refl (eq-zero-or-pos (smaller_node f k free i))
    where
      few256 : i < 256
      few256 = omega (arith, n.last, few f k range)

      own : is_live marks i ≡ false → count_of (missing_counts f k marks) i ≡ pair_count f k marks i
      own v =
          each_listed f k marks no_counts (rw (length-replicate {A = ℕ} 256 0) few256)
          (those_has (λ j. not (is_live marks j)) 1 (node_count f k) i n.first (omega (arith, n.last)) (ap not v))

      none : is_live marks i ≡ true → count_of (missing_counts f k marks) i ≡ 0
      none v =
          each_other f k marks no_counts (missing_nodes marks (node_count f k)) i
          (λ m. false≢true (sym (ap not v) ∙ (those_are (λ j. not (is_live marks j)) 1 (node_count f k) i m).passes))
          ∙ get_or-replicate 256 i 0 0 few256

      go : (b : Bool) → is_live marks i ≡ b → (smaller_node f k free i ≡ 0) ⊎ (0 < smaller_node f k free i) → is_found f k free (missing_counts f k marks) i ≡ is_repaired f k marks free i
      go true v s = rw (none v) (sym (live_kept f k marks free i v))
      go false v (inl z) = rw z (and-false (ltb 0 (count_of (missing_counts f k marks) i)) ∙ sym (pairless_kept f k marks free i z))
      go false v (inr h) =
          and_both (ltb 0 (count_of (missing_counts f k marks) i)) (ltb 0 (smaller_node f k free i)) (lt-ltb 0 (count_of (missing_counts f k marks) i) (omega (arith, own v, has_count i n h))) (lt-ltb 0 (smaller_node f k free i) h)
          ∙ sym (pair_repairs f k marks free i v h)

  -- so that the search finds the nodes of the round
  found_repaired : (after : ℕ) → after ≤ node_count f k → next_found f k free (missing_counts f k marks) after ≡ first_from (is_repaired f k marks free) (suc after) (node_count f k - after)
  found_repaired after h =
      first_same (is_found f k free (missing_counts f k marks)) (is_repaired f k marks free) (suc after) (node_count f k - after)
      (λ i l u. found_is i (record { first = omega arith; last = omega arith }))

  pub found_next : {counts : List ℕ} {x : Option Found} (after : ℕ) → after ≤ node_count f k → counts ≡ missing_counts f k marks → x ≡ found_in f k free counts (next_found f k free counts after)
      → x ≡ found_in f k free (missing_counts f k marks) (first_from (is_repaired f k marks free) (suc after) (node_count f k - after))
  found_next after h e g = g ∙ rw (e, found_repaired after h)

-- ---- the next repair

module _ (reading : Reading) (f : Family) (k : ℕ) (marks : List Bool) (r : ℕ) (free : List Bool) where
  abbrev missing : ℕ → ℕ → List ℕ
  missing j m = those_from (λ i. not (is_live marks i)) j m

  abbrev first : ℕ → ℕ → ℕ
  first j m = first_from (is_repaired f k marks free) j m

  -- where no node is repaired there is no step, and else the first is that of the first node
  pub record Rest (j m : ℕ) : Type 0 where
    pub none : first j m ≡ 0 → steps_for reading f k marks r free (missing j m) ≡ []
    pub some : 1 ≤ first j m → steps_for reading f k marks r free (missing j m)
        ≡ step_of f k marks free r (first j m) ∷ steps_for reading f k marks r (reading free (step_of f k marks free r (first j m))) (missing (suc (first j m)) (j + m - suc (first j m)))

  pub rest_is : (j m : ℕ) → 1 ≤ j → Rest j m
  unfolding first_from those_from steps_for
  rest_is j zero l = record { none = λ e. refl; some = λ h. absurd (omega arith) }
  rest_is j (suc m) l = go (is_live marks j) refl (eq-zero-or-pos (smaller_node f k free j)) (rest_is (suc j) m (omega arith))
    where
      shift : suc j + m ≡ j + suc m
      shift = omega arith

      go : (b : Bool) → is_live marks j ≡ b → (smaller_node f k free j ≡ 0) ⊎ (0 < smaller_node f k free j) → Rest (suc j) m → Rest j (suc m)
      go true v s w =
          let k1 = live_kept f k marks free j v in
          record { none = λ e. rw v (w.none (rw k1 at e)); some = λ h. rw (v, k1, ← shift) (w.some (rw k1 at h)) }
      go false v (inl z) w =
          let k1 = pairless_kept f k marks free j z in
          let t = turn_waits f k marks free j reading r (missing (suc j) m) z in
          record { none = λ e. rw (v, t) (w.none (rw k1 at e)); some = λ h. rw (v, k1, t, ← shift) (w.some (rw k1 at h)) }
      go false v (inr g) w =
          let k1 = pair_repairs f k marks free j v g in
          let t = turn_repairs f k marks free j reading r (missing (suc j) m) g in
          let here : j + suc m - suc j ≡ m = omega arith in
          record { none = λ e. absurd (omega (arith, rw k1 at e)); some = λ h. rw (v, k1, here) t }

module _ (f : Family) (k : ℕ) (marks : List Bool) (r : ℕ) (free : List Bool) where
  -- the steps of the round above a node, where these nodes may be read
  abbrev pub steps_above : ℕ → List Step
  steps_above node = steps_for once f k marks r free (those_from (λ i. not (is_live marks i)) (suc node) (node_count f k - node))

  -- a repair as a step of the round
  abbrev pub as_step : Found → Step
  as_step x = record { round = r; node = x.node; smaller = x.pairs.smaller; larger = x.pairs.larger }

-- x is the first repair of the round above a node
pub record Next (f : Family) (k : ℕ) (marks : List Bool) (r : ℕ) (free : List Bool) (node : ℕ) (x : Found) : Type 0 where
  pub above : node < x.node
  pub last : x.node ≤ node_count f k
  pub order : x.pairs.smaller < x.pairs.larger
  pub smaller_node : LiveNode f k free x.pairs.smaller
  pub larger_node : LiveNode f k free x.pairs.larger
  pub steps : steps_above f k marks r free node ≡ as_step f k marks r free x ∷ steps_above f k marks r (set (set free x.pairs.smaller false) x.pairs.larger false) x.node

module _ (f : Family) (k : ℕ) (marks : List Bool) (r : ℕ) (free : List Bool) (counts : List ℕ) (node : ℕ) where
  abbrev j : ℕ
  j = first_from (is_repaired f k marks free) (suc node) (node_count f k - node)

  rest : Rest once f k marks r free (suc node) (node_count f k - node)
  rest = rest_is once f k marks r free (suc node) (node_count f k - node) (omega arith)

  -- none is found: there is no step
  pub next_none : None ≡ found_in f k free counts j → steps_above f k marks r free node ≡ []
  next_none e = rest.none (found_none f k free counts j e)

  pub next_some : {x : Found} → Some x ≡ found_in f k free counts j → KInRange f k → node ≤ node_count f k → Next f k marks r free node x
  unfolding found_at once
  next_some {x} some range h = go (eq-zero-or-pos j)
    where
      e : x ≡ found_at f k free counts j
      e = (found_some f k free counts j some).0

      go : (j ≡ 0) ⊎ (0 < j) → Next f k marks r free node x
      go (inl g) = absurd ((found_some f k free counts j some).1 g)
      go (inr g) =
          let a = smaller_node f k free j in
          let is : x ≡ record { node = j; pairs = record { smaller = a; larger = larger_node f k free j a; count = count_of counts j } } = e ∙ simp (ne_eqb j 0 (λ y. omega arith)) in
          let w = found (is_repaired f k marks free) (suc node) (node_count f k - node) g in
          let s = repaired_smaller f k marks free j w.passes in
          let p = pair_of f k range free j s in
          let are = pairs_are f k range free j marks s in
          let t : suc node + (node_count f k - node) - suc j ≡ node_count f k - j = omega (arith, w.from, w.below) in
          rw is
          (record {
            above = w.from;
            last = omega (arith, w.from, w.below);
            order = p.order;
            smaller_node = record { node = p.smaller; live = p.smaller_live };
            larger_node = record { node = p.larger; live = p.larger_live };
            steps = rw (are, t) at (rest.some g);
          })

-- ---- a round, put into a list of bytes and marked

-- the steps as far as `node` are in their places, and their nodes marked; the list has the nodes that may still be read
pub record InRound (f : Family) (k : ℕ) (marks : List Bool) (r : ℕ) (start : List ℕ) (from : ℕ) (before : List Bool) (out : List ℕ) (next : List Bool) (list : List ℕ) (count : ℕ)
    (free : List Bool) (steps node : ℕ) : Type 0 where
  pub done : List Step
  pub split : round_steps once f k marks r ≡ done ++ steps_above f k marks r free node
  pub within : node ≤ node_count f k
  pub count_is : steps ≡ length done
  pub room : from + 4 * length (round_steps once f k marks r) ≤ length start
  pub kept : length out ≡ length start
  pub bytes : out ≡ put_mid from (4 * length done) start (step_bytes done)
  pub marked : next ≡ marks_after before done
  pub live : Within free marks
  pub fits : count ≤ length list
  pub nodes : take count list ≡ live_nodes free (node_count f k)

pub round_none : {f : Family} {k : ℕ} {marks : List Bool} {r : ℕ} {out : List ℕ} {from : ℕ} {next : List Bool} {list : List ℕ} {count : ℕ}
    → from + 4 * length (round_steps once f k marks r) ≤ length out → count ≤ length list → take count list ≡ live_nodes marks (node_count f k)
    → InRound f k marks r out from next out next list count marks 0 0
unfolding step_bytes flat_map set_live
round_none {f} {k} {out = out} {from} h fits nodes =
    record {
      done = [];
      split = rw (sub-zero (node_count f k));
      within = omega arith;
      count_is = refl;
      room = h;
      kept = refl;
      bytes = sym (take-append-drop from out);
      marked = refl;
      live = λ i v. v;
      fits = fits;
      nodes = nodes;
    }

module _ {f : Family} {k : ℕ} {marks : List Bool} {r : ℕ} {start : List ℕ} {from : ℕ} {before : List Bool} {out : List ℕ} {next : List Bool} {list : List ℕ} {count : ℕ} {free : List Bool}
    {steps node : ℕ} (w : InRound f k marks r start from before out next list count free steps node) where
  -- one step more
  module _ (x : Found) (n : Next f k marks r free node x) where
    abbrev rest_free : List Bool
    rest_free = set (set free x.pairs.smaller false) x.pairs.larger false

    total : steps + 1 ≤ length (round_steps once f k marks r)
    total = omega (arith, w.count_is, ap length w.split, length-append w.done (steps_above f k marks r free node), ap length n.steps)

    pub round_some : 1 ≤ length (round_steps once f k marks r)
    round_some = omega (arith, total)

    pub round_room : from + 4 * steps + 4 ≤ length out
    round_room = omega (arith, w.room, w.kept, total)

    abbrev after : List Step
    after = w.done ++ as_step f k marks r free x ∷ []

    -- its bytes and its mark with those before it
    bytes_after : put_mid (from + 4 * steps) 4 out (r ∷ x.node ∷ x.pairs.smaller ∷ x.pairs.larger ∷ []) ≡ put_mid from (4 * length after) start (step_bytes after)
    unfolding step_bytes flat_map
    bytes_after =
        let one = as_step f k marks r free x ∷ [] in
        let l : length after ≡ length w.done + 1 = length-append w.done one in
        let fours : 4 * (length w.done + 1) ≡ 4 * length w.done + 4 = omega arith in
        rw (w.count_is, w.bytes, l, bytes_append w.done one, fours) (put_beside start (step_bytes w.done) (step_bytes one) from (4 * length w.done) 4 (omega (arith, round_room, w.kept)) (length_bytes w.done))

    marked_after : set next x.node true ≡ marks_after before after
    unfolding set_live
    marked_after = rw (w.marked, marks_append before w.done (as_step f k marks r free x ∷ []))

    split_after : round_steps once f k marks r ≡ after ++ steps_above f k marks r rest_free x.node
    split_after = w.split ∙ rw (n.steps, append_assoc w.done (as_step f k marks r free x ∷ []) (steps_above f k marks r rest_free x.node))

    -- where every missing node is repaired it is the last
    pub round_last : node_count f k - length (live_nodes marks (node_count f k)) ≡ steps + 1
        → (steps + 1 ≡ length (round_steps once f k marks r))
        × (put_mid (from + 4 * steps) 4 out (r ∷ x.node ∷ x.pairs.smaller ∷ x.pairs.larger ∷ []) ≡ put_mid from (4 * length (round_steps once f k marks r)) start (step_bytes (round_steps once f k marks r)))
        × (set next x.node true ≡ marks_after before (round_steps once f k marks r))
    round_last e =
        let few = steps_few once f k marks r marks (missing_nodes marks (node_count f k)) in
        let above = steps_above f k marks r rest_free x.node in
        let sizes = ap length split_after ∙ length-append after above in
        let count : length after ≡ steps + 1 = omega (arith, length-append w.done (as_step f k marks r free x ∷ []), w.count_is) in
        let none : above ≡ [] = length_zero above (omega (arith, few, sizes, count, e, missing_count marks (node_count f k))) in
        let all : round_steps once f k marks r ≡ after = split_after ∙ rw (none, append-nil) in
        rw all (sym count, bytes_after, marked_after)

    pub round_more : (part : List ℕ) → length part ≡ count → take (count - 2) part ≡ live_nodes rest_free (node_count f k)
        → InRound f k marks r start from before (put_mid (from + 4 * steps) 4 out (r ∷ x.node ∷ x.pairs.smaller ∷ x.pairs.larger ∷ [])) (set next x.node true) (part ++ drop count list) (count - 2) rest_free (steps + 1) x.node
    round_more part size nodes =
        record {
          done = after;
          split = split_after;
          within = n.last;
          count_is = omega (arith, w.count_is, length-append w.done (as_step f k marks r free x ∷ []));
          room = w.room;
          kept = same_len_mid (from + 4 * steps) 4 out (r ∷ x.node ∷ x.pairs.smaller ∷ x.pairs.larger ∷ []) (sym (length_mid out (from + 4 * steps) 4 round_room)) ∙ w.kept;
          bytes = bytes_after;
          marked = marked_after;
          live = λ i v. w.live i (unset_live free x.pairs.smaller i (unset_live (set free x.pairs.smaller false) x.pairs.larger i v).1).1;
          fits = omega (arith, size, length-append part (drop count list));
          nodes = take-append-le (count - 2) part (drop count list) (omega (arith, size)) ∙ nodes;
        }

  pub round_done : steps_above f k marks r free node ≡ [] → round_steps once f k marks r ≡ w.done
  round_done e = w.split ∙ rw (e, append-nil)
