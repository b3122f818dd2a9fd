-- A plan made round by round: what has been put into the list and marked, and that there is room for every step.
-- Assumes nothing.
use mathlib.Core.Path.{◌≡◌, refl, sym, ap, ◌∙◌, subst}
use mathlib.Core.Bool.{Bool}
use mathlib.Core.List.{List, Memᴰ, [], ◌∷◌, ◌++◌, append_assoc, append-nil, flat_map, get_last_d}
use Prim.Native.Nat.{ℕ, ◌+◌, ◌-◌, ◌*◌, ◌≤◌}
use native.Mathlib.Nat.{sub-zero, zero-add}
use native.Mathlib.Numerals.{add-one}
use native.Mathlib.Omega.{arith}
use borrow.Rule.Slice.PartMut.{put_mid, same_len_mid}
use lib.ListN.{length, drop, length-append, take-append-drop}
use Rattle.base.proofs.ListLaws.{length_zero}
use Rattle.blocks.proofs.PartLaws.{length_mid, put_beside}
use Rattle.families.specs.declared.Family.{Family}
use Rattle.families.specs.Families.{KInRange, node_count}
use Rattle.lists.specs.Lists.{live_nodes, missing_nodes, set_live}
use Rattle.planning.specs.Claims.{CanMakeAll}
use Rattle.planning.specs.Plan.{Step, Reading, once, round_steps, marks_after, rounds_from, plan_of, step_bytes, last_round, nodes_left}
use Rattle.planning.specs.Inner.{planned_of}
use Rattle.planning.proofs.MakeLaws.{length-marks_after, can_make_append, each_step, once_shrinks, round_makes, make_counts, left_few, left_is}
use Rattle.planning.proofs.PlanLaws.{rounds_end, rounds_more}
use Rattle.planning.proofs.RoundLaws.{bytes_append, length_bytes, marks_append}

-- ---- the last round

last_append : (s : List Step) (x : Step) (t : List Step) → last_round (s ++ x ∷ t) ≡ last_round (x ∷ t)
unfolding last_round get_last_d
last_append [] x t = refl
last_append (y ∷ []) x t = refl
last_append (y ∷ z ∷ s) x t = last_append (z ∷ s) x t

-- where every step has round r, the last one has
pub last_same : (r : ℕ) (steps : List Step) → ((step : Step) → Memᴰ step steps → step.round ≡ r) → 1 ≤ length steps → last_round steps ≡ r
unfolding last_round get_last_d
last_same r [] h l = absurd (omega arith)
last_same r (x ∷ []) h l = h x (Memᴰ.head refl)
last_same r (x ∷ y ∷ steps) h l = last_same r (y ∷ steps) (λ step m. h step (Memᴰ.tail m)) (omega arith)

-- as in a round
pub last_round_lem : (reading : Reading) (f : Family) (k : ℕ) (marks : List Bool) (r : ℕ) → 1 ≤ length (round_steps reading f k marks r) → last_round (round_steps reading f k marks r) ≡ r
last_round_lem reading f k marks r h =
    last_same r (round_steps reading f k marks r) (λ step m. (each_step reading f k marks r marks (missing_nodes marks (node_count f k)) step m).0) h

pub last_more : (s t : List Step) (r : ℕ) → 1 ≤ length t → last_round t ≡ r → last_round (s ++ t) ≡ r
last_more s [] r h e = absurd (omega arith)
last_more s (x ∷ t) r h e = last_append s x t ∙ e

-- ---- the rounds

-- `rounds` rounds are made
pub record Rounds (f : Family) (k : ℕ) (start : List Bool) (before out : List ℕ) (marks : List Bool) (steps rounds : ℕ) : Type 0 where
  pub range : KInRange f k
  pub size : length start ≡ 256
  pub room : 4 * node_count f k ≤ length before
  pub done : List Step
  pub makes : CanMakeAll f k start done
  pub split : plan_of f k start ≡ done ++ rounds_from once f k (rounds + 1) marks (node_count f k - rounds)
  pub marked : marks ≡ marks_after start done
  pub count : steps ≡ length done
  pub last : rounds ≡ last_round done
  pub fewer : rounds ≤ steps
  pub kept : length out ≡ length before
  pub bytes : out ≡ put_mid 0 (4 * length done) before (step_bytes done)

pub rounds_none : {f : Family} {k : ℕ} {marks : List Bool} {out : List ℕ} → KInRange f k → length marks ≡ 256 → 4 * node_count f k ≤ length out → Rounds f k marks out out marks 0 0
unfolding plan_of set_live step_bytes flat_map last_round get_last_d
rounds_none {f} {k} range size h =
    record {
      range = range;
      size = size;
      room = h;
      done = [];
      makes = tt;
      split = rw (sub-zero (node_count f k));
      marked = refl;
      count = refl;
      last = refl;
      fewer = omega arith;
      kept = refl;
      bytes = refl;
    }

module _ {f : Family} {k : ℕ} {start : List Bool} {before out : List ℕ} {marks : List Bool} {steps rounds : ℕ}
    (w : Rounds f k start before out marks steps rounds) where
  -- the next round
  abbrev round : List Step
  round = round_steps once f k marks (rounds + 1)

  pub marks_size : length marks ≡ 256
  marks_size = ap length w.marked ∙ length-marks_after start w.done ∙ w.size

  -- the steps made, those of the next round and the nodes left after it are at most n
  pub all_few : steps + length round ≤ node_count f k
  all_few =
      let a = make_counts f k w.range start w.size w.done w.makes in
      let b : nodes_left marks (node_count f k) ≡ nodes_left (marks_after start w.done) (node_count f k) = ap (λ (m : List Bool). nodes_left m (node_count f k)) w.marked in
      let c = make_counts f k w.range marks marks_size round (round_makes once once_shrinks f k w.range marks (rounds + 1)) in
      omega (arith, a, b, c, w.count, left_few start (node_count f k))

  pub round_fits : 4 * steps + 4 * length round ≤ length out
  round_fits = omega (arith, all_few, w.room, w.kept)

  pub rounds_again : 1 ≤ length round
      → Rounds f k start before (put_mid (4 * steps) (4 * length round) out (step_bytes round)) (marks_after marks round) (steps + length round) (rounds + 1)
  rounds_again h =
      let more = w.done ++ round in
      let l : length more ≡ length w.done + length round = length-append w.done round in
      let fours : 4 * (length w.done + length round) ≡ 4 * length w.done + 4 * length round = omega arith in
      let a = all_few in
      let left : node_count f k - (rounds + 1) ≡ node_count f k - rounds - 1 = omega arith in
      record {
        range = w.range;
        size = w.size;
        room = w.room;
        done = more;
        makes = can_make_append f k start w.done round w.makes (subst (λ (m : List Bool). CanMakeAll f k m round) w.marked (round_makes once once_shrinks f k w.range marks (rounds + 1)));
        split = w.split ∙ rw (rounds_more once once_shrinks f k marks (rounds + 1) (node_count f k - rounds) (omega (arith, w.fewer)), left, add-one (rounds + 1), append_assoc);
        marked = rw (marks_append start w.done round, ← w.marked);
        count = omega (arith, w.count);
        last = sym (last_more w.done round (rounds + 1) h (last_round_lem once f k marks (rounds + 1) h));
        fewer = omega (arith, w.fewer);
        kept = same_len_mid (4 * steps) (4 * length round) out (step_bytes round) (length_bytes round ∙ sym (length_mid out (4 * steps) (4 * length round) round_fits)) ∙ w.kept;
        bytes =
            rw (w.count, w.bytes, l, bytes_append w.done round, fours)
            (ap (λ (a : ℕ). put_mid a (4 * length round) (put_mid 0 (4 * length w.done) before (step_bytes w.done)) (step_bytes round)) (sym (zero-add (4 * length w.done)))
            ∙ put_beside before (step_bytes w.done) (step_bytes round) 0 (4 * length w.done) (4 * length round) (omega arith) (length_bytes w.done));
      }

  -- a round without steps ends the plan
  module _ (e : length round ≡ 0) where
    none : round ≡ []
    none = length_zero round e

    plan_done : plan_of f k start ≡ w.done
    plan_done = w.split ∙ rw (rounds_end once once_shrinks f k marks (rounds + 1) (node_count f k - rounds) none, append-nil)

    pub rounds_answer : record { steps = steps; rounds = rounds; left = node_count f k - length (live_nodes marks (node_count f k)); live = marks } ≡ planned_of f k start
    rounds_answer = rw (plan_done, ← w.marked, w.count, w.last, left_is marks (node_count f k))

    pub rounds_bytes : {last : List ℕ} → last ≡ put_mid (4 * steps) (4 * length round) out (step_bytes round)
        → last ≡ step_bytes (plan_of f k start) ++ drop (4 * length (plan_of f k start)) before
    unfolding step_bytes flat_map
    rounds_bytes g =
        let same : put_mid (4 * steps) (4 * length round) out (step_bytes round) ≡ out = rw none (take-append-drop (4 * steps) out) in
        g ∙ same ∙ rw plan_done w.bytes
