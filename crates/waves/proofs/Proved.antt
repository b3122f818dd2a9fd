-- The claims of specs/Waves.antt.
-- Assumes nothing.
use mathlib.Core.Path.{◌≡◌, refl, sym, ap, ◌∙◌}
use mathlib.Core.Bool.{Bool, true, false}
use mathlib.Core.List.{List}
use Prim.Native.Nat.{ℕ, zero, suc, ◌+◌, ◌-◌, ◌^◌, ◌≤◌, ◌<◌}
use native.Mathlib.Decide.{dec_lt}
use native.Mathlib.Omega.{arith}
use borrow.Author.Tests.{leb-true}
use lib.Dec.{leb}
use lib.ListN.{length}
use Rattle.base.proofs.Tests.{all_below, all_below_lem, is_false, not_both}
use Rattle.families.specs.declared.Family.{Family}
use Rattle.families.specs.declared.Family.TheVariants.{Simplex, WeightTwo, Tetrahedron}
use Rattle.families.specs.Families.{KInRange, IsNode, node_count}
use Rattle.families.proofs.Laws.{short}
use Rattle.lists.specs.Lists.{is_live}
use Rattle.pairing.proofs.PairLaws.{smaller_some}
use Rattle.pairing.proofs.NoneLaws.{count_some, some_count}
use Rattle.planning.specs.Plan.{Step, RepairedIn, marks_after}
use Rattle.planning.proofs.MakeLaws.{pair_repairs}
use Rattle.waves.proofs.WaveLaws.{after_waves, rounds_are_waves, waves_stay, waves_only, waves_get, Turn, Turned, step_turn, turn_step, first_step, last_within}
use Rattle.waves.proofs.RepairedLaws.{repaired_pair}
use Rattle.waves.proofs.Against.{same_marks, wave_first, waves_few}
use Rattle.waves.specs.Waves.{waves_of, Reached, LeastReached, most_waves, WaveClaim, RoundsAndWavesClaim, FirstWaveClaim}
use Rattle.waves.proofs.Sums.{sum_more, sum_few}
use Rattle.waves.proofs.Halves.{Halving, live_after, upward, downward}
use Rattle.waves.proofs.Full.{simplex_halving, tetrahedron_halving}
use Rattle.waves.proofs.Edges.{pair_halving}

halving : (f : Family) (k : ℕ) → KInRange f k → (marks : List Bool) → Halving f k marks
halving Simplex k r marks = simplex_halving k r marks
halving WeightTwo k r marks = pair_halving k r marks
halving Tetrahedron k r marks = tetrahedron_halving k r marks

-- ---- the table

-- k nodes are at most 2^r for the last wave r
abbrev enough_test : ℕ → Bool
enough_test k = leb k (2 ^ most_waves k)

enough : (k : ℕ) → k ≤ 22 → k ≤ 2 ^ most_waves k
unfolding all_below
enough k h = leb-true k (2 ^ most_waves k) (all_below_lem enough_test 23 refl k (omega arith))

-- and the last wave is one of the first n; k is at least 2
abbrev room_test : Family → ℕ → Bool
room_test f i = leb (most_waves (2 + i)) (node_count f (2 + i))

rooms : (f : Family) → all_below (room_test f) 21 ≡ true
unfolding all_below node_count
rooms Simplex = refl
rooms WeightTwo = refl
rooms Tetrahedron = refl

room : (f : Family) (k : ℕ) → KInRange f k → most_waves k ≤ node_count f k
room f k range =
    let e : 2 + (k - 2) ≡ k = omega (arith, (short f k range).0) in
    rw e at (leb-true (most_waves (2 + (k - 2))) (node_count f (2 + (k - 2))) (all_below_lem (room_test f) 21 (rooms f) (k - 2) (omega (arith, (short f k range).1))))

module _ (f : Family) (k : ℕ) (range : KInRange f k) (marks : List Bool) (size : length marks ≡ 256) where
  abbrev live : ℕ → ℕ → Bool
  live = live_after f k marks

  up : (r j : ℕ) → IsNode f k j → live r j ≡ true → Reached f k marks j r
  up r j n h = upward f k range marks r j n h

  down : (r j : ℕ) → IsNode f k j → Reached f k marks j r → live r j ≡ true
  down r j n s = downward f k range marks size (halving f k range marks) r j n s

  -- what is reached at all is reached by the last wave
  soon : (r j : ℕ) → Reached f k marks j r → Reached f k marks j (most_waves k)
  soon r j s = sum_more (enough k (short f k range).1) (sum_few f k range marks s)

  -- ---- steps, and live in the end

  turned : (j r : ℕ) → RepairedIn j r (waves_of f k marks) → Turned f k 1 marks j r
  unfolding waves_of
  turned j r s = step_turn f k range (node_count f k) 1 marks size j r s

  turn_in : (i j : ℕ) → i < node_count f k → Turn f k marks i j → RepairedIn j (suc i) (waves_of f k marks)
  unfolding waves_of
  turn_in i j l t =
      let e : 1 + i ≡ suc i = omega arith in
      rw e at (turn_step f k (node_count f k) 1 marks i j l t)

  in_the_end : (j : ℕ) → is_live (marks_after marks (waves_of f k marks)) j ≡ live (node_count f k) j
  unfolding waves_of
  in_the_end j = ap (λ (now : List Bool). is_live now j) (rounds_are_waves f k (node_count f k) 1 marks)

  -- ---- the claims

  step_least : (j r : ℕ) → RepairedIn j r (waves_of f k marks) → LeastReached f k marks j r
  step_least j r s =
      let t = turned j r s in
      let e : suc t.after ≡ r = omega (arith, t.is) in
      record {
        reached = rw e at (up (suc t.after) j t.turn.node t.turn.live);
        not_before = λ i l q. not_both (live t.after j) (waves_stay f k marks i t.after j (omega arith) (down i j t.turn.node q)) t.turn.missing;
      }

  least_few : (j r : ℕ) → LeastReached f k marks j r → r ≤ most_waves k
  least_few j r w = go (dec_lt (most_waves k) r)
    where
      go : Dec (most_waves k < r) → r ≤ most_waves k
      go (yes l) = absurd (w.not_before (most_waves k) l (soon r j w.reached))
      go (no n) = omega arith

  least_step : (j r : ℕ) → IsNode f k j → is_live marks j ≡ false → LeastReached f k marks j r → RepairedIn j r (waves_of f k marks)
  unfolding after_waves
  least_step j zero n e w = absurd (not_both (is_live marks j) (down 0 j n w.reached) e)
  least_step j (suc i) n e w =
      turn_in i j (omega (arith, room f k range, least_few j (suc i) w))
      (record { node = n; missing = is_false (live i j) (λ h. w.not_before i (omega arith) (up i j n h)); live = down (suc i) j n w.reached })

  -- a node that is reached is live in the end
  not_left : (j r : ℕ) → IsNode f k j → Reached f k marks j r → is_live (marks_after marks (waves_of f k marks)) j ≡ true
  not_left j r n s = in_the_end j ∙ waves_stay f k marks (most_waves k) (node_count f k) j (room f k range) (down (most_waves k) j n (soon r j s))

pub wave_claim : WaveClaim
wave_claim f k range marks size =
    record {
      in_its_wave = λ j r n e. ((λ s. step_least f k range marks size j r s), (λ w. least_step f k range marks size j r n e w));
      left_out = λ j n. (
        (λ e r s. not_both (is_live (marks_after marks (waves_of f k marks)) j) (not_left f k range marks size j r n s) e),
        (λ none. is_false (is_live (marks_after marks (waves_of f k marks)) j) (λ h. none (node_count f k) (up f k range marks size (node_count f k) j n (sym (in_the_end f k range marks size j) ∙ h)))),
      );
      few_waves = last_within (most_waves k) (waves_of f k marks) (λ j r s. least_few f k range marks size j r (step_least f k range marks size j r s));
    }

pub rounds_and_waves : RoundsAndWavesClaim
rounds_and_waves f k range marks size =
    record {
      same_left = same_marks f k range marks size;
      no_sooner = λ j r w p q. wave_first f k range marks size j r w p q;
      waves = waves_few f k range marks size;
    }

pub first_wave_claim : FirstWaveClaim
unfolding waves_of after_waves
first_wave_claim f k range marks size =
    record {
      repaired = λ j. (
        (λ h.
            let t = step_turn f k range (node_count f k) 1 marks size j 1 h in
            let e : t.after ≡ 0 = omega (arith, t.is) in
            let turn : Turn f k marks 0 j = rw e at t.turn in
            let p = waves_only f k range marks 0 j turn.missing turn.live in
            (turn.node, turn.missing, count_some f k marks j (smaller_some f k marks j range turn.node p.one p.other p.one_live p.other_live p.related))),
        (λ h.
            let p = repaired_pair f k range marks j (pair_repairs f k marks marks j h.1 (some_count f k marks j h.2)) in
            turn_step f k (node_count f k) 1 marks 0 j (omega (arith, h.0.first, h.0.last)) (record { node = h.0; missing = h.1; live = waves_get f k range marks size 0 j h.0 p })),
      );
      smaller = λ step h e. ap (λ (step : Step). step.smaller) (first_step f k range (node_count f k) 1 marks step h e);
      larger = λ step h e. ap (λ (step : Step). step.larger) (first_step f k range (node_count f k) 1 marks step h e);
    }
