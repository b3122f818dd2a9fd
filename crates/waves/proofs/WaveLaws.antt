-- The marks wave by wave: a wave makes live exactly the missing nodes that have a live pair, and there is a step for a node in the wave
-- that makes it live.
-- Assumes nothing.
use mathlib.Core.Path.{◌≡◌, refl, sym, ap, ◌∙◌}
use mathlib.Core.Bool.{Bool, true, false, cond, not}
use mathlib.Core.List.{List, [], ◌∷◌, get_last_d, Memᴰ, map, map-map, map-id}
use mathlib.Core.Logic.{◌⊎◌, inl, inr}
use Prim.Native.Nat.{ℕ, zero, suc, ◌+◌, ◌≤◌, ◌<◌}
use native.Mathlib.Nat.{add-zero, eq-zero-or-pos}
use native.Mathlib.Decide.{ℕ_discrete}
use native.Mathlib.Omega.{arith}
use lib.ListN.{length}
use Rattle.base.specs.Ranges.{those_from}
use Rattle.base.proofs.RangeLaws.{those_has, those_are}
use Rattle.families.specs.declared.Family.{Family}
use Rattle.families.specs.Families.{KInRange, IsNode, node_count}
use Rattle.families.proofs.Laws.{few}
use Rattle.lists.specs.Lists.{is_live, set_live}
use Rattle.lists.proofs.Laws.{length-set_live}
use Rattle.lists.proofs.MarkLaws.{live_keeps, live_listed_lem, listed_live}
use Rattle.pairing.specs.Pairs.{smaller_node}
use Rattle.waves.specs.Waves.{often}
use Rattle.planning.specs.Plan.{Step, RepairedIn, step_of, steps_for, round_steps, repaired_nodes, marks_after, rounds_from, last_round}
use Rattle.planning.proofs.MakeLaws.{Shrinks, is_repaired, repaired_missing, live_kept, pairless_kept, pair_repairs, turn_waits, turn_repairs}
use Rattle.waves.proofs.RepairedLaws.{LivePair, repaired_pair, pair_repaired}
use Rattle.planning.proofs.RoundLaws.{marks_append}
use Rattle.planning.proofs.RoundsLaws.{first_steps}

pub often_shrinks : Shrinks often
often_shrinks free step i h = h

module _ (f : Family) (k : ℕ) where
  -- the nodes that a wave repairs
  abbrev wave_nodes : List Bool → List ℕ
  wave_nodes marks = those_from (is_repaired f k marks marks) 1 (node_count f k)

  -- and its steps: each node is repaired from the pair that the search by itself gives
  abbrev pub wave_step : List Bool → ℕ → ℕ → Step
  wave_step marks r j = step_of f k marks marks r j

  wave_from : (marks : List Bool) (r j m : ℕ) → steps_for often f k marks r marks (those_from (λ i. not (is_live marks i)) j m) ≡ map (wave_step marks r) (those_from (is_repaired f k marks marks) j m)
  unfolding those_from steps_for
  wave_from marks r j zero = refl
  wave_from marks r j (suc m) = go (is_live marks j) refl (eq-zero-or-pos (smaller_node f k marks j)) (wave_from marks r (suc j) m)
    where
      later : List ℕ
      later = those_from (λ i. not (is_live marks i)) (suc j) m

      repaired : List ℕ
      repaired = those_from (is_repaired f k marks marks) (suc j) m

      go : (b : Bool) → is_live marks j ≡ b → (smaller_node f k marks j ≡ 0) ⊎ (0 < smaller_node f k marks j)
          → steps_for often f k marks r marks later ≡ map (wave_step marks r) repaired
          → steps_for often f k marks r marks (cond (not b) (j ∷ later) later) ≡ map (wave_step marks r) (cond (is_repaired f k marks marks j) (j ∷ repaired) repaired)
      go true v s e = rw (live_kept f k marks marks j v) e
      go false v (inl z) e = turn_waits f k marks marks j often r later z ∙ rw (pairless_kept f k marks marks j z) e
      go false v (inr h) e = turn_repairs f k marks marks j often r later h ∙ rw (pair_repairs f k marks marks j v h) (ap (λ (steps : List Step). wave_step marks r j ∷ steps) e)

  wave_steps : (marks : List Bool) (r : ℕ) → round_steps often f k marks r ≡ map (wave_step marks r) (wave_nodes marks)
  wave_steps marks r = wave_from marks r 1 (node_count f k)

  -- the marks after r waves
  unfoldable pub after_waves : List Bool → ℕ → List Bool
  after_waves marks zero = marks
  after_waves marks (suc r) = set_live (after_waves marks r) (wave_nodes (after_waves marks r))

  -- those after a round, whatever its number is
  round_marks : (marks : List Bool) (r : ℕ) → marks_after marks (round_steps often f k marks r) ≡ after_waves marks 1
  unfolding after_waves
  round_marks marks r =
      ap (set_live marks) (ap repaired_nodes (wave_steps marks r) ∙ map-map (λ (step : Step). step.node) (wave_step marks r) (wave_nodes marks) ∙ map-id (wave_nodes marks))

  -- the first of them may be made before the others
  pub waves_first : (marks : List Bool) (r : ℕ) → after_waves (after_waves marks 1) r ≡ after_waves marks (suc r)
  unfolding after_waves
  waves_first marks zero = refl
  waves_first marks (suc r) = ap (λ (now : List Bool). set_live now (wave_nodes now)) (waves_first marks r)

  pub rounds_are_waves : (m r : ℕ) (marks : List Bool) → marks_after marks (rounds_from often f k r marks m) ≡ after_waves marks m
  unfolding rounds_from after_waves set_live
  rounds_are_waves zero r marks = refl
  rounds_are_waves (suc m) r marks =
      marks_append marks (round_steps often f k marks r) (rounds_from often f k (suc r) (marks_after marks (round_steps often f k marks r)) m)
      ∙ rounds_are_waves m (suc r) (marks_after marks (round_steps often f k marks r)) ∙ ap (λ (now : List Bool). after_waves now m) (round_marks marks r) ∙ waves_first marks m

  pub waves_size : (marks : List Bool) (r : ℕ) → length (after_waves marks r) ≡ length marks
  unfolding after_waves
  waves_size marks zero = refl
  waves_size marks (suc r) = length-set_live (after_waves marks r) (wave_nodes (after_waves marks r)) ∙ waves_size marks r

  -- ---- what a wave makes live

  module _ (marks : List Bool) where
    pub waves_keep : (r j : ℕ) → is_live (after_waves marks r) j ≡ true → is_live (after_waves marks (suc r)) j ≡ true
    unfolding after_waves
    waves_keep r j h = live_keeps (after_waves marks r) (wave_nodes (after_waves marks r)) j h

    pub waves_stay : (i r j : ℕ) → i ≤ r → is_live (after_waves marks i) j ≡ true → is_live (after_waves marks r) j ≡ true
    waves_stay i zero j l h = let e : i ≡ 0 = omega arith in rw e at h
    waves_stay i (suc r) j l h = go (ℕ_discrete i (suc r)) (λ g. waves_stay i r j g h)
      where
        go : Dec (i ≡ suc r) → (i ≤ r → is_live (after_waves marks r) j ≡ true) → is_live (after_waves marks (suc r)) j ≡ true
        go (yes e) later = rw e at h
        go (no n) later = waves_keep r j (later (omega arith))

  module _ (range : KInRange f k) (marks : List Bool) where
    pub waves_only : (r j : ℕ) → is_live (after_waves marks r) j ≡ false → is_live (after_waves marks (suc r)) j ≡ true → LivePair f k (after_waves marks r) j
    unfolding after_waves
    waves_only r j e h =
        let m = listed_live (after_waves marks r) (wave_nodes (after_waves marks r)) j e h in
        repaired_pair f k range (after_waves marks r) j (those_are (is_repaired f k (after_waves marks r) (after_waves marks r)) 1 (node_count f k) j m).passes

    pub waves_get : length marks ≡ 256 → (r j : ℕ) → IsNode f k j → LivePair f k (after_waves marks r) j → is_live (after_waves marks (suc r)) j ≡ true
    unfolding after_waves
    waves_get size r j n p = go (is_live (after_waves marks r) j) refl
      where
        go : (b : Bool) → is_live (after_waves marks r) j ≡ b → is_live (after_waves marks (suc r)) j ≡ true
        go true e = waves_keep marks r j e
        go false e =
            live_listed_lem (after_waves marks r) (omega (arith, waves_size marks r, n.last, few f k range))
            (those_has (is_repaired f k (after_waves marks r) (after_waves marks r)) 1 (node_count f k) j n.first (omega (arith, n.last)) (pair_repaired f k range (after_waves marks r) j n e p))

  -- ---- the steps of waves

  -- node j is missing after i waves, and live after one more
  pub record Turn (marks : List Bool) (i j : ℕ) : Type 0 where
    pub node : IsNode f k j
    pub missing : is_live (after_waves marks i) j ≡ false
    pub live : is_live (after_waves marks (suc i)) j ≡ true

  later_turn : (marks : List Bool) (i j : ℕ) → Turn (after_waves marks 1) i j → Turn marks (suc i) j
  later_turn marks i j t = record { node = t.node; missing = rw (waves_first marks i) at t.missing; live = rw (waves_first marks (suc i)) at t.live }

  sooner_turn : (marks : List Bool) (i j : ℕ) → Turn marks (suc i) j → Turn (after_waves marks 1) i j
  sooner_turn marks i j t = record { node = t.node; missing = rw (waves_first marks i) t.missing; live = rw (waves_first marks (suc i)) t.live }

  -- the round of a step is that of its node's turn, where rounds are numbered from r
  pub record Turned (r : ℕ) (marks : List Bool) (j s : ℕ) : Type 0 where
    pub after : ℕ
    pub is : s ≡ r + after
    pub turn : Turn marks after j

  first_listed : (marks : List Bool) (j : ℕ) → Turn marks 0 j → Memᴰ j (wave_nodes marks)
  unfolding after_waves
  first_listed marks j t = listed_live marks (wave_nodes marks) j t.missing t.live

  -- a node's turn within m rounds is a step
  pub turn_step : (m r : ℕ) (marks : List Bool) (i j : ℕ) → i < m → Turn marks i j → RepairedIn j (r + i) (rounds_from often f k r marks m)
  unfolding rounds_from
  turn_step zero r marks i j l t = absurd (omega arith)
  turn_step (suc m) r marks zero j l t =
      record {
        step = wave_step marks r j;
        listed = mathlib.Core.List.Memᴰ.append_left {s = round_steps often f k marks r} (rounds_from often f k (suc r) (marks_after marks (round_steps often f k marks r)) m) (rw (wave_steps marks r) (mathlib.Core.List.Memᴰ.map (wave_step marks r) (first_listed marks j t)));
        node = refl;
        round = sym (add-zero r);
      }
  turn_step (suc m) r marks (suc i) j l t =
      let e : suc r + i ≡ r + suc i = omega arith in
      let q = turn_step m (suc r) (marks_after marks (round_steps often f k marks r)) i j (omega arith) (rw (round_marks marks r) (sooner_turn marks i j t)) in
      record { step = q.step; listed = mathlib.Core.List.Memᴰ.append_right (round_steps often f k marks r) q.listed; node = q.node; round = q.round ∙ e }

  module _ (range : KInRange f k) where
    first_turn : (r : ℕ) (marks : List Bool) → length marks ≡ 256 → (j s : ℕ) → RepairedIn j s (round_steps often f k marks r) → Turned r marks j s
    unfolding after_waves
    first_turn r marks size j s h =
        let q = mathlib.Core.List.Memᴰ.of_map (wave_step marks r) (wave_nodes marks) (rw (wave_steps marks r) at h.listed) in
        let e : j ≡ q.0 = sym h.node ∙ sym (ap (λ (step : Step). step.node) q.2) in
        let m : Memᴰ j (wave_nodes marks) = mathlib.Core.List.Memᴰ.cast e q.1 in
        let t = those_are (is_repaired f k marks marks) 1 (node_count f k) j m in
        let n : IsNode f k j = record { first = t.from; last = omega (arith, t.below) } in
        record {
          after = 0;
          is = sym h.round ∙ sym (ap (λ (step : Step). step.round) q.2) ∙ sym (add-zero r);
          turn = record { node = n; missing = repaired_missing f k marks marks j t.passes; live = live_listed_lem marks (omega (arith, n.last, few f k range)) m };
        }

    pub step_turn : (m r : ℕ) (marks : List Bool) → length marks ≡ 256 → (j s : ℕ) → RepairedIn j s (rounds_from often f k r marks m) → Turned r marks j s
    unfolding rounds_from
    step_turn zero r marks size j s h = absurd (mathlib.Core.List.Memᴰ.not-nil h.listed)
    step_turn (suc m) r marks size j s h = go (mathlib.Core.List.Memᴰ.append_cases (round_steps often f k marks r) h.listed) (λ q. step_turn m (suc r) next (length-set_live marks _ ∙ size) j s q)
      where
        next : List Bool
        next = marks_after marks (round_steps often f k marks r)

        rest : List Step
        rest = rounds_from often f k (suc r) (marks_after marks (round_steps often f k marks r)) m

        go : Memᴰ h.step (round_steps often f k marks r) ⊎ Memᴰ h.step rest → (RepairedIn j s rest → Turned (suc r) next j s) → Turned r marks j s
        go (inl q) later = first_turn r marks size j s (record { step = h.step; listed = q; node = h.node; round = h.round })
        go (inr q) later =
            let t = later (record { step = h.step; listed = q; node = h.node; round = h.round }) in
            record { after = suc t.after; is = omega (arith, t.is); turn = later_turn marks t.after j (rw (round_marks marks r) at t.turn) }

    -- each step of the first wave is that of its node
    pub first_step : (m r : ℕ) (marks : List Bool) (step : Step) → Memᴰ step (rounds_from often f k r marks m) → step.round ≡ r → step ≡ wave_step marks r step.node
    first_step m r marks step h e =
        let q = mathlib.Core.List.Memᴰ.of_map (wave_step marks r) (wave_nodes marks) (rw (wave_steps marks r) at (first_steps often often_shrinks f k m r marks step h e)) in
        sym q.2 ∙ ap (wave_step marks r) (ap (λ (step : Step). step.node) q.2)

-- a bound of every step's round bounds the last one
pub last_within : (b : ℕ) (steps : List Step) → ((j r : ℕ) → RepairedIn j r steps → r ≤ b) → last_round steps ≤ b
unfolding last_round get_last_d
last_within b [] h = let e : last_round [] ≡ 0 = refl in omega (arith, e)
last_within b (x ∷ []) h = h x.node x.round (record { step = x; listed = mathlib.Core.List.Memᴰ.head refl; node = refl; round = refl })
last_within b (x ∷ y ∷ steps) h =
    last_within b (y ∷ steps) (λ j r s. h j r (record { step = s.step; listed = mathlib.Core.List.Memᴰ.tail s.listed; node = s.node; round = s.round }))
