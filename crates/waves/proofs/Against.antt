-- Rounds against waves: a node that is live after some rounds is live after as many waves, and after all of either the same nodes are live.
-- Assumes nothing.
use mathlib.Core.Path.{◌≡◌, refl, sym, ap, ◌∙◌}
use mathlib.Core.Bool.{Bool, true, false}
use mathlib.Core.List.{List, Memᴰ, [], ◌∷◌}
use mathlib.Core.Logic.{◌⊎◌, inl, inr}
use Prim.Native.Nat.{ℕ, zero, suc, ◌+◌, ◌-◌, ◌≤◌, ◌<◌}
use native.Mathlib.Decide.{ℕ_discrete, dec_lt}
use native.Mathlib.Omega.{arith}
use lib.ListN.{length, set, length-set}
use lib.Seq.{get_or-set_other, ext_get_or}
use Rattle.base.proofs.Tests.{same_answer, not_both, is_false}
use Rattle.families.specs.declared.Family.{Family}
use Rattle.families.specs.Families.{KInRange, node_count}
use Rattle.families.proofs.Laws.{few}
use Rattle.lists.specs.Lists.{is_live, set_live}
use Rattle.lists.proofs.Laws.{length-set_live}
use Rattle.lists.proofs.MarkLaws.{live_keeps, live_listed_lem, listed_live}
use Rattle.pairing.specs.Pairs.{NoPairLeft}
use Rattle.planning.specs.Claims.{CanMakeAll}
use Rattle.planning.specs.Plan.{Step, RepairedIn, once, round_steps, repaired_nodes, marks_after, rounds_from, plan_of, last_round}
use Rattle.waves.specs.Waves.{often, waves_of}
use Rattle.planning.proofs.MakeLaws.{Within, once_shrinks, length-marks_after, left_few}
use Rattle.waves.proofs.RepairedLaws.{LivePair}
use Rattle.planning.proofs.FreeLaws.{free_pair}
use Rattle.planning.proofs.TurnLaws.{round_claims}
use Rattle.planning.proofs.PlanLaws.{rounds_make, rounds_quiet}
use Rattle.planning.proofs.RoundsLaws.{from_round_lem, rounds_most}
use Rattle.waves.proofs.WaveLaws.{often_shrinks, after_waves, waves_first, waves_size, waves_keep, waves_stay, waves_get, step_turn, last_within}

-- ---- all rounds, and all waves

-- steps that can be made add nothing to nodes of which no pair is left
closed : (f : Family) (k : ℕ) (other : List Bool) → NoPairLeft f k (is_live other) → (marks : List Bool) (steps : List Step) → CanMakeAll f k marks steps → Within marks other → Within (marks_after marks steps) other
unfolding set_live
closed f k other none marks [] makes within = within
closed f k other none marks (x ∷ steps) (m, makes) within = closed f k other none (set marks x.node true) steps makes wider
  where
    repaired : is_live other x.node ≡ true
    repaired = go (is_live other x.node) refl
      where
        go : (b : Bool) → is_live other x.node ≡ b → is_live other x.node ≡ true
        go true e = e
        go false e = absurd (none x.node x.smaller x.larger m.node m.smaller m.larger e (within x.smaller m.smaller_live) (within x.larger m.larger_live) m.related)

    wider : Within (set marks x.node true) other
    wider i h = go (ℕ_discrete i x.node)
      where
        go : Dec (i ≡ x.node) → is_live other i ≡ true
        go (yes e) = rw e repaired
        go (no n) = within i (sym (get_or-set_other marks x.node i true false n) ∙ h)

module _ (f : Family) (k : ℕ) (range : KInRange f k) (marks : List Bool) (size : length marks ≡ 256) where
  abbrev planned : List Bool
  planned = marks_after marks (plan_of f k marks)

  abbrev waved : List Bool
  waved = marks_after marks (waves_of f k marks)

  plan_in_waves : Within planned waved
  unfolding plan_of waves_of
  plan_in_waves =
      closed f k waved (rounds_quiet often often_shrinks f k range (node_count f k) marks size 1 (left_few marks (node_count f k))) marks (plan_of f k marks)
      (rounds_make once once_shrinks f k range (node_count f k) marks size 1) (λ i h. live_keeps marks (repaired_nodes (waves_of f k marks)) i h)

  waves_in_plan : Within waved planned
  unfolding plan_of waves_of
  waves_in_plan =
      closed f k planned (rounds_quiet once once_shrinks f k range (node_count f k) marks size 1 (left_few marks (node_count f k))) marks (waves_of f k marks)
      (rounds_make often often_shrinks f k range (node_count f k) marks size 1) (λ i h. live_keeps marks (repaired_nodes (plan_of f k marks)) i h)

  pub same_marks : planned ≡ waved
  same_marks =
      ext_get_or false planned waved (length-marks_after marks (plan_of f k marks) ∙ sym (length-marks_after marks (waves_of f k marks)))
      (λ i l. same_answer (is_live planned i) (is_live waved i) (plan_in_waves i) (waves_in_plan i))

-- ---- round by round

module _ (f : Family) (k : ℕ) (range : KInRange f k) where
  -- a node that a round repairs is live after one wave from no fewer nodes
  one_wave : (marks other : List Bool) → length other ≡ 256 → Within marks other → (r : ℕ) (step : Step) → Memᴰ step (round_steps once f k marks r) → is_live (after_waves f k other 1) step.node ≡ true
  unfolding after_waves
  one_wave marks other size within r step h =
      let c = round_claims f k marks r range in
      let p = free_pair f k marks _ _ _ _ (c.pair step h) in
      waves_get f k range other size 0 step.node (c.missing step h).0
      (record {
        one = step.smaller;
        other = step.larger;
        one_live = record { node = p.smaller.node; live = within _ p.smaller.live };
        other_live = record { node = p.larger.node; live = within _ p.larger.live };
        related = p.related;
      })

  -- so that a round leaves no more live than a wave does
  after_one : (marks other : List Bool) → length other ≡ 256 → Within marks other → (r : ℕ) → Within (marks_after marks (round_steps once f k marks r)) (after_waves f k other 1)
  unfolding after_waves
  after_one marks other size within r i h = go (is_live marks i) refl
    where
      go : (b : Bool) → is_live marks i ≡ b → is_live (after_waves f k other 1) i ≡ true
      go true e = waves_keep f k other 0 i (within i e)
      go false e =
          let q = mathlib.Core.List.Memᴰ.of_map (λ (step : Step). step.node) (round_steps once f k marks r) (listed_live marks (repaired_nodes (round_steps once f k marks r)) i e h) in
          rw (sym q.2) (one_wave marks other size within r q.0 q.1)

  -- a step of round s + i has its node live after i + 1 waves, where round s is the first
  sooner : (m s : ℕ) (marks other : List Bool) → length other ≡ 256 → Within marks other → (i : ℕ) (step : Step) → Memᴰ step (rounds_from once f k s marks m) → step.round ≡ s + i
      → is_live (after_waves f k other (suc i)) step.node ≡ true
  unfolding rounds_from
  sooner zero s marks other size within i step h e = absurd (mathlib.Core.List.Memᴰ.not-nil h)
  sooner (suc m) s marks other size within i step h e =
      go (mathlib.Core.List.Memᴰ.append_cases (round_steps once f k marks s) h)
      (λ j q g. sooner m (suc s) (marks_after marks (round_steps once f k marks s)) (after_waves f k other 1) (waves_size f k other 1 ∙ size) (after_one marks other size within s) j step q g)
    where
      rest : List Step
      rest = rounds_from once f k (suc s) (marks_after marks (round_steps once f k marks s)) m

      go : Memᴰ step (round_steps once f k marks s) ⊎ Memᴰ step rest
          → ((j : ℕ) → Memᴰ step rest → step.round ≡ suc s + j → is_live (after_waves f k (after_waves f k other 1) (suc j)) step.node ≡ true)
          → is_live (after_waves f k other (suc i)) step.node ≡ true
      go (inl q) next = waves_stay f k other 1 (suc i) step.node (omega arith) (one_wave marks other size within s step q)
      go (inr q) next =
          let l = from_round_lem once once_shrinks f k m (suc s) (marks_after marks (round_steps once f k marks s)) step q in
          let j = i - 1 in
          let n : suc (suc j) ≡ suc i = omega (arith, l, e) in
          let is : is_live (after_waves f k (after_waves f k other 1) (suc j)) step.node ≡ true = next j q (omega (arith, l, e)) in
          ap (λ (c : ℕ). is_live (after_waves f k other c) step.node) (sym n) ∙ ap (λ (w : List Bool). is_live w step.node) (sym (waves_first f k other (suc j))) ∙ is

  module _ (marks : List Bool) (size : length marks ≡ 256) where
    pub wave_first : (j r w : ℕ) → RepairedIn j r (plan_of f k marks) → RepairedIn j w (waves_of f k marks) → w ≤ r
    unfolding plan_of waves_of
    wave_first j r w p q = go (dec_lt r w)
      where
        go : Dec (r < w) → w ≤ r
        go (no n) = omega arith
        go (yes l) =
            let t = step_turn f k range (node_count f k) 1 marks size j w q in
            let first = from_round_lem once once_shrinks f k (node_count f k) 1 marks p.step p.listed in
            let is : p.step.round ≡ 1 + (r - 1) = omega (arith, p.round, first) in
            let live = sooner (node_count f k) 1 marks marks size (λ i h. h) (r - 1) p.step p.listed is in
            let n : suc (r - 1) ≡ r = omega (arith, p.round, first) in
            let at-r : is_live (after_waves f k marks r) j ≡ true = sym (ap (λ (c : ℕ). is_live (after_waves f k marks c) j) n) ∙ ap (is_live (after_waves f k marks (suc (r - 1)))) (sym p.node) ∙ live in
            absurd (not_both (is_live (after_waves f k marks t.after) j) (waves_stay f k marks r t.after j (omega (arith, t.is)) at-r) t.turn.missing)

    -- a node of a wave is one of a round
    in_plan : (j w : ℕ) → RepairedIn j w (waves_of f k marks) → w ≤ last_round (plan_of f k marks)
    unfolding plan_of waves_of after_waves
    in_plan j w q =
        let t = step_turn f k range (node_count f k) 1 marks size j w q in
        let n = t.turn.node in
        let gone : is_live marks j ≡ false = is_false (is_live marks j) (λ h. not_both (is_live (after_waves f k marks t.after) j) (waves_stay f k marks 0 t.after j (omega arith) h) t.turn.missing) in
        let listed : Memᴰ j (repaired_nodes (waves_of f k marks)) = mathlib.Core.List.Memᴰ.cast (sym q.node) (mathlib.Core.List.Memᴰ.map (λ (step : Step). step.node) q.listed) in
        let live = live_listed_lem marks (omega (arith, size, n.last, few f k range)) listed in
        let back : is_live (marks_after marks (plan_of f k marks)) j ≡ true = ap (λ (now : List Bool). is_live now j) (same_marks f k range marks size) ∙ live in
        let p = mathlib.Core.List.Memᴰ.of_map (λ (step : Step). step.node) (plan_of f k marks) (listed_live marks (repaired_nodes (plan_of f k marks)) j gone back) in
        omega (
          arith,
          wave_first j p.0.round w (record { step = p.0; listed = p.1; node = p.2; round = refl }) q,
          rounds_most once once_shrinks f k (node_count f k) 1 marks p.0 p.1,
        )

    pub waves_few : last_round (waves_of f k marks) ≤ last_round (plan_of f k marks)
    waves_few = last_within (last_round (plan_of f k marks)) (waves_of f k marks) in_plan
