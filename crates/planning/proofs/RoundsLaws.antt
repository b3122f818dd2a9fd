-- The rounds of a plan, told apart by the number that each step has: what a round begins with, that none before the last is empty, and
-- that there are no more of them than steps.
-- Assumes nothing.
use mathlib.Core.Path.{◌≡◌, refl, sym, ap, ap₂, ◌∙◌}
use mathlib.Core.Bool.{Bool}
use mathlib.Core.List.Memᴰ
use mathlib.Core.List.{List, Memᴰ, [], ◌∷◌, ◌++◌, append_assoc, append-nil, get_last_d}
use mathlib.Core.Logic.{◌⊎◌, inl, inr}
use Prim.Native.Nat.{ℕ, zero, suc, ◌+◌, ◌≤◌, ◌<◌}
use native.Mathlib.Decide.{ℕ_discrete, dec_lt}
use native.Mathlib.Omega.{arith}
use borrow.Author.Tests.{lt-ltb, le-ltb, lt-leb, le-leb, eq-eqb, ne_eqb}
use lib.Dec.{eqb, leb, ltb}
use lib.ListN.{length, length-append}
use Rattle.families.specs.declared.Family.{Family}
use Rattle.families.specs.Families.{KInRange, node_count}
use Rattle.lists.specs.Lists.{missing_nodes, set_live}
use Rattle.planning.specs.Plan.{Step, Reading, round_steps, marks_after, rounds_from, steps_with, in_round, before_round, from_round, last_round, nodes_left}
use Rattle.planning.proofs.MakeLaws.{each_step, Shrinks}
use Rattle.planning.proofs.RoundLaws.{marks_append}
use Rattle.planning.proofs.PlanLaws.{none_or_some, after_round, none_again, none_missing, rounds_end, rounds_suc, round_counts, after_size}
use Rattle.planning.proofs.PlannedLaws.{last_round_lem, last_more}
use Rattle.planning.proofs.WithLaws.{with_append, with_all, with_none}

-- every round of some steps is at least b
abbrev AtLeast : ℕ → List Step → Type 0
AtLeast b steps = (step : Step) → Memᴰ step steps → b ≤ step.round

last_least : (b : ℕ) (steps : List Step) → 1 ≤ length steps → AtLeast b steps → b ≤ last_round steps
unfolding last_round get_last_d
last_least b [] l h = absurd (omega arith)
last_least b (x ∷ []) l h = h x (Memᴰ.head refl)
last_least b (x ∷ y ∷ steps) l h = last_least b (y ∷ steps) (omega arith) (λ step m. h step (Memᴰ.tail m))

module _ (reading : Reading) (shrinks : Shrinks reading) (f : Family) (k : ℕ) where
  abbrev rounds : ℕ → List Bool → ℕ → List Step
  rounds s marks m = rounds_from reading f k s marks m

  abbrev now : List Bool → ℕ → List Step
  now marks s = round_steps reading f k marks s

  -- the steps after a round
  abbrev rest : List Bool → ℕ → ℕ → List Step
  rest marks s m = rounds_from reading f k (suc s) (after_round reading shrinks f k marks s) m

  own : (marks : List Bool) (s : ℕ) (step : Step) → Memᴰ step (now marks s) → step.round ≡ s
  own marks s step h = (each_step reading f k marks s marks (missing_nodes marks (node_count f k)) step h).0

  pub from_round_lem : (m s : ℕ) (marks : List Bool) → AtLeast s (rounds s marks m)
  unfolding rounds_from
  from_round_lem zero s marks step h = absurd (Memᴰ.not-nil h)
  from_round_lem (suc m) s marks step h = go (Memᴰ.append_cases (now marks s) h) (λ q. from_round_lem m (suc s) (after_round reading shrinks f k marks s) step q)
    where
      go : Memᴰ step (now marks s) ⊎ Memᴰ step (rest marks s m) → (Memᴰ step (rest marks s m) → suc s ≤ step.round) → s ≤ step.round
      go (inl q) later = omega (arith, own marks s step q)
      go (inr q) later = omega (arith, later q)

  -- the steps of the first round are those with its number
  pub first_steps : (m s : ℕ) (marks : List Bool) (step : Step) → Memᴰ step (rounds s marks m) → step.round ≡ s → Memᴰ step (now marks s)
  unfolding rounds_from
  first_steps zero s marks step h e = absurd (Memᴰ.not-nil h)
  first_steps (suc m) s marks step h e = go (Memᴰ.append_cases (now marks s) h)
    where
      go : Memᴰ step (now marks s) ⊎ Memᴰ step (rest marks s m) → Memᴰ step (now marks s)
      go (inl q) = q
      go (inr q) = absurd (omega (arith, e, from_round_lem m (suc s) (after_round reading shrinks f k marks s) step q))

  pub first_listed : (m s : ℕ) (marks : List Bool) (step : Step) → 1 ≤ m → Memᴰ step (now marks s) → Memᴰ step (rounds s marks m)
  unfolding rounds_from
  first_listed zero s marks step l h = absurd (omega arith)
  first_listed (suc m) s marks step l h = Memᴰ.append_left {s = now marks s} (rest marks s m) h

  -- ---- one round among the others

  module _ (marks : List Bool) (s m : ℕ) where
    later : AtLeast (suc s) (rest marks s m)
    later = from_round_lem m (suc s) (after_round reading shrinks f k marks s)

    in_first : in_round s (rounds s marks (suc m)) ≡ now marks s
    in_first =
        ap (in_round s) (rounds_suc reading shrinks f k marks s m) ∙ with_append (λ (step : Step). eqb step.round s) (now marks s) (rest marks s m)
        ∙ ap₂ ◌++◌ (with_all (λ (step : Step). eqb step.round s) (now marks s) (λ step h. eq-eqb step.round s (own marks s step h)))
        (with_none (λ (step : Step). eqb step.round s) (rest marks s m) (λ step h. ne_eqb step.round s (λ e. omega (arith, e, later step h))))
        ∙ append-nil (now marks s)

    before_first : before_round s (rounds s marks (suc m)) ≡ []
    before_first = with_none (λ (step : Step). ltb step.round s) (rounds s marks (suc m)) (λ step h. le-ltb step.round s (from_round_lem (suc m) s marks step h))

    module _ (r : ℕ) (l : s < r) where
      in_later : in_round r (rounds s marks (suc m)) ≡ in_round r (rest marks s m)
      in_later =
          ap (in_round r) (rounds_suc reading shrinks f k marks s m) ∙ with_append (λ (step : Step). eqb step.round r) (now marks s) (rest marks s m)
          ∙ ap (λ (t : List Step). t ++ in_round r (rest marks s m)) (with_none (λ (step : Step). eqb step.round r) (now marks s) (λ step h. ne_eqb step.round r (λ e. omega (arith, e, own marks s step h))))

      before_later : before_round r (rounds s marks (suc m)) ≡ now marks s ++ before_round r (rest marks s m)
      before_later =
          ap (before_round r) (rounds_suc reading shrinks f k marks s m) ∙ with_append (λ (step : Step). ltb step.round r) (now marks s) (rest marks s m)
          ∙ ap (λ (t : List Step). t ++ before_round r (rest marks s m)) (with_all (λ (step : Step). ltb step.round r) (now marks s) (λ step h. lt-ltb step.round r (omega (arith, own marks s step h))))

  -- ---- all of them

  -- the steps of the rounds before r stand before the others
  pub rounds_order : (m s : ℕ) (marks : List Bool) (r : ℕ) → rounds s marks m ≡ before_round r (rounds s marks m) ++ from_round r (rounds s marks m)
  unfolding rounds_from steps_with
  rounds_order zero s marks r = refl
  rounds_order (suc m) s marks r = go (dec_lt s r) (rounds_order m (suc s) (after_round reading shrinks f k marks s) r)
    where
      all : List Step
      all = rounds s marks (suc m)

      go : Dec (s < r) → rest marks s m ≡ before_round r (rest marks s m) ++ from_round r (rest marks s m) → all ≡ before_round r all ++ from_round r all
      go (no n) e =
          let from : (step : Step) → Memᴰ step all → r ≤ step.round = λ step h. let q = from_round_lem (suc m) s marks step h in omega arith in
          sym (ap₂ ◌++◌ (with_none (λ (step : Step). ltb step.round r) all (λ step h. le-ltb step.round r (from step h))) (with_all (λ (step : Step). leb r step.round) all (λ step h. le-leb r step.round (from step h))))
      go (yes l) e =
          let later : from_round r all ≡ from_round r (rest marks s m) =
          ap (from_round r) (rounds_suc reading shrinks f k marks s m) ∙ with_append (λ (step : Step). leb r step.round) (now marks s) (rest marks s m)
          ∙ ap (λ (t : List Step). t ++ from_round r (rest marks s m)) (with_none (λ (step : Step). leb r step.round) (now marks s) (λ step h. lt-leb r step.round (omega (arith, own marks s step h)))) in
          rounds_suc reading shrinks f k marks s m ∙ ap (λ (t : List Step). now marks s ++ t) e
          ∙ sym (append_assoc (now marks s) (before_round r (rest marks s m)) (from_round r (rest marks s m))) ∙ sym (ap₂ ◌++◌ (before_later marks s m r l) later)

  module _ (range : KInRange f k) where
    -- the steps of round r are those of a round that begins with what the rounds before leave
    pub round_is : (m s : ℕ) (marks : List Bool) → length marks ≡ 256 → nodes_left marks (node_count f k) ≤ m → (r : ℕ) → s ≤ r
        → in_round r (rounds s marks m) ≡ round_steps reading f k (marks_after marks (before_round r (rounds s marks m))) r
    unfolding rounds_from steps_with set_live
    round_is zero s marks size few r l = sym (none_again reading f k marks s r (none_missing reading shrinks f k range marks size s few))
    round_is (suc m) s marks size few r l =
        go (ℕ_discrete r s) (none_or_some (now marks s)) (λ g q. round_is m (suc s) (after_round reading shrinks f k marks s) (after_size reading shrinks f k range marks size s) g r q)
      where
        all : List Step
        all = rounds s marks (suc m)

        -- where this round has no steps, no other has
        quiet : now marks s ≡ [] → in_round r all ≡ round_steps reading f k (marks_after marks (before_round r all)) r
        quiet e =
            let none : all ≡ [] = rounds_end reading shrinks f k marks s (suc m) e in
            rw none (sym (none_again reading f k marks s r e))

        go : Dec (r ≡ s) → (now marks s ≡ []) ⊎ (1 ≤ length (now marks s))
            → (nodes_left (after_round reading shrinks f k marks s) (node_count f k) ≤ m → suc s ≤ r
            → in_round r (rest marks s m) ≡ round_steps reading f k (marks_after (after_round reading shrinks f k marks s) (before_round r (rest marks s m))) r)
            → in_round r all ≡ round_steps reading f k (marks_after marks (before_round r all)) r
        go (yes e) o next = rw (e, in_first marks s m, before_first marks s m)
        go (no n) (inl e) next = quiet e
        go (no n) (inr h) next =
            in_later marks s m r (omega arith) ∙ next (omega (arith, round_counts reading shrinks f k range marks size s)) (omega arith)
            ∙ ap (λ (w : List Bool). round_steps reading f k w r) (sym (marks_append marks (now marks s) (before_round r (rest marks s m))) ∙ ap (marks_after marks) (sym (before_later marks s m r (omega arith))))

  -- the last round of a list with a round more
  last_is : (marks : List Bool) (s m : ℕ) → 1 ≤ length (now marks s) → (rest marks s m ≡ []) ⊎ (1 ≤ length (rest marks s m))
      → ((rest marks s m ≡ []) × (last_round (rounds s marks (suc m)) ≡ s)) ⊎ ((1 ≤ length (rest marks s m)) × (last_round (rounds s marks (suc m)) ≡ last_round (rest marks s m)))
  unfolding rounds_from
  last_is marks s m h (inl e) = inl (e, rw (e, append-nil) (last_round_lem reading f k marks s h))
  last_is marks s m h (inr g) = inr (g, last_more (now marks s) (rest marks s m) (last_round (rest marks s m)) g refl)

  -- where it has no steps, nothing is left to be said
  last_none : (marks : List Bool) (s m : ℕ) → now marks s ≡ [] → last_round (rounds s marks m) ≡ 0
  unfolding last_round get_last_d
  last_none marks s m e = rw (rounds_end reading shrinks f k marks s m e)

  pub rounds_some : (m s : ℕ) (marks : List Bool) → 1 ≤ s → (r : ℕ) → s ≤ r → r ≤ last_round (rounds s marks m) → 1 ≤ length (in_round r (rounds s marks m))
  unfolding rounds_from last_round get_last_d
  rounds_some zero s marks one r l h = absurd (omega arith)
  rounds_some (suc m) s marks one r l h =
      go (ℕ_discrete r s) (none_or_some (now marks s)) (λ q g. rounds_some m (suc s) (after_round reading shrinks f k marks s) (omega arith) r q g)
    where
      go : Dec (r ≡ s) → (now marks s ≡ []) ⊎ (1 ≤ length (now marks s)) → (suc s ≤ r → r ≤ last_round (rest marks s m) → 1 ≤ length (in_round r (rest marks s m)))
          → 1 ≤ length (in_round r (rounds s marks (suc m)))
      go d (inl e) next = absurd (omega (arith, h, last_none marks s (suc m) e))
      go (yes e) (inr g) next = rw (e, in_first marks s m) g
      go (no n) (inr g) next = pick (last_is marks s m g (none_or_some (rest marks s m)))
        where
          pick : ((rest marks s m ≡ []) × (last_round (rounds s marks (suc m)) ≡ s)) ⊎ ((1 ≤ length (rest marks s m)) × (last_round (rounds s marks (suc m)) ≡ last_round (rest marks s m)))
              → 1 ≤ length (in_round r (rounds s marks (suc m)))
          pick (inl q) = absurd (omega (arith, q.1, h))
          pick (inr q) = rw (in_later marks s m r (omega arith)) (next (omega arith) (omega (arith, q.1, h)))

  pub rounds_few : (m s : ℕ) (marks : List Bool) → last_round (rounds (suc s) marks m) ≤ s + length (rounds (suc s) marks m)
  unfolding rounds_from last_round get_last_d
  rounds_few zero s marks = omega arith
  rounds_few (suc m) s marks = go (none_or_some (now marks (suc s))) (rounds_few m (suc s) (after_round reading shrinks f k marks (suc s)))
    where
      go : (now marks (suc s) ≡ []) ⊎ (1 ≤ length (now marks (suc s))) → last_round (rest marks (suc s) m) ≤ suc s + length (rest marks (suc s) m)
          → last_round (rounds (suc s) marks (suc m)) ≤ s + length (rounds (suc s) marks (suc m))
      go (inl e) next = omega (arith, last_none marks (suc s) (suc m) e)
      go (inr g) next = pick (last_is marks (suc s) m g (none_or_some (rest marks (suc s) m)))
        where
          total : length (rounds (suc s) marks (suc m)) ≡ length (now marks (suc s)) + length (rest marks (suc s) m)
          total = ap length (rounds_suc reading shrinks f k marks (suc s) m) ∙ length-append (now marks (suc s)) (rest marks (suc s) m)

          pick : ((rest marks (suc s) m ≡ []) × (last_round (rounds (suc s) marks (suc m)) ≡ suc s)) ⊎ ((1 ≤ length (rest marks (suc s) m)) × (last_round (rounds (suc s) marks (suc m)) ≡ last_round (rest marks (suc s) m)))
              → last_round (rounds (suc s) marks (suc m)) ≤ s + length (rounds (suc s) marks (suc m))
          pick (inl q) = omega (arith, q.1, total)
          pick (inr q) = omega (arith, q.1, total, next)

  pub rounds_most : (m s : ℕ) (marks : List Bool) (step : Step) → Memᴰ step (rounds s marks m) → step.round ≤ last_round (rounds s marks m)
  unfolding rounds_from
  rounds_most zero s marks step h = absurd (Memᴰ.not-nil h)
  rounds_most (suc m) s marks step h = go (Memᴰ.append_cases (now marks s) h) (none_or_some (now marks s)) (λ q. rounds_most m (suc s) (after_round reading shrinks f k marks s) step q)
    where
      some : Memᴰ step (rest marks s m) → 1 ≤ length (rest marks s m)
      some q = pick (none_or_some (rest marks s m))
        where
          pick : (rest marks s m ≡ []) ⊎ (1 ≤ length (rest marks s m)) → 1 ≤ length (rest marks s m)
          pick (inl e) = absurd (Memᴰ.not-nil (rw e at q))
          pick (inr l) = l

      go : Memᴰ step (now marks s) ⊎ Memᴰ step (rest marks s m) → (now marks s ≡ []) ⊎ (1 ≤ length (now marks s)) → (Memᴰ step (rest marks s m) → step.round ≤ last_round (rest marks s m))
          → step.round ≤ last_round (rounds s marks (suc m))
      go q (inl e) next = absurd (Memᴰ.not-nil (rw (rounds_end reading shrinks f k marks s (suc m) e) at h))
      go (inl q) (inr g) next = pick (last_is marks s m g (none_or_some (rest marks s m)))
        where
          pick : ((rest marks s m ≡ []) × (last_round (rounds s marks (suc m)) ≡ s)) ⊎ ((1 ≤ length (rest marks s m)) × (last_round (rounds s marks (suc m)) ≡ last_round (rest marks s m)))
              → step.round ≤ last_round (rounds s marks (suc m))
          pick (inl w) = omega (arith, w.1, own marks s step q)
          pick (inr w) = omega (arith, w.1, own marks s step q, last_least (suc s) (rest marks s m) w.0 (later marks s m))
      go (inr q) (inr g) next = omega (arith, next q, last_more (now marks s) (rest marks s m) (last_round (rest marks s m)) (some q) refl)
