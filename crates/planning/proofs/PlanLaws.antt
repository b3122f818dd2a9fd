-- The rounds of a plan: a round without steps has no pair left to repair with, so that the plan ends there, and any other
-- round leaves fewer nodes missing.
-- Assumes nothing.
use mathlib.Core.Path.{◌≡◌, refl, sym, ap, ◌∙◌}
use mathlib.Core.Bool.{Bool, not}
use mathlib.Core.List.Memᴰ
use mathlib.Core.List.{List, Memᴰ, [], ◌∷◌, ◌++◌, cons≢nil}
use mathlib.Core.Logic.{◌⊎◌, inl, inr}
use Prim.Native.Nat.{ℕ, zero, suc, ◌+◌, ◌-◌, ◌≤◌, ◌<◌}
use native.Mathlib.Nat.{eq-zero-or-pos}
use native.Mathlib.Omega.{arith}
use lib.ListN.{length}
use Rattle.base.proofs.RangeLaws.{those_has}
use Rattle.families.specs.declared.Family.{Family}
use Rattle.families.specs.Families.{KInRange, node_count}
use Rattle.lists.specs.Lists.{is_live, set_live, live_nodes, missing_nodes}
use Rattle.planning.specs.Claims.{CanMakeAll}
use Rattle.pairing.specs.Pairs.{smaller_node, NoPairLeft}
use Rattle.pairing.proofs.PairLaws.{pair_of, smaller_some}
use Rattle.planning.specs.Plan.{Step, Reading, steps_for, round_steps, marks_after, rounds_from, nodes_left}
use Rattle.planning.proofs.MakeLaws.{length-marks_after, can_make_append, turn_waits, turn_repairs, Shrinks, round_makes, make_counts}
use Rattle.planning.proofs.RoundLaws.{marks_append}

-- ---- a round without steps

module _ (reading : Reading) (f : Family) (k : ℕ) (marks : List Bool) where
  -- where no node is repaired all of them wait, and may read what may be read at first
  all_wait : (r : ℕ) (free : List Bool) (nodes : List ℕ) → steps_for reading f k marks r free nodes ≡ [] → (j : ℕ) → Memᴰ j nodes → smaller_node f k free j ≡ 0
  all_wait r free [] e j m = absurd (Memᴰ.not-nil m)
  all_wait r free (x ∷ nodes) e j m = go (eq-zero-or-pos (smaller_node f k free x)) m (λ g. all_wait r free nodes g j)
    where
      go : (smaller_node f k free x ≡ 0) ⊎ (0 < smaller_node f k free x) → Memᴰ j (x ∷ nodes)
          → (steps_for reading f k marks r free nodes ≡ [] → Memᴰ j nodes → smaller_node f k free j ≡ 0) → smaller_node f k free j ≡ 0
      go (inl z) (Memᴰ.head q) later = rw q z
      go (inl z) (Memᴰ.tail t) later = later (sym (turn_waits f k marks free x reading r nodes z) ∙ e) t
      go (inr h) t later = absurd (cons≢nil (sym (turn_repairs f k marks free x reading r nodes h) ∙ e))

  waiting : (r : ℕ) (free : List Bool) (nodes : List ℕ) → ((j : ℕ) → Memᴰ j nodes → smaller_node f k free j ≡ 0) → steps_for reading f k marks r free nodes ≡ []
  unfolding steps_for
  waiting r free [] h = refl
  waiting r free (x ∷ nodes) h = turn_waits f k marks free x reading r nodes (h x (Memᴰ.head refl)) ∙ waiting r free nodes (λ j m. h j (Memᴰ.tail m))

  -- with fewer than two nodes to read they wait
  pub all_read : KInRange f k → (r : ℕ) (free : List Bool) (nodes : List ℕ) → length (live_nodes free (node_count f k)) ≤ 1 → steps_for reading f k marks r free nodes ≡ []
  all_read range r free nodes h = waiting r free nodes (λ j m. go j (eq-zero-or-pos (smaller_node f k free j)))
    where
      alone : (list : List ℕ) → length list ≤ 1 → (a b : ℕ) → Memᴰ a list → Memᴰ b list → a < b → ⊥
      alone [] l a b ma mb lt = Memᴰ.not-nil ma
      alone (x ∷ []) l a b ma mb lt = omega (arith, Memᴰ.eq_of_singleton ma, Memᴰ.eq_of_singleton mb)
      alone (x ∷ y ∷ list) l a b ma mb lt = omega arith

      go : (j : ℕ) → (smaller_node f k free j ≡ 0) ⊎ (0 < smaller_node f k free j) → smaller_node f k free j ≡ 0
      go j (inl e) = e
      go j (inr g) =
          let p = pair_of f k range free j g in
          absurd
          (alone (live_nodes free (node_count f k)) h _ _ (those_has (is_live free) 1 (node_count f k) _ p.smaller.first (omega (arith, p.smaller.last)) p.smaller_live)
          (those_has (is_live free) 1 (node_count f k) _ p.larger.first (omega (arith, p.larger.last)) p.larger_live) p.order)

  -- whatever the round's number is
  pub none_again : (r s : ℕ) → round_steps reading f k marks r ≡ [] → round_steps reading f k marks s ≡ []
  none_again r s e = waiting s marks (missing_nodes marks (node_count f k)) (λ j m. all_wait r marks (missing_nodes marks (node_count f k)) e j m)

  pub round_quiet : KInRange f k → (r : ℕ) → round_steps reading f k marks r ≡ [] → NoPairLeft f k (is_live marks)
  round_quiet range r e j a b nj na nb vj va vb h =
      let m = those_has (λ i. not (is_live marks i)) 1 (node_count f k) j nj.first (omega (arith, nj.last)) (ap not vj) in
      let some = smaller_some f k marks j range nj a b (record { node = na; live = va }) (record { node = nb; live = vb }) h in
      omega (arith, some, all_wait r marks (missing_nodes marks (node_count f k)) e j m)

-- ---- one round after another

pub none_or_some : (steps : List Step) → (steps ≡ []) ⊎ (1 ≤ length steps)
none_or_some [] = inl refl
none_or_some (x ∷ steps) = inr (omega arith)

module _ (reading : Reading) (shrinks : Shrinks reading) (f : Family) (k : ℕ) where
  -- the marks when round r, which began with these, is done
  abbrev pub after_round : List Bool → ℕ → List Bool
  after_round marks r = marks_after marks (round_steps reading f k marks r)

  -- a round without steps is the last: it leaves the marks, so that the next has none either
  pub rounds_end : (marks : List Bool) (r m : ℕ) → round_steps reading f k marks r ≡ [] → rounds_from reading f k r marks m ≡ []
  unfolding rounds_from set_live
  rounds_end marks r zero e = refl
  rounds_end marks r (suc m) e = rw e (rounds_end marks (suc r) m (none_again reading f k marks r (suc r) e))

  pub rounds_suc : (marks : List Bool) (r m : ℕ) → rounds_from reading f k r marks (suc m) ≡ round_steps reading f k marks r ++ rounds_from reading f k (suc r) (after_round marks r) m
  unfolding rounds_from
  rounds_suc marks r m = refl

  pub rounds_more : (marks : List Bool) (r m : ℕ) → 1 ≤ m → rounds_from reading f k r marks m ≡ round_steps reading f k marks r ++ rounds_from reading f k (suc r) (after_round marks r) (m - 1)
  rounds_more marks r m l =
      let e : m ≡ suc (m - 1) = omega arith in
      ap (rounds_from reading f k r marks) e ∙ rounds_suc marks r (m - 1)

  module _ (range : KInRange f k) where
    -- a round leaves as many nodes fewer missing as it has steps
    pub round_counts : (marks : List Bool) → length marks ≡ 256 → (r : ℕ) → length (round_steps reading f k marks r) + nodes_left (after_round marks r) (node_count f k) ≡ nodes_left marks (node_count f k)
    round_counts marks size r = make_counts f k range marks size (round_steps reading f k marks r) (round_makes reading shrinks f k range marks r)

    pub after_size : (marks : List Bool) → length marks ≡ 256 → (r : ℕ) → length (after_round marks r) ≡ 256
    after_size marks size r = length-marks_after marks (round_steps reading f k marks r) ∙ size

    pub rounds_make : (m : ℕ) (marks : List Bool) → length marks ≡ 256 → (r : ℕ) → CanMakeAll f k marks (rounds_from reading f k r marks m)
    unfolding rounds_from
    rounds_make zero marks size r = tt
    rounds_make (suc m) marks size r =
        can_make_append f k marks (round_steps reading f k marks r) (rounds_from reading f k (suc r) (after_round marks r) m) (round_makes reading shrinks f k range marks r)
        (rounds_make m (after_round marks r) (after_size marks size r) (suc r))

    -- where no node is missing a round has no steps
    pub none_missing : (marks : List Bool) → length marks ≡ 256 → (r : ℕ) → nodes_left marks (node_count f k) ≤ 0 → round_steps reading f k marks r ≡ []
    none_missing marks size r l = go (none_or_some (round_steps reading f k marks r))
      where
        go : (round_steps reading f k marks r ≡ []) ⊎ (1 ≤ length (round_steps reading f k marks r)) → round_steps reading f k marks r ≡ []
        go (inl e) = e
        go (inr h) = absurd (omega (arith, round_counts marks size r))

    -- as many rounds as nodes are missing are enough: no pair is left, and more rounds add nothing
    pub rounds_quiet : (m : ℕ) (marks : List Bool) → length marks ≡ 256 → (r : ℕ) → nodes_left marks (node_count f k) ≤ m
        → NoPairLeft f k (is_live (marks_after marks (rounds_from reading f k r marks m)))
    unfolding set_live
    rounds_quiet zero marks size r l =
        let e = none_missing marks size r l in
        rw (rounds_end marks r 0 e) (round_quiet reading f k marks range r e)
    rounds_quiet (suc m) marks size r l = go (none_or_some (round_steps reading f k marks r)) (λ h. rounds_quiet m (after_round marks r) (after_size marks size r) (suc r) h)
      where
        go : (round_steps reading f k marks r ≡ []) ⊎ (1 ≤ length (round_steps reading f k marks r))
            → (nodes_left (after_round marks r) (node_count f k) ≤ m → NoPairLeft f k (is_live (marks_after (after_round marks r) (rounds_from reading f k (suc r) (after_round marks r) m))))
            → NoPairLeft f k (is_live (marks_after marks (rounds_from reading f k r marks (suc m))))
        go (inl e) later = rw (rounds_end marks r (suc m) e) (round_quiet reading f k marks range r e)
        go (inr h) later =
            rw (rounds_suc marks r m, marks_append marks (round_steps reading f k marks r) (rounds_from reading f k (suc r) (after_round marks r) m))
            (later (omega (arith, round_counts marks size r)))

    pub rounds_enough : (m more : ℕ) (marks : List Bool) → length marks ≡ 256 → (r : ℕ) → nodes_left marks (node_count f k) ≤ m → m ≤ more
        → rounds_from reading f k r marks more ≡ rounds_from reading f k r marks m
    rounds_enough zero more marks size r l h =
        let e = none_missing marks size r l in
        rounds_end marks r more e ∙ sym (rounds_end marks r 0 e)
    rounds_enough (suc m) zero marks size r l h = absurd (omega arith)
    rounds_enough (suc m) (suc more) marks size r l h = go (none_or_some (round_steps reading f k marks r)) (λ g. rounds_enough m more (after_round marks r) (after_size marks size r) (suc r) g (omega arith))
      where
        go : (round_steps reading f k marks r ≡ []) ⊎ (1 ≤ length (round_steps reading f k marks r))
            → (nodes_left (after_round marks r) (node_count f k) ≤ m → rounds_from reading f k (suc r) (after_round marks r) more ≡ rounds_from reading f k (suc r) (after_round marks r) m)
            → rounds_from reading f k r marks (suc more) ≡ rounds_from reading f k r marks (suc m)
        go (inl e) later = rounds_end marks r (suc more) e ∙ sym (rounds_end marks r (suc m) e)
        go (inr g) later =
            rounds_suc marks r more
            ∙ ap (λ (s : List Step). round_steps reading f k marks r ++ s) (later (omega (arith, round_counts marks size r)))
            ∙ sym (rounds_suc marks r m)
