-- A missing node's turn in a round: the steps before it are those for the nodes below, and it is repaired from its least pair of the nodes
-- that these leave to be read, or waits as it has none.
-- Assumes nothing.
use mathlib.Core.Path.{◌≡◌, refl, sym, ap, ap₂, ◌∙◌}
use mathlib.Core.Bool.{Bool, true, false, cond, not}
use mathlib.Core.List.{List, Memᴰ, [], ◌∷◌, ◌++◌, append_assoc, append-nil}
use mathlib.Core.Logic.{◌⊎◌, inl, inr}
use Prim.Native.Nat.{ℕ, zero, suc, ◌+◌, ◌≤◌, ◌<◌}
use native.Mathlib.Decide.{ℕ_discrete}
use native.Mathlib.Nat.{eq-zero-or-pos}
use native.Mathlib.Omega.{arith}
use borrow.Author.Tests.{lt-ltb, le-ltb, not-true}
use lib.Dec.{ltb}
use Rattle.base.specs.Ranges.{those_from}
use Rattle.base.proofs.RangeLaws.{Passing, those_are}
use Rattle.base.proofs.Tests.{not_both}
use Rattle.families.specs.declared.Family.{Family}
use Rattle.families.specs.Families.{KInRange, IsNode, node_count}
use Rattle.lists.specs.Lists.{is_live, missing_nodes, rises}
use Rattle.lists.proofs.Laws.{rises_cons}
use Rattle.pairing.specs.declared.Pairs.{Pairs}
use Rattle.pairing.specs.Pairs.{larger_node, smaller_node}
use Rattle.pairing.proofs.PairLaws.{pair_of, pairs_are, among_smaller, smaller_least}
use Rattle.planning.specs.Claims.{FreePair, RoundClaims}
use Rattle.planning.specs.Plan.{Step, step_of, Reading, once, steps_for, round_steps, free_after, repaired_nodes, times_read, before_node}
use Rattle.planning.proofs.MakeLaws.{turn_waits, turn_repairs, each_step}
use Rattle.planning.proofs.FreeLaws.{free_append, read_few}
use Rattle.planning.proofs.WithLaws.{with_append, with_all, with_none}

-- every step repairs a node below i, from i on, above i
abbrev Below : ℕ → List Step → Type 0
Below i steps = (step : Step) → Memᴰ step steps → step.node < i

abbrev From : ℕ → List Step → Type 0
From i steps = (step : Step) → Memᴰ step steps → i ≤ step.node

module _ (f : Family) (k : ℕ) (marks : List Bool) (r : ℕ) where
  abbrev missing : ℕ → ℕ → List ℕ
  missing j m = those_from (λ i. not (is_live marks i)) j m

  -- the steps for the nodes from j on repair such nodes
  steps_from : (reading : Reading) (free : List Bool) (j m : ℕ) → From j (steps_for reading f k marks r free (missing j m))
  steps_from reading free j m step h = (those_are (λ i. not (is_live marks i)) j m step.node (each_step reading f k marks r free (missing j m) step h).1).from

  -- at node i's turn these steps are left: it waits, or the first of them is its own
  record Waits (i : ℕ) (free : List Bool) (after : List Step) : Type 0 where
    none : smaller_node f k free i ≡ 0
    above : From (suc i) after

  record Repairs (i : ℕ) (free : List Bool) (after : List Step) : Type 0 where
    some : 1 ≤ smaller_node f k free i
    rest : List Step
    first : after ≡ step_of f k marks free r i ∷ rest
    above : From (suc i) rest

  abbrev Here : ℕ → List Bool → List Step → Type 0
  Here i free after = Waits i free after ⊎ Repairs i free after

  record Turn (steps : List Step) (i : ℕ) : Type 0 where
    before : List Step
    after : List Step
    split : steps ≡ before ++ after
    below : Below i before
    here : Here i (free_after marks before) after

  turn_from : (steps done : List Step) (j m : ℕ) → Below j done → steps ≡ done ++ steps_for once f k marks r (free_after marks done) (missing j m)
      → (i : ℕ) → j ≤ i → i < j + m → is_live marks i ≡ false → Turn steps i
  unfolding those_from free_after
  turn_from steps done j zero b e i l u v = absurd (omega arith)
  turn_from steps done j (suc m) b e i l u v =
      go (is_live marks j) refl (eq-zero-or-pos (smaller_node f k (free_after marks done) j)) (ℕ_discrete i j) (λ more h g q. turn_from steps more (suc j) m h g i q (omega arith) v)
    where
      free : List Bool
      free = free_after marks done

      later : List ℕ
      later = missing (suc j) m

      step : Step
      step = step_of f k marks (free_after marks done) r j

      one : List Step
      one = step_of f k marks (free_after marks done) r j ∷ []

      wider : Below (suc j) done
      wider s h = let q = b s h in omega arith

      -- all of them with the step for j
      more_below : Below (suc j) (done ++ one)
      more_below s h = pick (mathlib.Core.List.Memᴰ.append_cases done h)
        where
          pick : Memᴰ s done ⊎ Memᴰ s one → s.node < suc j
          pick (inl t) = wider s t
          pick (inr (mathlib.Core.List.Memᴰ.head q)) = omega (arith, ap (λ (x : Step). x.node) q)
          pick (inr (mathlib.Core.List.Memᴰ.tail t)) = absurd (mathlib.Core.List.Memᴰ.not-nil t)

      split_live : is_live marks j ≡ true → steps ≡ done ++ steps_for once f k marks r free later
      split_live w = rw w at e

      split_waits : is_live marks j ≡ false → smaller_node f k free j ≡ 0 → steps ≡ done ++ steps_for once f k marks r free later
      split_waits w z = (rw w at e) ∙ ap (λ (s : List Step). done ++ s) (turn_waits f k marks free j once r later z)

      split_repairs : is_live marks j ≡ false → 1 ≤ smaller_node f k free j → steps ≡ done ++ step ∷ steps_for once f k marks r (once free step) later
      split_repairs w h = (rw w at e) ∙ ap (λ (s : List Step). done ++ s) (turn_repairs f k marks free j once r later h)

      split_more : is_live marks j ≡ false → 1 ≤ smaller_node f k free j → steps ≡ (done ++ one) ++ steps_for once f k marks r (free_after marks (done ++ one)) later
      split_more w h =
          split_repairs w h ∙ sym (append_assoc done one (steps_for once f k marks r (once free step) later))
          ∙ ap (λ (rest : List Bool). (done ++ one) ++ steps_for once f k marks r rest later) (sym (free_append marks done one))

      go : (c : Bool) → is_live marks j ≡ c → (smaller_node f k free j ≡ 0) ⊎ (0 < smaller_node f k free j) → Dec (i ≡ j)
          → ((more : List Step) → Below (suc j) more → steps ≡ more ++ steps_for once f k marks r (free_after marks more) later → suc j ≤ i → Turn steps i) → Turn steps i
      go true w s (yes q) next = absurd (not_both (is_live marks j) w (rw q at v))
      go true w s (no n) next = next done wider (split_live w) (omega arith)
      go false w (inl z) (yes q) next =
          rw q
          (record {
            before = done;
            after = steps_for once f k marks r free later;
            split = split_waits w z;
            below = b;
            here = inl (record { none = z; above = steps_from once free (suc j) m });
          })
      go false w (inr h) (yes q) next =
          rw q
          (record {
            before = done;
            after = step ∷ steps_for once f k marks r (once free step) later;
            split = split_repairs w h;
            below = b;
            here = inr (record { some = h; rest = steps_for once f k marks r (once free step) later; first = refl; above = steps_from once (once free step) (suc j) m });
          })
      go false w (inl z) (no n) next = next done wider (split_waits w z) (omega arith)
      go false w (inr h) (no n) next = next (done ++ one) more_below (split_more w h) (omega arith)

  -- ---- what is so of a round

  module _ (range : KInRange f k) where
    abbrev steps : List Step
    steps = round_steps once f k marks r

    -- a step repairs a missing node
    repaired : (step : Step) → Memᴰ step steps → Passing (λ i. not (is_live marks i)) 1 (node_count f k) step.node
    repaired step h = those_are (λ i. not (is_live marks i)) 1 (node_count f k) step.node (each_step once f k marks r marks (missing_nodes marks (node_count f k)) step h).1

    is_missing : (step : Step) → Memᴰ step steps → IsNode f k step.node × (is_live marks step.node ≡ false)
    is_missing step h =
        let p = repaired step h in
        (record { first = p.from; last = omega (arith, p.below) }, not-true (is_live marks step.node) p.passes)

    turn_of : (i : ℕ) → IsNode f k i → is_live marks i ≡ false → Turn steps i
    unfolding free_after
    turn_of i n v = turn_from steps [] 1 (node_count f k) (λ s h. absurd (mathlib.Core.List.Memᴰ.not-nil h)) refl i n.first (omega (arith, n.last)) v

    after_from : (i : ℕ) (free : List Bool) (after : List Step) → Here i free after → From i after
    after_from i free after (inl w) s h = let q = w.above s h in omega arith
    after_from i free after (inr w) s h = go (rw w.first at h)
      where
        go : Memᴰ s (step_of f k marks free r i ∷ w.rest) → i ≤ s.node
        go (mathlib.Core.List.Memᴰ.head q) = omega (arith, ap (λ (x : Step). x.node) q)
        go (mathlib.Core.List.Memᴰ.tail t) = let q = w.above s t in omega arith

    -- the steps before a node's turn are those for the nodes below it
    before_is : (i : ℕ) (t : Turn steps i) → before_node i steps ≡ t.before
    before_is i t =
        ap (before_node i) t.split ∙ with_append (λ (s : Step). ltb s.node i) t.before t.after
        ∙ ap₂ ◌++◌ (with_all (λ (s : Step). ltb s.node i) t.before (λ s h. lt-ltb s.node i (t.below s h)))
        (with_none (λ (s : Step). ltb s.node i) t.after (λ s h. le-ltb s.node i (after_from i (free_after marks t.before) t.after t.here s h)))
        ∙ append-nil t.before

    -- a step for node i is the one that its turn gives
    abbrev TurnStep : ℕ → Step → Type 0
    TurnStep i step = let free = free_after marks (before_node i steps) in (1 ≤ smaller_node f k free i) × (step ≡ step_of f k marks free r i)

    in_turn : (i : ℕ) (free : List Bool) (step : Step) (after : List Step) → step.node ≡ i → Here i free after → Memᴰ step after → (1 ≤ smaller_node f k free i) × (step ≡ step_of f k marks free r i)
    in_turn i free step after e (inl w) h = let q = w.above step h in absurd (omega arith)
    in_turn i free step after e (inr w) h = go (rw w.first at h)
      where
        go : Memᴰ step (step_of f k marks free r i ∷ w.rest) → (1 ≤ smaller_node f k free i) × (step ≡ step_of f k marks free r i)
        go (mathlib.Core.List.Memᴰ.head q) = (w.some, q)
        go (mathlib.Core.List.Memᴰ.tail t) = let q = w.above step t in absurd (omega arith)

    step_is : (step : Step) → Memᴰ step steps → TurnStep step.node step
    step_is step h =
        let m = is_missing step h in
        let t = turn_of step.node m.0 m.1 in
        rw (before_is step.node t) (go t (mathlib.Core.List.Memᴰ.append_cases t.before (rw t.split at h)))
      where
        go : (t : Turn steps step.node) → Memᴰ step t.before ⊎ Memᴰ step t.after
            → (1 ≤ smaller_node f k (free_after marks t.before) step.node) × (step ≡ step_of f k marks (free_after marks t.before) r step.node)
        go t (inl q) = let l = t.below step q in absurd (omega arith)
        go t (inr q) = in_turn step.node (free_after marks t.before) step t.after refl t.here q

    pair_given : (step : Step) → Memᴰ step steps → FreePair f k marks steps step.node step.smaller step.larger
    pair_given step h =
        let s = step_is step h in
        let free = free_after marks (before_node step.node steps) in
        let p = pair_of f k range free step.node s.0 in
        let are = pairs_are f k range free step.node marks s.0 in
        let small : step.smaller ≡ smaller_node f k free step.node = ap (λ (x : Step). x.smaller) s.1 ∙ ap (λ (x : Pairs). x.smaller) are in
        let large : step.larger ≡ larger_node f k free step.node (smaller_node f k free step.node) = ap (λ (x : Step). x.larger) s.1 ∙ ap (λ (x : Pairs). x.larger) are in
        rw (small, large)
        (record { order = p.order; smaller = record { node = p.smaller; live = p.smaller_live }; larger = record { node = p.larger; live = p.larger_live }; related = p.related })

    least_given : (step : Step) → Memᴰ step steps → (a b : ℕ) → FreePair f k marks steps step.node a b → step.smaller ≤ a
    least_given step h a b p =
        let free = free_after marks (before_node step.node steps) in
        omega (
          arith,
          ap (λ (x : Step). x.smaller) (step_is step h).1 ∙ among_smaller f k marks free step.node,
          smaller_least f k free step.node a b p.smaller p.larger p.order p.related,
        )

    waits_without : (i : ℕ) → IsNode f k i → is_live marks i ≡ false → (Memᴰ i (repaired_nodes steps) → ⊥) → (a b : ℕ) → FreePair f k marks steps i a b → ⊥
    waits_without i n v out a b p =
        let t = turn_of i n v in
        let free = free_after marks (before_node i steps) in
        let some = (smaller_least f k free i a b p.smaller p.larger p.order p.related).0 in
        go t t.here (rw (before_is i t) at some)
      where
        go : (t : Turn steps i) → Here i (free_after marks t.before) t.after → 1 ≤ smaller_node f k (free_after marks t.before) i → ⊥
        go t (inl w) h = omega (arith, w.none)
        go t (inr w) h =
            let own = step_of f k marks (free_after marks t.before) r i in
            let listed : Memᴰ own steps = rw (t.split, w.first) (mathlib.Core.List.Memᴰ.append_right t.before (mathlib.Core.List.Memᴰ.head {x = own} {xs = w.rest} refl)) in
            out (mathlib.Core.List.Memᴰ.map (λ (step : Step). step.node) listed)

    rise_from : (free : List Bool) (j m : ℕ) → rises (repaired_nodes (steps_for once f k marks r free (missing j m))) ≡ true
    unfolding those_from steps_for rises
    rise_from free j zero = refl
    rise_from free j (suc m) = go (is_live marks j) (eq-zero-or-pos (smaller_node f k free j)) (λ rest. rise_from rest (suc j) m)
      where
        later : List ℕ
        later = missing (suc j) m

        step : Step
        step = step_of f k marks free r j

        above : (y : ℕ) → Memᴰ y (repaired_nodes (steps_for once f k marks r (once free step) later)) → j < y
        above y h =
            let q = mathlib.Core.List.Memᴰ.of_map (λ (s : Step). s.node) (steps_for once f k marks r (once free step) later) h in
            omega (arith, q.2, steps_from once (once free step) (suc j) m q.0 q.1)

        go : (b : Bool) → (smaller_node f k free j ≡ 0) ⊎ (0 < smaller_node f k free j) → ((rest : List Bool) → rises (repaired_nodes (steps_for once f k marks r rest later)) ≡ true)
            → rises (repaired_nodes (steps_for once f k marks r free (cond (not b) (j ∷ later) later))) ≡ true
        go true s rise = rise free
        go false (inl z) rise = rw (turn_waits f k marks free j once r later z) (rise free)
        go false (inr h) rise = rw (turn_repairs f k marks free j once r later h) (rises_cons j (repaired_nodes (steps_for once f k marks r (once free step) later)) above (rise (once free step)))

    read_once : (i : ℕ) → times_read i steps ≤ 1
    read_once i = go (is_live marks i) (read_few f k range marks r i marks (missing_nodes marks (node_count f k)))
      where
        go : (b : Bool) → times_read i steps ≤ cond b 1 0 → times_read i steps ≤ 1
        go true h = h
        go false h = omega arith

    pub round_claims : RoundClaims f k marks (round_steps once f k marks r)
    round_claims =
        record {
          rising = rise_from marks 1 (node_count f k);
          missing = is_missing;
          pair = pair_given;
          least = least_given;
          waits = waits_without;
          not_twice = read_once;
        }

    -- a node with a pair, before whose turn no node is repaired, has all nodes to be read from
    pub first_turn : (i : ℕ) → IsNode f k i → is_live marks i ≡ false → 1 ≤ smaller_node f k marks i → ((step : Step) → Memᴰ step steps → step.node < i → ⊥)
        → Memᴰ (step_of f k marks marks r i) steps
    unfolding free_after
    first_turn i n v h none = go (turn_of i n v) (turn_of i n v).before refl (turn_of i n v).here
      where
        go : (t : Turn steps i) (before : List Step) → t.before ≡ before → Here i (free_after marks before) t.after → Memᴰ (step_of f k marks marks r i) steps
        go t (x ∷ before) e w =
            let first : Memᴰ x t.before = rw e (mathlib.Core.List.Memᴰ.head {x = x} {xs = before} refl) in
            let listed : Memᴰ x steps = rw t.split (mathlib.Core.List.Memᴰ.append_left {s = t.before} t.after first) in
            absurd (none x listed (t.below x first))
        go t [] e (inl w) = absurd (omega (arith, w.none))
        go t [] e (inr w) = rw (t.split, w.first) (mathlib.Core.List.Memᴰ.append_right t.before (mathlib.Core.List.Memᴰ.head {x = step_of f k marks marks r i} {xs = w.rest} refl))
