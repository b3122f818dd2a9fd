-- Steps that can be made: those of a round, one list of them after another, and how many nodes they leave missing.
-- Assumes nothing.
use mathlib.Core.Path.{◌≡◌, refl, sym, ap, ◌∙◌}
use mathlib.Core.Bool.{Bool, true, false, cond, not, ◌&&◌, and-false}
use mathlib.Core.List.Memᴰ
use mathlib.Core.List.{List, Memᴰ, [], ◌∷◌, ◌++◌}
use mathlib.Core.Logic.{◌⊎◌, inl, inr}
use Prim.Native.Nat.{ℕ, zero, suc, ◌+◌, ◌-◌, ◌≤◌, ◌<◌}
use native.Mathlib.Nat.{eq-zero-or-pos}
use native.Mathlib.Omega.{arith}
use borrow.Author.Tests.{lt-ltb, ltb-true, eq-eqb, ne_eqb, not-true}
use lib.Dec.{eqb, ltb}
use lib.ListN.{length, set, length-set}
use lib.Seq.{get_or-set_same, get_or-set_other}
use Rattle.base.specs.Ranges.{those_from}
use Rattle.base.proofs.RangeLaws.{others_count, count_one}
use Rattle.base.proofs.Tests.{and_left, and_right, is_false, not_both}
use Rattle.families.specs.declared.Family.{Family}
use Rattle.families.specs.Families.{KInRange, IsNode, node_count}
use Rattle.families.proofs.Laws.{few}
use Rattle.lists.specs.Lists.{is_live, set_live, live_nodes}
use Rattle.lists.proofs.Laws.{length-set_live}
use Rattle.lists.proofs.MarkLaws.{set_keeps}
use Rattle.lists.proofs.WithoutLaws.{unset_live}
use Rattle.planning.specs.Claims.{CanMake, CanMakeAll}
use Rattle.pairing.specs.Pairs.{smaller_node, pairs_among}
use Rattle.planning.specs.Plan.{Step, step_of, Reading, once, steps_for, round_steps, repaired_nodes, marks_after, nodes_left}
use Rattle.pairing.proofs.PairLaws.{PairOf, pair_of, pairs_are, among_smaller}

-- ---- the marks after steps

pub length-marks_after : (marks : List Bool) (steps : List Step) → length (marks_after marks steps) ≡ length marks
length-marks_after marks steps = length-set_live marks (repaired_nodes steps)

pub can_make_append : (f : Family) (k : ℕ) (marks : List Bool) (s t : List Step) → CanMakeAll f k marks s → CanMakeAll f k (marks_after marks s) t → CanMakeAll f k marks (s ++ t)
unfolding set_live
can_make_append f k marks [] t a b = b
can_make_append f k marks (x ∷ s) t a b = (a.0, can_make_append f k (set marks x.node true) s t a.1 b)

-- steps that can be made repair missing nodes
pub make_missing : (f : Family) (k : ℕ) (marks : List Bool) (steps : List Step) → CanMakeAll f k marks steps → (j : ℕ) → Memᴰ j (repaired_nodes steps)
    → IsNode f k j × (is_live marks j ≡ false)
make_missing f k marks [] a j m = absurd (Memᴰ.not-nil m)
make_missing f k marks (x ∷ steps) a j (Memᴰ.head e) = rw e (a.0.node, a.0.missing)
make_missing f k marks (x ∷ steps) a j (Memᴰ.tail m) =
    let later = make_missing f k (set marks x.node true) steps a.1 j m in
    (later.0, is_false (is_live marks j) (λ l. not_both (is_live (set marks x.node true) j) (set_keeps marks x.node j l) later.1))

-- ---- a node's turn in a round

-- node j is missing, and has a pair of the nodes that may be read
unfoldable pub is_repaired : Family → ℕ → List Bool → List Bool → ℕ → Bool
is_repaired f k marks free j = not (is_live marks j) && ltb 0 (smaller_node f k free j)

module _ (f : Family) (k : ℕ) (marks free : List Bool) (j : ℕ) where
  -- it is missing then, and has a smaller node
  pub repaired_missing : is_repaired f k marks free j ≡ true → is_live marks j ≡ false
  unfolding is_repaired
  repaired_missing e = not-true (is_live marks j) (and_left (not (is_live marks j)) (ltb 0 (smaller_node f k free j)) e)

  pub repaired_smaller : is_repaired f k marks free j ≡ true → 1 ≤ smaller_node f k free j
  unfolding is_repaired
  repaired_smaller e = ltb-true 0 (smaller_node f k free j) (and_right (not (is_live marks j)) (ltb 0 (smaller_node f k free j)) e)

  -- a live node is not repaired, nor one without a pair; a missing one with a pair is
  pub live_kept : is_live marks j ≡ true → is_repaired f k marks free j ≡ false
  unfolding is_repaired
  live_kept e = rw e

  pub pairless_kept : smaller_node f k free j ≡ 0 → is_repaired f k marks free j ≡ false
  unfolding is_repaired
  pairless_kept e = rw e (and-false (not (is_live marks j)))

  pub pair_repairs : is_live marks j ≡ false → 1 ≤ smaller_node f k free j → is_repaired f k marks free j ≡ true
  unfolding is_repaired
  pair_repairs e h = rw e (lt-ltb 0 (smaller_node f k free j) h)

  module _ (reading : Reading) (r : ℕ) (nodes : List ℕ) where
    -- a missing node without a pair waits, and any other one is repaired
    pub turn_waits : smaller_node f k free j ≡ 0 → steps_for reading f k marks r free (j ∷ nodes) ≡ steps_for reading f k marks r free nodes
    unfolding steps_for
    turn_waits e = rw (eq-eqb (pairs_among f k marks free j).smaller 0 (among_smaller f k marks free j ∙ e))

    pub turn_repairs : 1 ≤ smaller_node f k free j
        → steps_for reading f k marks r free (j ∷ nodes) ≡ step_of f k marks free r j ∷ steps_for reading f k marks r (reading free (step_of f k marks free r j)) nodes
    unfolding steps_for
    turn_repairs h = rw (ne_eqb (pairs_among f k marks free j).smaller 0 (λ e. omega (arith, among_smaller f k marks free j, e)))

-- a step of a round has its number, and repairs one of the nodes
pub each_step : (reading : Reading) (f : Family) (k : ℕ) (marks : List Bool) (r : ℕ) (free : List Bool) (nodes : List ℕ) (step : Step)
    → Memᴰ step (steps_for reading f k marks r free nodes) → (step.round ≡ r) × Memᴰ step.node nodes
unfolding steps_for
each_step reading f k marks r free [] step m = absurd (Memᴰ.not-nil m)
each_step reading f k marks r free (j ∷ nodes) step m = go (eqb (step_of f k marks free r j).smaller 0) m (λ rest t. each_step reading f k marks r rest nodes step t)
  where
    now : Step
    now = step_of f k marks free r j

    go : (b : Bool) → Memᴰ step (cond b (steps_for reading f k marks r free nodes) (now ∷ steps_for reading f k marks r (reading free now) nodes))
        → ((rest : List Bool) → Memᴰ step (steps_for reading f k marks r rest nodes) → (step.round ≡ r) × Memᴰ step.node nodes)
        → (step.round ≡ r) × Memᴰ step.node (j ∷ nodes)
    go true t later = let q = later free t in (q.0, Memᴰ.tail q.1)
    go false (Memᴰ.head e) later = (ap (λ (s : Step). s.round) e, Memᴰ.head (ap (λ (s : Step). s.node) e))
    go false (Memᴰ.tail t) later = let q = later (reading free now) t in (q.0, Memᴰ.tail q.1)

-- there is a step for each of them at most
pub steps_few : (reading : Reading) (f : Family) (k : ℕ) (marks : List Bool) (r : ℕ) (free : List Bool) (nodes : List ℕ) → length (steps_for reading f k marks r free nodes) ≤ length nodes
unfolding steps_for
steps_few reading f k marks r free [] = omega arith
steps_few reading f k marks r free (j ∷ nodes) = go (eqb (step_of f k marks free r j).smaller 0) (λ rest. steps_few reading f k marks r rest nodes)
  where
    now : Step
    now = step_of f k marks free r j

    go : (b : Bool) → ((rest : List Bool) → length (steps_for reading f k marks r rest nodes) ≤ length nodes)
        → length (cond b (steps_for reading f k marks r free nodes) (now ∷ steps_for reading f k marks r (reading free now) nodes)) ≤ suc (length nodes)
    go true later = omega (arith, later free)
    go false later = omega (arith, later (reading free now))

-- ---- the steps of a round

-- every node that may be read is live
abbrev pub Within : List Bool → List Bool → Type 0
Within free marks = (i : ℕ) → is_live free i ≡ true → is_live marks i ≡ true

-- a step makes no node one that may be read
abbrev pub Shrinks : Reading → Type 0
Shrinks reading = (free : List Bool) (step : Step) → Within (reading free step) free

pub once_shrinks : Shrinks once
unfolding once
once_shrinks free step i h = (unset_live free step.smaller i (unset_live (set free step.smaller false) step.larger i h).1).1

module _ (reading : Reading) (shrinks : Shrinks reading) (f : Family) (k : ℕ) (range : KInRange f k) (marks : List Bool) (r : ℕ) where
  -- the marks once the steps below node j are made: none is lost, and from j on all are as when the round began
  record Upto (j : ℕ) (now : List Bool) : Type 0 where
    kept : (i : ℕ) → is_live marks i ≡ true → is_live now i ≡ true
    same : (i : ℕ) → j ≤ i → is_live now i ≡ is_live marks i

  upto_next : (j : ℕ) (now : List Bool) → Upto j now → Upto (suc j) now
  upto_next j now u = record { kept = u.kept; same = λ i l. u.same i (omega arith) }

  upto_set : (j : ℕ) (now : List Bool) → Upto j now → Upto (suc j) (set now j true)
  upto_set j now u =
      record {
        kept = λ i h. set_keeps now j i (u.kept i h);
        same = λ i l. get_or-set_other now j i true false (λ e. omega arith) ∙ u.same i (omega arith);
      }

  step_makes : (j : ℕ) → IsNode f k j → (free : List Bool) → Within free marks → (now : List Bool) → Upto j now → is_live marks j ≡ false → 1 ≤ smaller_node f k free j
      → CanMake f k now (step_of f k marks free r j)
  step_makes j n free within now u e h =
      let p : PairOf f k range free j = pair_of f k range free j h in
      rw (pairs_are f k range free j marks h)
      (record {
        node = n;
        smaller = p.smaller;
        larger = p.larger;
        related = p.related;
        missing = u.same j (omega arith) ∙ e;
        smaller_live = u.kept _ (within _ p.smaller_live);
        larger_live = u.kept _ (within _ p.larger_live);
      })

  steps_make : (j m : ℕ) → 1 ≤ j → j + m ≤ suc (node_count f k) → (free : List Bool) → Within free marks → (now : List Bool) → Upto j now
      → CanMakeAll f k now (steps_for reading f k marks r free (those_from (λ i. not (is_live marks i)) j m))
  unfolding those_from steps_for
  steps_make j zero l h free within now u = tt
  steps_make j (suc m) l h free within now u =
      go (is_live marks j) refl (eq-zero-or-pos (smaller_node f k free j)) (λ rest inside after w. steps_make (suc j) m (omega arith) (omega arith) rest inside after w)
    where
      later : List ℕ
      later = those_from (λ i. not (is_live marks i)) (suc j) m

      go : (b : Bool) → is_live marks j ≡ b → (smaller_node f k free j ≡ 0) ⊎ (0 < smaller_node f k free j)
          → ((rest : List Bool) → Within rest marks → (after : List Bool) → Upto (suc j) after → CanMakeAll f k after (steps_for reading f k marks r rest later))
          → CanMakeAll f k now (steps_for reading f k marks r free (cond (not b) (j ∷ later) later))
      go true e s make = make free within now (upto_next j now u)
      go false e (inl z) make = rw (turn_waits f k marks free j reading r later z) (make free within now (upto_next j now u))
      go false e (inr g) make =
          let step = step_of f k marks free r j in
          rw (turn_repairs f k marks free j reading r later g) (
            step_makes j (record { first = l; last = omega arith }) free within now u e g,
            make (reading free step) (λ i v. within i (shrinks free step i v)) (set now j true) (upto_set j now u),
          )

  pub round_makes : CanMakeAll f k marks (round_steps reading f k marks r)
  round_makes = steps_make 1 (node_count f k) (omega arith) (omega arith) marks (λ i h. h) marks (record { kept = λ i h. h; same = λ i l. refl })

-- ---- nodes left

pub left_is : (marks : List Bool) (n : ℕ) → nodes_left marks n ≡ n - length (live_nodes marks n)
unfolding nodes_left
left_is marks n = omega (arith, others_count (is_live marks) 1 n)

pub left_few : (marks : List Bool) (n : ℕ) → nodes_left marks n ≤ n
left_few marks n = omega (arith, left_is marks n)

-- a missing node set live is one fewer left
pub left_set : (marks : List Bool) (n x : ℕ) → 1 ≤ x → x ≤ n → x < length marks → is_live marks x ≡ false → nodes_left marks n ≡ suc (nodes_left (set marks x true) n)
unfolding nodes_left
left_set marks n x l h g e =
    count_one (λ i. not (is_live marks i)) (λ i. not (is_live (set marks x true) i)) x (ap not e) (ap not (get_or-set_same marks x true false g))
    (λ i d. ap not (sym (get_or-set_other marks x i true false d))) 1 n l (omega arith)

pub make_counts : (f : Family) (k : ℕ) → KInRange f k → (marks : List Bool) → length marks ≡ 256 → (steps : List Step) → CanMakeAll f k marks steps
    → length steps + nodes_left (marks_after marks steps) (node_count f k) ≡ nodes_left marks (node_count f k)
unfolding set_live
make_counts f k range marks size [] a = omega arith
make_counts f k range marks size (x ∷ steps) a =
    let n = a.0.node in
    omega (
      arith,
      make_counts f k range (set marks x.node true) (length-set marks x.node true ∙ size) steps a.1,
      left_set marks (node_count f k) x.node n.first n.last (omega (arith, n.last, few f k range)) a.0.missing,
    )
