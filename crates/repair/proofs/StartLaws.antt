-- What the checks of a start and of a session say.
-- Assumes nothing.
use mathlib.Core.Path.{◌≡◌, refl, ◌∙◌}
use mathlib.Core.Bool.{Bool, true, false, not, or-true, or-false}
use mathlib.Core.List.{List}
use Prim.Native.Nat.{ℕ, ◌+◌, ◌*◌, ◌≤◌, ◌<◌}
use native.Mathlib.Omega.{arith}
use borrow.Author.Tests.{eqb-true, eq-eqb, ne_eqb, not-false, lt-ltb, le-ltb, ltb-true, ltb-false}
use lib.Dec.{eqb, ltb}
use lib.ListN.{length}
use Rattle.base.proofs.Tests.{or_neither, same_answer}
use Rattle.families.specs.Families.{family_of, node_count}
use Rattle.families.proofs.Laws.{few}
use Rattle.checks.specs.Checks.{first_met}
use Rattle.checks.specs.Claims.{NoneMet, InRange}
use Rattle.checks.specs.Parameters.{most_l, parameter_checks}
use Rattle.checks.proofs.Laws.{bytes_most, object_most, in_range, range_of, accepted, parameters_in, parameters_none, none_append, some_append}
use Rattle.lists.specs.Lists.{some_outside, rises, list_checks, none_live, set_live, live_outside, live_nodes}
use Rattle.lists.proofs.Laws.{length-set_live, live_nodes_few, list_outside_none}
use Rattle.counts.specs.Counts.{sum_of, counted_outside}
use Rattle.planning.specs.Plan.{nodes_left}
use Rattle.counts.proofs.Laws.{sum_none, none_outside}
use Rattle.planning.proofs.MakeLaws.{left_is, left_few}
use Rattle.repair.specs.declared.Session.{Session}
use Rattle.repair.specs.Session.{session_with, Arrays, session_of, start_checks, node_count_of, miscounted, unsound, nodes_checks}

-- ---- start

module _ (family k L : ℕ) (list : List ℕ) where
  pub start_stops : (first_met (parameter_checks family k L) ≡ 0 → ⊥) → first_met (start_checks family k L list) ≡ first_met (parameter_checks family k L)
  unfolding start_checks
  start_stops h = some_append (parameter_checks family k L) _ h

  module _ (e : first_met (parameter_checks family k L) ≡ 0) where
    pub start_on : first_met (start_checks family k L list) ≡ first_met (list_checks (node_count (family_of family) k) list)
    unfolding start_checks
    start_on = none_append (parameter_checks family k L) _ (parameters_none family k L e)

    pub start_0 : some_outside (node_count (family_of family) k) list ≡ false → rises list ≡ true → first_met (start_checks family k L list) ≡ 0
    unfolding first_met
    start_0 o r = start_on ∙ simp (o, r)

-- what an accepted start says
pub record AcceptedStart (family k L : ℕ) (list : List ℕ) : Type 0 where
  pub range : InRange family k L
  pub outside : some_outside (node_count (family_of family) k) list ≡ false
  pub rising : rises list ≡ true

pub accepted_start_lem : (family k L : ℕ) (list : List ℕ) → first_met (start_checks family k L list) ≡ 0 → AcceptedStart family k L list
unfolding start_checks parameter_checks
accepted_start_lem family k L list e =
    let n = accepted (start_checks family k L list) refl e in
    record { range = range_of family k L (n.0, (n.1.0, (n.1.1.0, tt))); outside = n.1.1.1.0; rising = not-false (rises list) n.1.1.1.1.0 }

-- ---- 13 and 6

module _ (s : Session) where
  -- ---- the counts

  -- steps and missing nodes exceed n where there are more steps than live nodes
  more_steps : ltb (node_count_of s) (s.steps + nodes_left s.live (node_count_of s)) ≡ ltb (length (live_nodes s.live (node_count_of s))) s.steps
  more_steps =
      let n = node_count_of s in
      let left = left_is s.live n in
      let most = live_nodes_few s.live n in
      same_answer (ltb n (s.steps + nodes_left s.live n)) (ltb (length (live_nodes s.live n)) s.steps)
      (λ t. lt-ltb (length (live_nodes s.live n)) s.steps (omega (arith, left, most, ltb-true n (s.steps + nodes_left s.live n) t)))
      (λ t. lt-ltb n (s.steps + nodes_left s.live n) (omega (arith, left, most, ltb-true (length (live_nodes s.live n)) s.steps t)))

  pub miscounted_steps : length (live_nodes s.live (node_count_of s)) < s.steps → miscounted s ≡ true
  unfolding miscounted
  miscounted_steps h = rw (more_steps, lt-ltb _ _ h, or-true, or-true)

  pub miscounted-outside : counted_outside (node_count_of s) s.reads ≡ true → miscounted s ≡ true
  unfolding miscounted
  miscounted-outside o = rw (o, or-true)

  pub miscounted_sum : s.steps ≤ length (live_nodes s.live (node_count_of s)) → counted_outside (node_count_of s) s.reads ≡ false
      → miscounted s ≡ not (eqb (sum_of s.reads) (2 * s.steps))
  unfolding miscounted
  miscounted_sum h o = rw (more_steps, le-ltb _ _ h, o, or-false)

  -- ---- 13

  pub unsound_parameters : (first_met (parameter_checks s.family s.k s.len) ≡ 0 → ⊥) → unsound s ≡ true
  unfolding unsound
  unsound_parameters h = simp (ne_eqb (first_met (parameter_checks s.family s.k s.len)) 0 h)

  module _ (e : first_met (parameter_checks s.family s.k s.len) ≡ 0) where
    pub unsound_marks : live_outside (node_count_of s) s.live ≡ true → unsound s ≡ true
    unfolding unsound
    unsound_marks o = rw (e, o)

    pub unsound_counts : live_outside (node_count_of s) s.live ≡ false → unsound s ≡ miscounted s
    unfolding unsound
    unsound_counts o = rw (e, o)

  -- a sound session
  pub record Known : Type 0 where
    pub range : InRange s.family s.k s.len
    pub inside : live_outside (node_count_of s) s.live ≡ false
    pub sum : sum_of s.reads ≡ 2 * s.steps
    pub reads_inside : counted_outside (node_count_of s) s.reads ≡ false
    pub few : s.steps + nodes_left s.live (node_count_of s) ≤ node_count_of s

  pub known : unsound s ≡ false → Known
  unfolding unsound miscounted
  known h =
      let p = or_neither (not (eqb (first_met (parameter_checks s.family s.k s.len)) 0)) _ h in
      let m = or_neither (live_outside (node_count_of s) s.live) _ p.1 in
      let c = or_neither (not (eqb (sum_of s.reads) (2 * s.steps))) _ m.1 in
      let r = or_neither (counted_outside (node_count_of s) s.reads) _ c.1 in
      record {
        range = in_range s.family s.k s.len (eqb-true _ 0 (not-false _ p.0));
        inside = m.0;
        sum = eqb-true _ _ (not-false _ c.0);
        reads_inside = r.0;
        few = ltb-false _ _ r.1;
      }

  pub sound : Known → unsound s ≡ false
  unfolding unsound miscounted
  sound g =
      simp (
        parameters_in s.family s.k s.len g.range,
        g.inside,
        eq-eqb _ _ g.sum,
        g.reads_inside,
        le-ltb _ _ g.few,
      )

  -- the steps are so few that they and their reads are small numbers
  pub steps_few : Known → (s.steps ≤ 255) × (sum_of s.reads ≤ 510)
  steps_few g = let n = few (family_of s.family) s.k g.range.blocks in (omega (arith, n, g.few), omega (arith, n, g.few, g.sum))

  -- the lengths that are compared are small
  pub nodes_small : Known → node_count_of s * s.len ≤ 255 * most_l
  nodes_small n = bytes_most (node_count_of s) 255 (few (family_of s.family) s.k n.range.blocks) n.range

  pub object_small : Known → s.k * s.len ≤ 22 * most_l
  object_small n = object_most n.range

  pub nodes_13 : (length : ℕ) → unsound s ≡ true → first_met (nodes_checks s length) ≡ 13
  unfolding nodes_checks first_met
  nodes_13 length e = rw e

  pub nodes_6 : (length : ℕ) → unsound s ≡ false → (length ≡ node_count_of s * s.len → ⊥) → first_met (nodes_checks s length) ≡ 6
  unfolding nodes_checks first_met
  nodes_6 length e h = simp (e, ne_eqb length (node_count_of s * s.len) h)

  pub nodes_0 : (length : ℕ) → unsound s ≡ false → length ≡ node_count_of s * s.len → first_met (nodes_checks s length) ≡ 0
  unfolding nodes_checks first_met
  nodes_0 length e h = simp (e, eq-eqb length (node_count_of s * s.len) h)

  -- what an accepted nodes buffer has
  pub record Sized (length : ℕ) : Type 0 where
    pub sound : unsound s ≡ false
    pub size : length ≡ node_count_of s * s.len

  pub nodes_none : (length : ℕ) → first_met (nodes_checks s length) ≡ 0 → NoneMet (nodes_checks s length)
  unfolding nodes_checks
  nodes_none length e = accepted (nodes_checks s length) refl e

  pub sized : (length : ℕ) → first_met (nodes_checks s length) ≡ 0 → Sized length
  unfolding nodes_checks
  sized length e =
      let n = nodes_none length e in
      record { sound = n.0; size = eqb-true _ _ (not-false _ n.1.0) }

-- ---- before any step

pub fresh_known : (family k L : ℕ) (marks : List Bool) → InRange family k L → live_outside (node_count (family_of family) k) marks ≡ false → Known (session_with family k L marks)
fresh_known family k L marks range inside =
    let n : ℕ = node_count (family_of family) k in
    record { range = range; inside = inside; sum = sum_none 256; reads_inside = none_outside n; few = omega (arith, left_few marks n) }

-- as an accepted start is
pub start_sound : (family k L : ℕ) (list : List ℕ) → InRange family k L → some_outside (node_count (family_of family) k) list ≡ false → unsound (session_of family k L list) ≡ false
start_sound family k L list range outside =
    let n : ℕ = node_count (family_of family) k in
    sound (session_of family k L list)
    (fresh_known family k L (set_live none_live list) range (list_outside_none n list (few (family_of family) k range.blocks) outside))

pub start_arrays : (family k L : ℕ) (list : List ℕ) → Arrays (session_of family k L list)
start_arrays family k L list = record { marks = length-set_live none_live list; counts = refl }
