-- What the checks of a step say, and what a step gives.
-- Assumes nothing.
use mathlib.Core.Path.{◌≡◌, refl, ap}
use mathlib.Core.Bool.{false, not}
use mathlib.Core.List.{List, [], ◌∷◌}
use Prim.Native.Nat.{ℕ, ◌*◌}
use native.Mathlib.Omega.{arith}
use borrow.Author.Tests.{eqb-true, eq-eqb, not-false}
use lib.ListN.{length}
use Rattle.base.proofs.Tests.{or_neither}
use Rattle.families.specs.Families.{family_of, KInRange, IsNode, are_related}
use Rattle.checks.specs.Checks.{Check, ◌gives◌, first_met}
use Rattle.base.specs.Ranges.{outside}
use Rattle.base.proofs.RangeLaws.{inside, outside_no}
use Rattle.checks.proofs.Laws.{accepted, none_append, some_append, none_zero}
use Rattle.checks.proofs.AnswerLaws.{Gives, serves, refuses}
use Rattle.lists.specs.Lists.{some_outside, is_live, some_missing}
use Rattle.lists.proofs.Laws.{outside_none}
use Rattle.planning.specs.Plan.{Step}
use Rattle.planning.specs.Made.{mended}
use Rattle.planning.specs.Inner.{StepIn}
use Rattle.planning.specs.Claims.{CanMake}
use Rattle.planning.proofs.CarryLaws.{step_in}
use Rattle.repair.specs.declared.Session.{Session}
use Rattle.repair.specs.Answers.{Stepped}
use Rattle.repair.specs.Session.{node_count_of, nodes_checks}
use Rattle.repair.specs.Step.{step_checks, after_steps, named_step, stepped, nodes_stepped}
use Rattle.repair.proofs.Refused.{refused_step}
use Rattle.repair.proofs.StartLaws.{known, nodes_none, Sized}

-- a number that the test lets through is a node's
pub node_of_lem : (s : Session) (i : ℕ) → outside 1 (node_count_of s) i ≡ false → IsNode (family_of s.family) s.k i
node_of_lem s i h = let p = inside 1 (node_count_of s) i h in record { first = p.0; last = p.1 }

module _ (s : Session) (nodes : List ℕ) (j a b : ℕ) where
  pub step_stops : (first_met (nodes_checks s (length nodes)) ≡ 0 → ⊥) → first_met (step_checks s nodes j a b) ≡ first_met (nodes_checks s (length nodes))
  unfolding step_checks
  step_stops h = some_append (nodes_checks s (length nodes)) _ h

  -- 13 and 6 are not met
  pub step_rest : first_met (nodes_checks s (length nodes)) ≡ 0
      → first_met (step_checks s nodes j a b) ≡ first_met (
      (some_outside (node_count_of s) (j ∷ a ∷ b ∷ []) gives 4)
      ∷ (not (are_related (family_of s.family) s.k a b j) gives 10)
      ∷ (is_live s.live j gives 11)
      ∷ (some_missing s.live (a ∷ b ∷ []) gives 12)
      ∷ [])
  unfolding step_checks
  step_rest e = none_append (nodes_checks s (length nodes)) _ (nodes_none s (length nodes) e)

  -- ---- what a step gives

  -- an answer, and the nodes buffer afterwards
  abbrev pub Steps : Stepped → List ℕ → Type 0
  Steps = Gives (stepped s nodes j a b) (nodes_stepped s nodes j a b)

  pub step_refused : (number : ℕ) → number ≡ first_met (step_checks s nodes j a b) → (number ≡ 0 → ⊥) → Steps (refused_step s number) nodes
  unfolding stepped nodes_stepped
  step_refused = refuses (step_checks s nodes j a b) _ (refused_step s) _ nodes

  pub step_made : first_met (step_checks s nodes j a b) ≡ 0 → Steps (record { refusal = 0; session = after_steps s (named_step j a b ∷ []) }) (mended s.len nodes j a b)
  unfolding stepped nodes_stepped
  step_made = serves (step_checks s nodes j a b) _ (refused_step s) _ nodes

-- ---- a step, accepted

module _ (s : Session) (nodes : List ℕ) (made : Step) where
  -- its checks
  abbrev pub checks_of : List Check
  checks_of = step_checks s nodes made.node made.smaller made.larger

  -- what an accepted step says
  pub record AcceptedStep : Type 0 where
    pub buffer : Sized s (length nodes)
    pub makes : CanMake (family_of s.family) s.k s.live made

  pub accepted_step : first_met checks_of ≡ 0 → AcceptedStep
  unfolding step_checks nodes_checks some_missing
  accepted_step e =
      let n = accepted checks_of refl e in
      let inside = outside_none (node_count_of s) (made.node ∷ made.smaller ∷ made.larger ∷ []) n.1.1.0 in
      let j = inside 0 (omega arith) in
      let a = inside 1 (omega arith) in
      let b = inside 2 (omega arith) in
      let both = or_neither (not (is_live s.live made.smaller)) _ n.1.1.1.1.1.0 in
      record {
        buffer = record { sound = n.0; size = eqb-true _ _ (not-false _ n.1.0) };
        makes =
            record {
              node = record { first = j.0; last = j.1 };
              smaller = record { first = a.0; last = a.1 };
              larger = record { first = b.0; last = b.1 };
              related = not-false _ n.1.1.1.0;
              missing = n.1.1.1.1.0;
              smaller_live = not-false _ both.0;
              larger_live = not-false _ (or_neither (not (is_live s.live made.larger)) false both.1).0;
            };
      }

  module _ (w : AcceptedStep) where
    -- and the other way round
    pub step_accepted : first_met checks_of ≡ 0
    unfolding step_checks nodes_checks some_outside some_missing
    step_accepted =
        let m = w.makes in
        let n : ℕ = node_count_of s in
        none_zero checks_of (
          w.buffer.sound,
          (
            ap not (eq-eqb (length nodes) (n * s.len) w.buffer.size),
            (
              simp (outside_no 1 n made.node m.node.first m.node.last, outside_no 1 n made.smaller m.smaller.first m.smaller.last, outside_no 1 n made.larger m.larger.first m.larger.last),
              (ap not m.related, (m.missing, (simp (m.smaller_live, m.larger_live), tt))),
            ),
          ),
        )

    pub step_range : KInRange (family_of s.family) s.k
    step_range = (known s w.buffer.sound).range.blocks

    -- the three blocks lie in the nodes buffer, the one to repair apart from the two others
    pub step_blocks : StepIn s.len nodes made
    step_blocks = step_in (family_of s.family) s.k step_range s.len nodes w.buffer.size s.live made w.makes
