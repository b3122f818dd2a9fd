-- `repair::Session::check_step` meets its contract: its tests are the list's conditions, in the list's order.
use mathlib.Core.Path.{◌≡◌, sym, ◌∙◌}
use mathlib.Core.Bool.{Bool, false, not}
use mathlib.Core.List.{List, [], ◌∷◌}
use Prim.Native.Nat.{ℕ, ◌<◌}
use native.Mathlib.Omega.{arith}
use lib.ListN.{length}
use Rattle.families.specs.declared.Code.{Code}
use Rattle.families.specs.Families.{family_of, node_count, are_related}
use Rattle.checks.specs.Checks.{◌gives◌, first_met}
use Rattle.checks.specs.Refusals.{IsCodeOf}
use Rattle.checks.proofs.RefusalLaws.{refused, passed_on}
use Rattle.base.specs.Ranges.{outside}
use Rattle.base.proofs.RangeLaws.{inside}
use Rattle.lists.specs.Lists.{some_outside, is_live, some_missing}
use Rattle.repair.specs.Session.{node_count_of, nodes_checks}
use Rattle.repair.specs.Step.{step_checks}
use Rattle.repair.specs.declared.Session.{Session}
use Rattle.repair.proofs.CodeLaws.{nodes_of_code, nodes_few}
use Rattle.repair.proofs.StepLaws.{step_stops, step_rest}
use Rattle.repair.proofs.Session.check_step.Goals as goal
use Rattle.repair.proofs.Session.check_step.Goals.{Else-is_outside-3, Else-not-related}

-- what the test of a number says
tested : (s : Session) (code : Code) (n i : ℕ) {test met : Bool} → IsCodeOf s.family s.k code → n ≡ node_count code.family code.k → test ≡ outside 1 n i → test ≡ met
    → outside 1 (node_count_of s) i ≡ met
tested s code n i p e o t = sym (rw (nodes_of_code s code n p e) at o) ∙ t

-- a number that it lets through has a mark
below : (code : Code) (n i : ℕ) {test : Bool} → n ≡ node_count code.family code.k → test ≡ outside 1 n i → test ≡ false → i < 256
below code n i e o t = omega (arith, (inside 1 n i (sym o ∙ t)).1, nodes_few code n e)

-- what is left once 13, 6 and 4 are passed
rest : (s : Session) (nodes : List ℕ) (j a b : ℕ) → 0 ≡ first_met (nodes_checks s (length nodes))
    → outside 1 (node_count_of s) j ≡ false → outside 1 (node_count_of s) a ≡ false → outside 1 (node_count_of s) b ≡ false
    → first_met (step_checks s nodes j a b)
    ≡ first_met ((not (are_related (family_of s.family) s.k a b j) gives 10) ∷ (is_live s.live j gives 11) ∷ (some_missing s.live (a ∷ b ∷ []) gives 12) ∷ [])
unfolding first_met some_outside
rest s nodes j a b e f g h = step_rest _ _ _ _ _ (sym e) ∙ rw (f, g, h)

to_related : (c : Else-is_outside-3) → let g = c.args in first_met (step_checks g.self g.nodes.now g.node g.first g.second) ≡ first_met ((not (are_related (family_of g.self.family) g.self.k g.first g.second g.node) gives 10) ∷ (is_live g.self.live g.node gives 11) ∷ (some_missing g.self.live (g.first ∷ g.second ∷ []) gives 12) ∷ [])
to_related c =
    let p = c.in_ok-code.ensures.code in
    let n = c.node_count-n.ensures in
    rest _ _ _ _ _ c.in_ok-code.ensures.number
    (tested c.args.self _ _ c.args.node p n c.is_outside.ensures c.if-is_outside.false) (tested c.args.self _ _ c.args.first p n c.is_outside-2.ensures c.if-is_outside-2.false) (tested c.args.self _ _ c.args.second p n c.is_outside-3.ensures c.if-is_outside-3.false)

-- and once 10 is
to_marks : (c : Else-not-related) → let g = c.args in first_met (step_checks g.self g.nodes.now g.node g.first g.second) ≡ first_met ((is_live g.self.live g.node gives 11) ∷ (some_missing g.self.live (g.first ∷ g.second ∷ []) gives 12) ∷ [])
unfolding first_met
to_marks c =
    let p = c.in_ok-code.ensures.code in
    let n = c.node_count-n.ensures in
    let r = rw (p.family_is, p.k_is) at c.related.ensures in
    rest _ _ _ _ _ c.in_ok-code.ensures.number
    (tested c.args.self _ _ c.args.node p n c.is_outside.ensures c.if-is_outside.false) (tested c.args.self _ _ c.args.first p n c.is_outside-2.ensures c.if-is_outside-2.false) (tested c.args.self _ _ c.args.second p n c.is_outside-3.ensures c.if-is_outside-3.false)
    ∙ rw (← r, c.if-not-related.false)

-- ---- the answers
pub returns-in_err-code : goal.returns-in_err-code
returns-in_err-code c =
    let e = c.in_err-code.ensures.number in
    passed_on _ _ c.from_residual.ensures.1 ∙ e ∙ sym (step_stops _ _ _ _ _ (λ z. refused _ (e ∙ z)))

pub returns-then-is_outside : goal.returns-then-is_outside
unfolding first_met some_outside
returns-then-is_outside c =
    let p = c.in_ok-code.ensures.code in
    let n = c.node_count-n.ensures in
    sym (step_rest _ _ _ _ _ (sym c.in_ok-code.ensures.number) ∙ rw (tested c.args.self _ _ c.args.node p n c.is_outside.ensures c.if-is_outside.true))

pub returns-then-is_outside-2 : goal.returns-then-is_outside-2
unfolding first_met some_outside
returns-then-is_outside-2 c =
    let p = c.in_ok-code.ensures.code in
    let n = c.node_count-n.ensures in
    sym (step_rest _ _ _ _ _ (sym c.in_ok-code.ensures.number)
    ∙ rw (tested c.args.self _ _ c.args.node p n c.is_outside.ensures c.if-is_outside.false, tested c.args.self _ _ c.args.first p n c.is_outside-2.ensures c.if-is_outside-2.true))

pub returns-then-is_outside-3 : goal.returns-then-is_outside-3
unfolding first_met some_outside
returns-then-is_outside-3 c =
    let p = c.in_ok-code.ensures.code in
    let n = c.node_count-n.ensures in
    sym (step_rest _ _ _ _ _ (sym c.in_ok-code.ensures.number)
    ∙ rw (tested c.args.self _ _ c.args.node p n c.is_outside.ensures c.if-is_outside.false, tested c.args.self _ _ c.args.first p n c.is_outside-2.ensures c.if-is_outside-2.false, tested c.args.self _ _ c.args.second p n c.is_outside-3.ensures c.if-is_outside-3.true))

pub returns-then-not-related : goal.returns-then-not-related
unfolding first_met
returns-then-not-related c =
    let p = c.in_ok-code.ensures.code in
    let r = rw (p.family_is, p.k_is) at c.related.ensures in
    sym (to_related (goal.at.returns-then-not-related c).Else-is_outside-3 ∙ rw (← r, c.if-not-related.true))

pub bounds-live-node : goal.bounds-live-node
bounds-live-node c = below c.in_ok-code.code _ _ c.node_count-n.ensures c.is_outside.ensures c.if-is_outside.false

pub returns-then-live-node : goal.returns-then-live-node
unfolding first_met
returns-then-live-node c = sym (to_marks (goal.at.returns-then-live-node c).Else-not-related ∙ rw c.if-live-node.true)

pub bounds-live-first : goal.bounds-live-first
bounds-live-first c = below c.in_ok-code.code _ _ c.node_count-n.ensures c.is_outside-2.ensures c.if-is_outside-2.false

pub returns-then-not-live-first : goal.returns-then-not-live-first
unfolding first_met some_missing
returns-then-not-live-first c = sym (to_marks (goal.at.returns-then-not-live-first c).Else-not-related ∙ rw (c.if-live-node.false, c.if-not-live-first.true))

pub bounds-live-second : goal.bounds-live-second
bounds-live-second c = below c.in_ok-code.code _ _ c.node_count-n.ensures c.is_outside-3.ensures c.if-is_outside-3.false

pub returns-then-not-live-second : goal.returns-then-not-live-second
unfolding first_met some_missing
returns-then-not-live-second c = sym (to_marks (goal.at.returns-then-not-live-second c).Else-not-related ∙ rw (c.if-live-node.false, c.if-not-live-first.false, c.if-not-live-second.true))

pub returns : goal.returns
unfolding first_met some_missing
returns c = sym (to_marks (goal.at.returns c).Else-not-related ∙ rw (c.if-live-node.false, c.if-not-live-first.false, c.if-not-live-second.false))
