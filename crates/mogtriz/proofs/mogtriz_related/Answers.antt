-- `mogtriz::mogtriz_related` meets its contract: where the three numbers are nodes', the family and k are in range.
use mathlib.Core.Path.{◌≡◌, refl, sym, ◌∙◌}
use mathlib.Core.Bool.{Bool, true, false, cond}
use mir.Val.{bool_byte}
use Rattle.checks.proofs.RefusalLaws.{refused}
use Rattle.mogtriz.specs.Exports.{related_or0}
use Rattle.mogtriz.proofs.Laws.{node, no_node}
use Rattle.mogtriz.proofs.mogtriz_related.Goals as goal

bit : (b : Bool) → bool_byte b ≡ cond b 1 0
bit true = refl
bit false = refl

pub related-requires-clause-first : goal.related-requires-clause-first
related-requires-clause-first c =
    let p = c.in-Ok.ensures.code in
    rw (p.family_is, p.k_is) (node _ _ _ (sym c.is_node.ensures ∙ c.if-is_node.true)).is_node

pub related-requires-clause-second : goal.related-requires-clause-second
related-requires-clause-second c =
    let p = c.in-Ok.ensures.code in
    rw (p.family_is, p.k_is) (node _ _ _ (sym c.is_node-then-is_node.ensures ∙ c.if-is_node-2.true)).is_node

pub related-requires-clause-third : goal.related-requires-clause-third
related-requires-clause-third c =
    let p = c.in-Ok.ensures.code in
    rw (p.family_is, p.k_is) (node _ _ _ (sym c.is_node-then-is_node-2.ensures ∙ c.if-is_node-3.true)).is_node

pub returns-in-Ok : goal.returns-in-Ok
unfolding related_or0
returns-in-Ok c =
    let p = c.in-Ok.ensures.code in
    rw (sym c.is_node.ensures ∙ c.if-is_node.true, sym c.is_node-then-is_node.ensures ∙ c.if-is_node-2.true, sym c.is_node-then-is_node-2.ensures ∙ c.if-is_node-3.true, sym (rw (p.family_is, p.k_is) at c.related.ensures), c.from.ensures) (bit c.related.result)

pub returns-in_default : goal.returns-in_default
unfolding related_or0
returns-in_default c =
    simp (sym c.is_node.ensures ∙ c.if-is_node.true, sym c.is_node-then-is_node.ensures ∙ c.if-is_node-2.true, sym c.is_node-then-is_node-2.ensures ∙ c.if-is_node-3.false)

pub returns-in_default-2 : goal.returns-in_default-2
unfolding related_or0
returns-in_default-2 c = simp (sym c.is_node.ensures ∙ c.if-is_node.true, sym c.is_node-then-is_node.ensures ∙ c.if-is_node-2.false)

pub returns-in_default-3 : goal.returns-in_default-3
unfolding related_or0
returns-in_default-3 c = simp (sym c.is_node.ensures ∙ c.if-is_node.false)

pub returns-in_default-4 : goal.returns-in_default-4
unfolding related_or0
returns-in_default-4 c =
    let g = c.args in
    simp (no_node g.family g.k g.a (λ z. refused _ (c.in_default.ensures.number ∙ z)))
