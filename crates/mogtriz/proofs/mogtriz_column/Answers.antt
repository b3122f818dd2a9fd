-- `mogtriz::mogtriz_column` meets its contract: where the number is a node's, the family and k are in range.
use mathlib.Core.Path.{sym, ◌∙◌}
use Rattle.checks.proofs.RefusalLaws.{refused}
use Rattle.mogtriz.specs.Exports.{column_or0}
use Rattle.mogtriz.proofs.Laws.{node, no_node}
use Rattle.mogtriz.proofs.mogtriz_column.Goals as goal

pub column-requires : goal.column-requires
column-requires c =
    let p = c.in-Ok.ensures.code in
    rw (p.family_is, p.k_is) (node _ _ _ (sym c.is_node.ensures ∙ c.if-is_node.true)).is_node

pub returns-in-Ok : goal.returns-in-Ok
unfolding column_or0
returns-in-Ok c =
    let p = c.in-Ok.ensures.code in
    rw (sym c.is_node.ensures ∙ c.if-is_node.true) (rw (p.family_is, p.k_is) at c.column.ensures)

pub returns-in_default : goal.returns-in_default
unfolding column_or0
returns-in_default c = rw (sym c.is_node.ensures ∙ c.if-is_node.false)

pub returns-in_default-2 : goal.returns-in_default-2
unfolding column_or0
returns-in_default-2 c =
    let g = c.args in
    rw (no_node g.family g.k g.node (λ z. refused _ (c.in_default.ensures.number ∙ z)))
