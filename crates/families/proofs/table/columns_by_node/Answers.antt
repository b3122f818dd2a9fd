-- `families::table::columns_by_node` meets its contract: before each turn the table has the columns of the nodes before j.
use mathlib.Core.Path.{◌≡◌, ◌∙◌, ap}
use Prim.Native.Nat.{◌-◌}
use native.Mathlib.Omega.{arith}
use Rattle.families.specs.Families.{node_count}
use Rattle.families.proofs.Laws.{few, column_small}
use Rattle.families.proofs.TableLaws.{columns_to, columns_none, columns_next, columns_all}
use Rattle.families.proofs.table.columns_by_node.Goals as goal

pub overflow_add-j-end : goal.overflow_add-j-end
overflow_add-j-end c = omega (arith, c.node_count-j-end.ensures, few _ _ c.args.code.in_range)

pub offset_bounds-table-j : goal.offset_bounds-table-j
offset_bounds-table-j c = omega (arith, c.node_count-j-end.ensures, few _ _ c.args.code.in_range)

pub overflow_cast-table : goal.overflow_cast-table
overflow_cast-table c =
    let code = c.args.code in
    omega (arith, c.column.ensures, column_small code.family code.k c.loop-j.j code.in_range (record { first = omega arith; last = omega (arith, c.node_count-j-end.ensures) }))

pub bounds-table-j : goal.bounds-table-j
bounds-table-j c = omega (arith, c.node_count-j-end.ensures, few _ _ c.args.code.in_range)

pub loop-j-init : goal.loop-j-init
loop-j-init c = columns_none _ _

pub loop-j-preserved : goal.loop-j-preserved
loop-j-preserved c = rw c.loop-j.invariant (columns_next _ _ _ _ (omega arith) c.column.ensures)

pub returns : goal.returns
returns c =
    let code = c.args.code in
    let e : c.loop-j.j - 1 ≡ node_count code.family code.k = omega (arith, c.node_count-j-end.ensures) in
    c.loop-j.invariant ∙ ap (columns_to code.family code.k) e ∙ columns_all code.family code.k
