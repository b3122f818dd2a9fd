-- `families::pairs::column` meets its contract, by the node's place from the last.
use mathlib.Core.Path.{◌≡◌, ◌∙◌, ap}
use Prim.Native.Nat.{◌-◌, ◌<◌}
use Rattle.families.specs.Families.{node_count, column_of}
use Rattle.families.specs.declared.Family.TheVariants.{WeightTwo}
use Rattle.families.proofs.PairLaws.{RowFromLast, row_from_last, column_from_last, few_pairs}
use native.Mathlib.Omega.{arith}
use Rattle.families.proofs.pairs.column.Goals as goal
use Rattle.families.proofs.pairs.column.Goals.{After-count, After-rows_before-rows}

-- the place is a node's
is_place : (c : After-count) → c.count.result - c.args.j < node_count WeightTwo c.args.k
is_place c = omega (arith, c.count.ensures, c.requires.node.first, c.requires.node.last)

row : (c : After-rows_before-rows) → RowFromLast c.args.k (c.count.result - c.args.j) c.rows_before-rows.result
row c = row_from_last _ _ _ (is_place c.before) c.rows_before-rows.ensures

-- fewer than 22 rows come before it
few_rows : (c : After-rows_before-rows) → c.rows_before-rows.result < 22
few_rows c = omega (arith, (row c).row_within, c.requires.kin_range.most)

pub rows_before-rows-requires : goal.rows_before-rows-requires
rows_before-rows-requires c = omega (arith, c.count.ensures, few_pairs c.args.k c.requires.kin_range.most, c.requires.node.first)

pub overflow_add-result : goal.overflow_add-result
overflow_add-result c = omega (arith, few_rows (goal.at.overflow_add-result c).After-rows_before-rows)

pub overflow_shr-result : goal.overflow_shr-result
overflow_shr-result c = omega (arith, few_rows (goal.at.overflow_shr-result c).After-rows_before-rows)

pub count-requires-2 : goal.count-requires-2
count-requires-2 c = omega (arith, few_rows (goal.at.count-requires-2 c).After-rows_before-rows)

pub overflow_shr-result-2 : goal.overflow_shr-result-2
overflow_shr-result-2 c = rw c.count-2.ensures (omega (arith, few_rows c.before.before, (row (goal.at.overflow_shr-result-2 c).After-rows_before-rows).place_within))

pub returns : goal.returns
returns c =
    let b = c.before.before.before in
    let k = b.args.k in
    let e : node_count WeightTwo k - (b.count.result - b.args.j) ≡ b.args.j = omega (arith, b.count.ensures, b.requires.node.last) in
    rw (c.power-last_block.ensures, c.count-2.ensures) (column_from_last k _ _ (is_place b) c.rows_before-rows.ensures) ∙ ap (column_of WeightTwo k) e
