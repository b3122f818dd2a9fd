-- `pairing::ends::by_degrees` meets its contract: the table has how many missing nodes have each of the two numbers.
use mathlib.Core.Path.{◌≡◌, refl, subst}
use mathlib.Core.Bool.{Bool, true, false, cond, not}
use Prim.Native.Nat.{◌+◌, ◌*◌, ◌<◌}
use native.Mathlib.Omega.{arith}
use mir.Val.{bool_byte}
use Rattle.families.specs.declared.Family.{Family}
use Rattle.families.specs.Families.{KInRange, IsNode, node_count}
use Rattle.families.proofs.Laws.{few, column}
use Rattle.lists.specs.Lists.{is_live, missing_nodes}
use Rattle.pairing.specs.Inner.{with_third, first_end, second_end}
use Rattle.pairing.proofs.DegreeLaws.{by_table, ends_few}
use Rattle.pairing.proofs.ends.by_degrees.Goals as goal
use Rattle.pairing.proofs.ends.by_degrees.Goals.{After-of-column, After-from-second}

twice : (b : Bool) → 2 * bool_byte b ≡ cond b 2 0
twice true = refl
twice false = refl

-- the two numbers of j's column are in the table
column_few : (c : After-of-column) → (first_end c.of-column.result < 32) × (second_end c.of-column.result < 32)
column_few c =
    let g = c.args.columns.now.code in
    let f = c.requires.family in
    rw (c.of-column.ensures, f.0) (ends_few _ (subst (λ (x : Family). KInRange x g.k) f.0 g.in_range) _ (subst (λ (x : Family). IsNode x g.k c.args.j) f.0 f.1))

-- what is left, and what is taken off, are the two counts
whole : (c : After-from-second) →
    let g = c.args.columns.now.code in
    let m = c.args.marks.now in
    with_third g.family g.k (missing_nodes m (node_count g.family g.k)) c.args.j + 2 * bool_byte (not (is_live m c.args.j)) ≡ c.from-first.result + c.from-second.result
whole c =
    let g = c.args.columns.now.code in
    let f = c.requires.family in
    let m = c.args.marks.now in
    rw (c.from-first.ensures, c.from-second.ensures, c.first_end.ensures, c.second_end.ensures, c.of-column.ensures, c.requires.degrees_value, twice (not (is_live m c.args.j)), f.0)
    (by_table _ (subst (λ (x : Family). KInRange x g.k) f.0 g.in_range) _ (subst (λ (x : Family). IsNode x g.k c.args.j) f.0 f.1) (λ i. not (is_live m i)))

pub bounds-degrees-first_end : goal.bounds-degrees-first_end
bounds-degrees-first_end c = omega (arith, c.first_end.ensures, (column_few (goal.at.bounds-degrees-first_end c).After-of-column).0)

pub second_end-requires : goal.second_end-requires
second_end-requires c = omega (arith, c.of-column.ensures, (column _ _ _ c.args.columns.now.code.in_range c.requires.family.1).positive)

pub offset_bounds-degrees-second_end : goal.offset_bounds-degrees-second_end
offset_bounds-degrees-second_end c = omega (arith, c.second_end.ensures, (column_few (goal.at.offset_bounds-degrees-second_end c).After-of-column).1)

pub bounds-degrees-second_end : goal.bounds-degrees-second_end
bounds-degrees-second_end c = omega (arith, c.second_end.ensures, (column_few (goal.at.bounds-degrees-second_end c).After-of-column).1)

pub bounds-marks-j : goal.bounds-marks-j
bounds-marks-j c = omega (arith, c.requires.family.1.last, few _ _ c.args.columns.now.code.in_range)

pub overflow_sub-result : goal.overflow_sub-result
overflow_sub-result c = omega (arith, whole (goal.at.overflow_sub-result c).After-from-second)

pub returns : goal.returns
returns c = omega (arith, whole (goal.at.returns c).After-from-second)
