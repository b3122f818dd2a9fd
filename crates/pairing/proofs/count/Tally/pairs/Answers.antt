-- `pairing::count::Tally::pairs` meets its contract: the pairs within the live nodes are the node's, and those within the missing ones tell it.
use mathlib.Core.Path.{◌≡◌, subst, ◌∙◌}
use mathlib.Core.Bool.{Bool, not}
use Prim.Native.Nat.{ℕ, ◌+◌}
use native.Mathlib.Omega.{arith}
use Rattle.families.specs.Families.{node_count}
use Rattle.families.proofs.Laws.{below256}
use Rattle.lists.specs.Lists.{is_live, missing_nodes}
use Rattle.counts.specs.Counts.{no_counts, count_of, count_all}
use Rattle.pairing.specs.Pairs.{pair_count}
use Rattle.pairing.specs.Inner.{thirds, Tallies}
use Rattle.pairing.specs.declared.count.Tally.TheVariants.{Missing}
use Rattle.pairing.proofs.CountLaws.{by_live, by_missing, tabled_few, most_few}
use Rattle.pairing.proofs.count.Tally.pairs.Goals as goal
use Rattle.pairing.proofs.count.Tally.pairs.Goals.{In-Missing, After-from-within, After-missing_with_third}

-- a tally of the missing nodes
missing_tally : (c : In-Missing) → let g = c.args.columns.now.code in Tallies g.family g.k c.args.marks.now (Missing c.in-Missing.table c.in-Missing.degrees)
missing_tally c = let g = c.args.columns.now.code in subst (Tallies g.family g.k c.args.marks.now) c.in-Missing.is c.requires.tallies

-- what its table has of j
table_is : (c : After-from-within) →
    let g = c.args.columns.now.code in
    Tallies g.family g.k c.args.marks.now (Missing c.in-Missing.table c.in-Missing.degrees)
    → c.from-within.result ≡ count_of (count_all no_counts (thirds g.family g.k (missing_nodes c.args.marks.now (node_count g.family g.k)))) c.args.j
table_is c t = c.from-within.ensures ∙ rw t.0

-- the count and what was taken off
whole : (c : After-missing_with_third) →
    let g = c.args.columns.now.code in
    c.from-within.result ≡ count_of (count_all no_counts (thirds g.family g.k (missing_nodes c.args.marks.now (node_count g.family g.k)))) c.args.j
    → pair_count g.family g.k c.args.marks.now c.args.j + c.missing_with_third.result ≡ c.most_pairs.result + c.from-within.result
whole c t =
    rw (c.missing_with_third.ensures, c.most_pairs.ensures, t, c.requires.missing_value) (by_missing _ _ c.args.columns.now.code.in_range c.args.marks.now _ c.requires.node)

pub offset_bounds-table-j : goal.offset_bounds-table-j
offset_bounds-table-j c = omega (arith, below256 c.args.columns.now.code.in_range c.requires.node)

pub bounds-table-j : goal.bounds-table-j
bounds-table-j c = below256 c.args.columns.now.code.in_range c.requires.node

pub offset_bounds-table-j-in-Missing : goal.offset_bounds-table-j-in-Missing
offset_bounds-table-j-in-Missing c = omega (arith, below256 c.args.columns.now.code.in_range c.requires.node)

pub bounds-table-j-in-Missing : goal.bounds-table-j-in-Missing
bounds-table-j-in-Missing c = below256 c.args.columns.now.code.in_range c.requires.node

pub returns-in-Live : goal.returns-in-Live
returns-in-Live c =
    let g = c.args.columns.now.code in
    let t = subst (Tallies g.family g.k c.args.marks.now) c.in-Live.is c.requires.tallies in
    c.from.ensures ∙ rw t (by_live _ _ g.in_range c.args.marks.now _ c.requires.node)

pub missing_with_third-requires : goal.missing_with_third-requires
missing_with_third-requires c =
    let t = missing_tally (goal.at.missing_with_third-requires c).In-Missing in
    record { node = c.requires.node; missing_value = c.requires.missing_value; degrees_value = t.1 ∙ rw c.requires.missing_value }

pub overflow_add-result : goal.overflow_add-result
overflow_add-result c =
    let g = c.args.columns.now.code in
    let kind : ℕ → Bool = λ i. not (is_live c.args.marks.now i) in
    let t = table_is (goal.at.overflow_add-result c).After-from-within (missing_tally (goal.at.overflow_add-result c).In-Missing) in
    omega (arith, c.most_pairs.ensures, t, tabled_few _ _ g.in_range c.args.marks.now _ c.requires.node kind, most_few _ _ g.in_range c.args.marks.now _ c.requires.node)

pub overflow_sub-result : goal.overflow_sub-result
overflow_sub-result c =
    let t = table_is (goal.at.overflow_sub-result c).After-from-within (missing_tally (goal.at.overflow_sub-result c).In-Missing) in
    omega (arith, whole (goal.at.overflow_sub-result c).After-missing_with_third t)

pub returns-in-Missing : goal.returns-in-Missing
returns-in-Missing c =
    let t = table_is (goal.at.returns-in-Missing c).After-from-within (missing_tally (goal.at.returns-in-Missing c).In-Missing) in
    omega (arith, whole (goal.at.returns-in-Missing c).After-missing_with_third t)
