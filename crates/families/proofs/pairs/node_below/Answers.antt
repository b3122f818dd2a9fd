-- `families::pairs::node_below` meets its contract: a column of one bit is a data block's, one of two bits a pair's, and any
-- other no node's.
use mathlib.Core.Path.{◌≡◌, sym, ap, ◌∙◌}
use Prim.Native.Nat.{ℕ, ◌-◌, ◌^◌, ◌<◌}
use lib.Count.{count_trailing_zeros}
use Rattle.families.proofs.Laws.{zero_none, low_bit, low_within, one_bit, high_within, high_le, TwoBits, two_bits, more_bits}
use Rattle.families.specs.Families.{KInRange}
use Rattle.families.specs.declared.Family.TheVariants.{WeightTwo}
use native.Mathlib.Omega.{arith}
use Rattle.families.proofs.pairs.node_below.Goals as goal
use Rattle.families.proofs.pairs.node_below.Goals.{After-lowest_bit-high, After-lowest_bit-low, After-without_lowest, After-without_lowest-rest, Else-rest-eq0, Else-without_lowest-ne0}

-- what is known once the lowest bit is found
record Known (k column low : ℕ) : Type 0 where
  range : KInRange WeightTwo k
  positive : 0 < column
  small : column < 2 ^ k
  lowest : low ≡ count_trailing_zeros 64 column
  within : low < k

known : (c : After-lowest_bit-low) → Known c.args.k c.args.column c.lowest_bit-low.result
known c =
    let p : 0 < c.args.column = omega arith in
    let s = c.requires.1 in
    record {
      range = c.requires.0;
      positive = p;
      small = s;
      lowest = c.lowest_bit-low.ensures;
      within = omega (arith, c.lowest_bit-low.ensures, low_within _ _ c.requires.0 p s);
    }

-- what is known once the second is found
record More (k column high : ℕ) : Type 0 where
  more : column - low_bit column ≡ 0 → ⊥
  lowest : high ≡ count_trailing_zeros 64 (column - low_bit column)
  within : high < k

more : (c : After-lowest_bit-high) → let g = c.args in More g.k g.column c.lowest_bit-high.result
more c =
    let w : After-without_lowest-rest = search in
    let l = known (search) in
    let o : Else-rest-eq0 = search in
    let column = c.args.column in
    let m : (column - low_bit column ≡ 0 → ⊥) = λ e. o.if-rest-eq0.false (w.without_lowest-rest.ensures ∙ e) in
    let e = c.lowest_bit-high.ensures ∙ ap (count_trailing_zeros 64) w.without_lowest-rest.ensures in
    record { more = m; lowest = e; within = omega (arith, e, high_within _ _ l.range l.positive l.small m) }

-- what is left without the second is as much as the rest is above it
last : (c : After-without_lowest) → let column = c.args.column in c.without_lowest.result ≡ column - low_bit column - low_bit (column - low_bit column)
last c =
    let w : After-without_lowest-rest = search in
    c.without_lowest.ensures ∙ ap (λ (x : ℕ). x - low_bit x) w.without_lowest-rest.ensures

two : (c : Else-without_lowest-ne0) → let g = c.args in TwoBits g.k g.column
two c =
    let l = known (search) in
    let m = more (search) in
    two_bits _ _ l.range l.positive l.small m.more (omega (arith, last (search), c.if-without_lowest-ne0.false, high_le _ _ l.range l.positive l.small m.more))

pub returns-then-column-eq0 : goal.returns-then-column-eq0
returns-then-column-eq0 c = rw c.if-column-eq0.true (sym (zero_none WeightTwo _ c.requires.0))

pub returns-then-rest-eq0 : goal.returns-then-rest-eq0
returns-then-rest-eq0 c =
    let l = known (goal.at.returns-then-rest-eq0 c).After-lowest_bit-low in
    let w : After-without_lowest-rest = search in
    rw l.lowest (sym (one_bit _ _ l.range l.positive l.small (sym w.without_lowest-rest.ensures ∙ c.if-rest-eq0.true)))

pub returns-then-without_lowest-ne0 : goal.returns-then-without_lowest-ne0
returns-then-without_lowest-ne0 c =
    let l = known (goal.at.returns-then-without_lowest-ne0 c).After-lowest_bit-low in
    let m = more (goal.at.returns-then-without_lowest-ne0 c).After-lowest_bit-high in
    sym (more_bits _ _ l.range l.positive l.small m.more (λ e. c.if-without_lowest-ne0.true (omega (arith, last (goal.at.returns-then-without_lowest-ne0 c).After-without_lowest, e))))

pub pair_node-requires : goal.pair_node-requires
pair_node-requires c =
    let l = known (goal.at.pair_node-requires c).After-lowest_bit-low in
    let m = more (goal.at.pair_node-requires c).After-lowest_bit-high in
    (omega arith, omega (arith, l.lowest, m.lowest, (two (goal.at.pair_node-requires c).Else-without_lowest-ne0).order), omega (arith, m.within), l.range.most)

pub returns : goal.returns
returns c =
    let l = known (goal.at.returns c).After-lowest_bit-low in
    let m = more (goal.at.returns c).After-lowest_bit-high in
    c.pair_node.ensures ∙ rw (l.lowest, m.lowest) (sym (two (goal.at.returns c).Else-without_lowest-ne0).node)
