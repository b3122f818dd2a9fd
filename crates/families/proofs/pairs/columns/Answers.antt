-- `families::pairs::columns` meets its contract: before each turn the table has the columns of the nodes before a place, and `pair`
-- is the pair of the node at it.
use mathlib.Core.Path.{◌≡◌, refl, sym, ◌∙◌, ap, ap₂}
use mathlib.Core.Bool.{Bool, true, false, cond}
use Prim.Native.Nat.{ℕ, suc, ◌+◌, ◌-◌, ◌≤◌, ◌<◌}
use native.Mathlib.Numerals.{add-one}
use borrow.Author.Tests.{eqb-true, eqb-false}
use lib.Dec.{eqb}
use Rattle.families.proofs.Laws.{few}
use Rattle.families.proofs.PairLaws.{pairs, pair_count, pair_at_lem, PairAt, column_at, next_pair, unit_small, in_row}
use Rattle.families.proofs.TableLaws.{columns_to, columns_none, columns_more, columns_all}
use Rattle.families.specs.Families.{node_count, column_of}
use Rattle.families.specs.Inner.{unit}
use Rattle.families.specs.declared.Family.TheVariants.{WeightTwo}
use Rattle.families.specs.declared.pairs.Pair.{Pair}
use native.Mathlib.Omega.{arith}
use Rattle.families.proofs.pairs.columns.Goals as goal
use Rattle.families.proofs.pairs.columns.Goals.{In-loop-place}
use Rattle.families.proofs.pairs.columns.Invariants.{Stands}

first : (k : ℕ) → 1 ≤ k → Stands k 0 (record { smaller = 0; larger = 1 })
first k h = record { smaller = sym (in_row k 0 h).0; larger = sym (in_row k 0 h).1 }

next : (k j : ℕ) (p r : Pair) → suc j < pairs k → Stands k j p
    → r ≡ cond (eqb p.larger k) (record { smaller = p.smaller + 1; larger = p.smaller + 2 }) (record { smaller = p.smaller; larger = p.larger + 1 })
    → Stands k (j + 1) r
next k j p r h s e = rw (add-one j) (go (eqb p.larger k) refl)
  where
    go : (b : Bool) → eqb p.larger k ≡ b → Stands k (suc j) r
    go true t =
        let q = (next_pair k j h).down (sym s.larger ∙ eqb-true p.larger k t) in
        let f : r ≡ record { smaller = p.smaller + 1; larger = p.smaller + 2 } = e ∙ rw t in
        record { smaller = ap (λ (x : Pair). x.smaller) f ∙ omega (arith, s.smaller, q.0); larger = ap (λ (x : Pair). x.larger) f ∙ omega (arith, s.smaller, q.1) }
    go false t =
        let q = (next_pair k j h).right (λ g. eqb-false p.larger k t (s.larger ∙ g)) in
        let f : r ≡ record { smaller = p.smaller; larger = p.larger + 1 } = e ∙ rw t in
        record { smaller = ap (λ (x : Pair). x.smaller) f ∙ omega (arith, s.smaller, q.0); larger = ap (λ (x : Pair). x.larger) f ∙ omega (arith, s.larger, q.1) }

next_column : (k j : ℕ) (p : Pair) → j < node_count WeightTwo k → Stands k j p → unit p.smaller + unit p.larger ≡ column_of WeightTwo k (j + 1)
next_column k j p h s = let e : j + 1 - 1 ≡ j = omega arith in rw (column_at k (j + 1) (omega arith) (omega arith), e, s.smaller, s.larger)

-- both numbers of the pair are at most 22
small : (c : In-loop-place) → (c.loop-place.pair.smaller ≤ 22) × (c.loop-place.pair.larger ≤ 22)
small c =
    let l = c.loop-place in
    let k = c.args.k in
    let s = l.invariant.1 c.loop-place-test.true in
    let p : PairAt k l.place = pair_at_lem k l.place (omega (arith, c.count-n.ensures, pair_count k)) in
    (omega (arith, s.smaller, p.order, p.within, c.requires.most), omega (arith, s.larger, p.within, c.requires.most))

pub loop-place-init : goal.loop-place-init
loop-place-init c = (columns_none _ _, (λ h. first _ (omega (arith, c.requires.least))))

pub unit_column-requires : goal.unit_column-requires
unit_column-requires c = omega (arith, small (goal.at.unit_column-requires c).In-loop-place)

pub unit_column-requires-in-loop-place : goal.unit_column-requires-in-loop-place
unit_column-requires-in-loop-place c = omega (arith, small (goal.at.unit_column-requires-in-loop-place c).In-loop-place)

pub overflow_add-table : goal.overflow_add-table
overflow_add-table c =
    let p = c.loop-place.pair in
    let s = small (goal.at.overflow_add-table c).In-loop-place in
    omega (arith, c.unit_column.ensures, c.unit_column-in-loop-place.ensures, unit_small p.smaller (omega (arith, s)), unit_small p.larger (omega (arith, s)))

pub overflow_cast-table : goal.overflow_cast-table
overflow_cast-table c =
    let p = c.loop-place.pair in
    let s = small (goal.at.overflow_cast-table c).In-loop-place in
    omega (arith, c.unit_column.ensures, c.unit_column-in-loop-place.ensures, unit_small p.smaller (omega (arith, s)), unit_small p.larger (omega (arith, s)))

pub offset_bounds-table-place : goal.offset_bounds-table-place
offset_bounds-table-place c = omega (arith, c.count-n.ensures, few WeightTwo _ c.requires)

pub bounds-table-place : goal.bounds-table-place
bounds-table-place c = omega (arith, c.count-n.ensures, few WeightTwo _ c.requires)

pub next_pair-pair-requires : goal.next_pair-pair-requires
next_pair-pair-requires c = (omega (arith, small (goal.at.next_pair-pair-requires c).In-loop-place), omega (arith, small (goal.at.next_pair-pair-requires c).In-loop-place))

pub loop-place-preserved : goal.loop-place-preserved
loop-place-preserved c =
    let l = c.loop-place in
    let g = c.args in
    let n = c.count-n.ensures in
    let s = l.invariant.1 c.loop-place-test.true in
    let v = ap₂ ◌+◌ c.unit_column.ensures c.unit_column-in-loop-place.ensures ∙ next_column g.k l.place l.pair (omega (arith, n)) s in
    (rw l.invariant.0 (columns_more WeightTwo g.k l.place _ v), (λ h. next g.k l.place l.pair _ (omega (arith, n, pair_count g.k, h)) s c.next_pair-pair.ensures))

pub returns : goal.returns
returns c =
    let k = c.args.k in
    let e : c.loop-place.place ≡ node_count WeightTwo k = omega (arith, c.count-n.ensures) in
    c.loop-place.invariant.0 ∙ ap (columns_to WeightTwo k) e ∙ columns_all WeightTwo k
