-- `readout::missing_block` meets its contract: before each turn the nodes of the data blocks before i are live.
use mathlib.Core.Path.{◌≡◌, sym, ap, ◌∙◌}
use mathlib.Core.Bool.{true, not}
use Prim.Native.Nat.{ℕ, ◌≤◌}
use native.Mathlib.Omega.{arith}
use borrow.Author.Count.{below_more}
use Rattle.base.proofs.First.{first_of, first_none}
use Rattle.base.proofs.NumberLaws.{numbered_some, numbered_none}
use Rattle.families.proofs.Laws.{few, short}
use Rattle.lists.specs.Lists.{is_live}
use Rattle.readout.specs.DataBlocks.{data_node, missing_block}
use Rattle.readout.proofs.missing_block.Goals as goal

pub overflow_add-i-end : goal.overflow_add-i-end
overflow_add-i-end c = omega (arith, short _ _ c.args.code.in_range)

pub bounds-marks-j : goal.bounds-marks-j
bounds-marks-j c = omega (arith, c.data_node-j.ensures.2, few _ _ c.args.code.in_range)

pub returns-then-not-marks-j : goal.returns-then-not-marks-j
unfolding missing_block
returns-then-not-marks-j c =
    let g = c.args in
    let l = c.loop-i in
    let e = first_of (λ i. not (is_live g.marks.now (data_node g.code.family g.code.k i))) 1 g.code.k l.i (omega arith) (omega arith) (ap (λ (j : ℕ). not (is_live g.marks.now j)) (sym c.data_node-j.ensures.0) ∙ ap not c.if-not-marks-j.true) (λ h a b. ap not (l.invariant h b a)) in
    rw e (numbered_some l.i (λ z. omega (arith, z)))

pub loop-i-preserved : goal.loop-i-preserved
loop-i-preserved c =
    let g = c.args in
    let l = c.loop-i in
    let here : is_live g.marks.now (data_node g.code.family g.code.k l.i) ≡ true = ap (is_live g.marks.now) (sym c.data_node-j.ensures.0) ∙ c.if-not-marks-j.false in
    below_more (λ h. 1 ≤ h → is_live g.marks.now (data_node g.code.family g.code.k h) ≡ true) l.i l.invariant (λ p. here)

pub returns : goal.returns
unfolding missing_block
returns c =
    let g = c.args in
    let l = c.loop-i in
    numbered_none _ (first_none (λ i. not (is_live g.marks.now (data_node g.code.family g.code.k i))) 1 g.code.k (λ h a b. ap not (l.invariant h (omega arith) a)))
