-- `graded::nodes_below` meets its contract: before each turn the array has what is left of the columns gone through.
use mathlib.Core.Path.{◌≡◌, refl, sym, ap, ◌∙◌}
use Prim.Native.Nat.{ℕ}
use native.Mathlib.Omega.{arith}
use mathlib.Core.List.{List}
use lib.ListN.{length, get_or, length-append}
use Rattle.graded.specs.Order.{graded_table, below}
use Rattle.graded.proofs.Walks.{left_of, left_more, left_same, left_few, left_all, array_of, array_more, array_all}
use Rattle.graded.proofs.nodes_below.Goals as goal
use Rattle.graded.proofs.nodes_below.Goals.{then-from-bound, else-from-bound}

pub loop-column-init : goal.loop-column-init
unfolding below
loop-column-init c = (refl, refl)

pub overflow_add-p : goal.overflow_add-p
overflow_add-p c = omega (arith, left_few c.args.bound c.loop-column.column-index)

pub bounds-nodes-p : goal.bounds-nodes-p
bounds-nodes-p c =
    omega (arith, left_few c.args.bound c.loop-column.column-index)

pub loop-column-preserved : goal.loop-column-preserved
loop-column-preserved c =
    let bound = c.args.bound in
    let i = c.loop-column.column-index in
    let column : get_or c.args.columns i 0 ≡ get_or graded_table i 0 = ap (λ (l : List ℕ). get_or l i 0) c.requires in
    elim c.if-from-bound.branch [
      | then-from-bound w ↦
          let more = left_more bound i (omega arith) (omega (arith, column, c.from.ensures, w.if-from-bound.true)) in (
            w.p-is ∙ omega (arith, c.loop-column.invariant.0, ap length more ∙ length-append (left_of bound i) _),
            w.nodes-is ∙ rw (c.loop-column.invariant.1, c.loop-column.invariant.0, column, more) (array_more (left_of bound i) (get_or graded_table i 0) (omega (arith, left_few bound i))),
          )
      | else-from-bound w ↦
          let same = left_same bound i (omega arith) (omega (arith, column, c.from.ensures, w.if-from-bound.false)) in
          (w.p-is ∙ c.loop-column.invariant.0 ∙ sym (ap length same), w.nodes-is ∙ c.loop-column.invariant.1 ∙ sym (ap array_of same))
    ]

pub returns : goal.returns
returns c =
    let bound = c.args.bound in
    c.loop-column.invariant.1 ∙ ap array_of (left_all bound c.loop-column.column-index (omega arith)) ∙ array_all (below bound graded_table)
