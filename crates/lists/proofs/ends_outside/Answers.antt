-- `lists::ends_outside` meets its contract: the first number says whether one is 0, and the last whether one is above n.
use mathlib.Core.Path.{◌≡◌, sym, ◌∙◌}
use native.Mathlib.Omega.{arith}
use borrow.Author.Tests.{eqb-true, eqb-false, lt-ltb}
use lib.ListN.{length, get_or}
use Rattle.std.proofs.lemmas.List.Folds.{list_any_at}
use Rattle.base.proofs.ListLaws.{length_zero}
use Rattle.base.proofs.RangeLaws.{outside_low}
use Rattle.base.specs.Ranges.{outside}
use Rattle.lists.specs.Lists.{some_outside}
use Rattle.lists.proofs.Laws.{last_outside}
use Rattle.lists.proofs.Walks.{outside_any}
use Rattle.lists.proofs.ends_outside.Goals as goal

pub returns-then-list-lt1 : goal.returns-then-list-lt1
returns-then-list-lt1 c =
    let some : length c.args.list.now ≡ 0 → ⊥ = eqb-false _ _ (sym c.if-not-is_empty.ensures) in
    let low = outside_low 1 c.args.n (get_or c.args.list.now 0 0) c.if-list-lt1.true in
    lt-ltb _ _ c.if-list-lt1.true ∙ sym (outside_any c.args.n c.args.list.now ∙ list_any_at (outside 1 c.args.n) c.args.list.now 0 0 (omega arith) low)

pub returns-else-list-lt1 : goal.returns-else-list-lt1
returns-else-list-lt1 c =
    let some : length c.args.list.now ≡ 0 → ⊥ = eqb-false _ _ (sym c.if-not-is_empty.ensures) in
    rw c.from.ensures (sym (last_outside c.args.n c.args.list.now c.requires (omega arith) c.if-list-lt1.false))

pub returns-else-not-is_empty : goal.returns-else-not-is_empty
unfolding some_outside
returns-else-not-is_empty c =
    let none = length_zero c.args.list.now (eqb-true _ _ (sym c.if-not-is_empty.ensures)) in
    rw (c.if-not-is_empty.false, none)
