-- `lists::check` meets its contract: its tests are the list's conditions, in the list's order.
use mathlib.Core.Path.{◌≡◌, sym, ◌∙◌}
use mathlib.Core.Bool.{true, false}
use Rattle.checks.specs.Checks.{first_met}
use Rattle.lists.specs.Lists.{some_outside, rises}
use Rattle.lists.proofs.check.Goals as goal

pub returns-then-outside_by_order : goal.returns-then-outside_by_order
unfolding first_met
returns-then-outside_by_order c =
    let o : some_outside c.args.n c.args.list.now ≡ true = sym c.outside_by_order.ensures ∙ c.if-outside_by_order.true in
    rw o

pub returns-then-not-rising : goal.returns-then-not-rising
unfolding first_met
returns-then-not-rising c =
    let o : some_outside c.args.n c.args.list.now ≡ false = sym c.outside_by_order.ensures ∙ c.if-outside_by_order.false in
    let r : rises c.args.list.now ≡ false = sym c.is_rising-rising.ensures ∙ c.if-not-rising.true in
    rw (o, r)

pub returns : goal.returns
unfolding first_met
returns c =
    let o : some_outside c.args.n c.args.list.now ≡ false = sym c.outside_by_order.ensures ∙ c.if-outside_by_order.false in
    let r : rises c.args.list.now ≡ true = sym c.is_rising-rising.ensures ∙ c.if-not-rising.false in
    rw (o, r)
