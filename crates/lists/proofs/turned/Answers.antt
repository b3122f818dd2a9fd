-- `lists::turned` meets its contract: before each turn the marks before j are turned round.
use mathlib.Core.Path.{sym, ◌∙◌}
use mathlib.Core.Bool.{false, not}
use native.Mathlib.Omega.{arith}
use Rattle.base.proofs.Fill.{fill_more, fill_done}
use Rattle.base.proofs.RangeLaws.{length-list_from, get_or-list_from}
use Rattle.lists.specs.Lists.{is_live}
use Rattle.lists.specs.Inner.{turned_round}
use Rattle.lists.proofs.turned.Goals as goal

pub loop-j-preserved : goal.loop-j-preserved
unfolding turned_round
loop-j-preserved c =
    let m = c.args.marks.now in
    let n = length-list_from (λ j. not (is_live m j)) 0 256 in
    rw c.loop-j.invariant (fill_more (turned_round m) _ c.loop-j.j false (omega (arith, n)) (omega arith) (sym (get_or-list_from (λ j. not (is_live m j)) 256 c.loop-j.j false (omega arith))))

pub returns : goal.returns
unfolding turned_round
returns c =
    let m = c.args.marks.now in
    let n = length-list_from (λ j. not (is_live m j)) 0 256 in
    c.loop-j.invariant ∙ fill_done (turned_round m) _ c.loop-j.j (omega (arith, n)) (omega arith)
