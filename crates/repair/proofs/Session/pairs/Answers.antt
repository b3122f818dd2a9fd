-- `repair::Session::pairs` meets its contract: 13, then 4, and then the search.
use mathlib.Core.Path.{◌≡◌, sym, ◌∙◌}
use mathlib.Core.Bool.{true, false}
use Rattle.base.specs.Ranges.{outside}
use Rattle.repair.specs.Session.{node_count_of}
use Rattle.repair.proofs.CodeLaws.{code_sound, code_unsound, code_13, nodes_of_code}
use Rattle.repair.proofs.PairsLaws.{pairs_13, pairs_4, pairs_served}
use Rattle.repair.proofs.Session.pairs.Goals as goal

pub returns-in-Err : goal.returns-in-Err
returns-in-Err c =
    let e = c.in-Err.ensures.number in
    rw (c.refused.ensures, code_13 _ _ e) (pairs_13 c.args.self c.args.node (code_unsound _ _ e))

pub returns-then-is_outside : goal.returns-then-is_outside
returns-then-is_outside c =
    let g = c.args in
    let n = nodes_of_code g.self _ _ c.in-Ok.ensures.code c.node_count.ensures in
    let o : outside 1 (node_count_of g.self) g.node ≡ true = sym (rw n at c.is_outside.ensures) ∙ c.if-is_outside.true in
    rw c.refused-then-is_outside.ensures (pairs_4 g.self g.node (code_sound _ c.in-Ok.ensures.number) o)

pub returns : goal.returns
returns c =
    let g = c.args in
    let p = c.in-Ok.ensures.code in
    let n = nodes_of_code g.self _ _ p c.node_count.ensures in
    let o : outside 1 (node_count_of g.self) g.node ≡ false = sym (rw n at c.is_outside.ensures) ∙ c.if-is_outside.false in
    rw (c.served.ensures, c.pairs_of-pairs.ensures, p.family_is, p.k_is) (pairs_served g.self g.node (code_sound _ c.in-Ok.ensures.number) o)
