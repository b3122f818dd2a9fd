-- `lists::some_outside` meets its contract: it asks of each number whether it is outside.
use mathlib.Core.Path.{sym, ◌∙◌}
use borrow.Author.Tests.{tests}
use Rattle.std.proofs.Common.{rules}
use Rattle.std.proofs.lemmas.Iterator.{YieldsList-from_slice}
use Rattle.std.proofs.lemmas.Iterator.Search.{any_from_yields_List}
use Rattle.base.specs.Ranges.{outside}
use Rattle.lists.proofs.Walks.{outside_any}
use Rattle.lists.proofs.some_outside.Goals as goal

pub returns : goal.returns
returns c =
    any_from_yields_List (outside 1 c.args.n) _ _ c.any.result c.any.ensures.ran (YieldsList-from_slice c.args.list.now cc) (λ x b q k. search (rules, tests))
    ∙ sym (outside_any c.args.n c.args.list.now)
