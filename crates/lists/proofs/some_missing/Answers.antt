-- `lists::some_missing` meets its contract: it asks of each number whether its mark is missing.
use mathlib.Core.Path.{sym, ◌∙◌}
use mathlib.Core.Bool.{not}
use borrow.Author.Tests.{tests}
use Rattle.std.proofs.Common.{rules}
use Rattle.std.proofs.lemmas.Iterator.{YieldsList-from_slice}
use Rattle.std.proofs.lemmas.Iterator.Search.{any_from_yields_List}
use Rattle.lists.specs.Lists.{is_live}
use Rattle.lists.proofs.Walks.{missing_any}
use Rattle.lists.proofs.some_missing.Goals as goal

pub returns : goal.returns
returns c =
    any_from_yields_List (λ j. not (is_live c.args.marks.now j)) _ _ c.any.result c.any.ensures.ran (YieldsList-from_slice c.args.list.now cc) (λ x b q k. search (rules, tests))
    ∙ sym (missing_any c.args.marks.now c.args.list.now)
