-- `families::pairs::count` meets its contract: for k of at most 22 the product is small.
use Rattle.families.specs.Families.{node_count}
use borrow.Author.Rules.{rules}
use Rattle.families.proofs.pairs.count.Goals as goal

pub returns : goal.returns
unfolding node_count
returns c = search rules
