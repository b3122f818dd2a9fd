-- `graded::table` meets its contract: the code's table is the definition's.
use borrow.Author.Rules.{rules}
use Rattle.graded.specs.Order.{graded_table}
use Rattle.graded.proofs.table.Goals as goal

pub returns : goal.returns
unfolding graded_table
returns c = search rules
