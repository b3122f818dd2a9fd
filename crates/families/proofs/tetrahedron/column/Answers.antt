-- `families::tetrahedron::column` meets its contract: the code's table is the definition's.
use Rattle.families.specs.Families.{column_of}
use borrow.Author.Rules.{rules}
use Rattle.families.proofs.tetrahedron.column.Goals as goal

pub returns : goal.returns
unfolding column_of
returns c = search rules
