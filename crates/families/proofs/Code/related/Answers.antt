-- `families::Code::related` meets its contract: it is the XOR of the three columns.
use Rattle.families.specs.Families.{are_related}
use Rattle.families.proofs.Code.related.Goals as goal

pub returns : goal.returns
unfolding are_related
returns c = rw (c.column-3.ensures, c.column-2.ensures, c.column.ensures)
