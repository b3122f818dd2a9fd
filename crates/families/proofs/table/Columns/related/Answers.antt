-- `families::table::Columns::related` meets its contract: it is the XOR of the three columns.
use Rattle.families.specs.Families.{are_related}
use Rattle.families.proofs.table.Columns.related.Goals as goal

pub returns : goal.returns
unfolding are_related
returns c = rw (c.of-3.ensures, c.of-2.ensures, c.of.ensures)
