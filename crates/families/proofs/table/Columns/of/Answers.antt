-- `families::table::Columns::of` meets its contract: the table has node j's column at place j.
use native.Mathlib.Omega.{arith}
use Rattle.families.proofs.Laws.{below256}
use Rattle.families.proofs.TableLaws.{column_in}
use Rattle.families.proofs.table.Columns.of.Goals as goal

pub offset_bounds-self-j : goal.offset_bounds-self-j
offset_bounds-self-j c = omega (arith, below256 c.args.self.now.code.in_range c.requires)

pub bounds-self-j : goal.bounds-self-j
bounds-self-j c = below256 c.args.self.now.code.in_range c.requires

pub returns : goal.returns
returns c = column_in c.args.self.now.filled c.args.self.now.code.in_range c.requires
