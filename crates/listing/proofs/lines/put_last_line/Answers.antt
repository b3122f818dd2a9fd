-- `listing::lines::put_last_line` meets its contract: the last two fields follow the first.
use Rattle.std.proofs.Common.{arith, length-append}
use Rattle.listing.specs.Text.{last_line}
use Rattle.listing.proofs.PutLaws.{then}
use Rattle.listing.proofs.lines.put_last_line.Goals as goal

pub put_field-next-requires : goal.put_field-next-requires
unfolding last_line
put_field-next-requires c = omega (arith, simp length-append at c.requires)

pub put_last_fields-requires : goal.put_last_fields-requires
unfolding last_line
put_last_fields-requires c = simp length-append (omega (arith, simp length-append at c.requires))

pub returns : goal.returns
unfolding last_line
returns c = then c.put_field-next.ensures c.put_last_fields.ensures
