-- `listing::lines::put_first_line` meets its contract: the last two fields follow the first two.
use Rattle.std.proofs.Common.{append_assoc, arith, length-append}
use Rattle.listing.specs.Text.{first_line}
use Rattle.listing.proofs.PutLaws.{then}
use Rattle.listing.proofs.lines.put_first_line.Goals as goal

pub put_fields-next-requires : goal.put_fields-next-requires
unfolding first_line
put_fields-next-requires c = simp length-append (omega (arith, simp length-append at c.requires))

pub put_last_fields-requires : goal.put_last_fields-requires
unfolding first_line
put_last_fields-requires c = simp length-append (omega (arith, simp length-append at c.requires, simp length-append at c.put_fields-next.ensures.ends))

pub returns : goal.returns
unfolding first_line
returns c = rw append_assoc at (then c.put_fields-next.ensures c.put_last_fields.ensures)
