-- `listing::lines::put_step_line` meets its contract: the last two fields follow the first two.
use Rattle.std.proofs.Common.{append_assoc, arith, length-append}
use Rattle.listing.specs.Text.{step_line}
use Rattle.listing.proofs.PutLaws.{then}
use Rattle.listing.proofs.lines.put_step_line.Goals as goal

pub put_fields-next-requires : goal.put_fields-next-requires
unfolding step_line
put_fields-next-requires c = rw (c.from.ensures, c.from-2.ensures) (simp length-append (omega (arith, simp length-append at c.requires)))

pub put_last_fields-requires : goal.put_last_fields-requires
unfolding step_line
put_last_fields-requires c =
    let next = rw (c.from.ensures, c.from-2.ensures) at c.put_fields-next.ensures.ends in
    rw (c.from-3.ensures, c.from-4.ensures) (simp length-append (omega (arith, simp length-append at c.requires, simp length-append at next)))

pub returns : goal.returns
unfolding step_line
returns c = rw (append_assoc, c.from.ensures, c.from-2.ensures, c.from-3.ensures, c.from-4.ensures) at (then c.put_fields-next.ensures c.put_last_fields.ensures)
