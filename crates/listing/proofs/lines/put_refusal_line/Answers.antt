-- `listing::lines::put_refusal_line` meets its contract: the line is one field, of at most 29 bytes.
use Rattle.std.proofs.Common.{arith, rules}
use Rattle.listing.specs.Text.{refusal_line}
use Rattle.listing.proofs.TextLaws.{refusal_line_most}
use Rattle.listing.proofs.PutLaws.{front}
use Rattle.listing.proofs.lines.put_refusal_line.Goals as goal

pub put_last_field-requires : goal.put_last_field-requires
unfolding refusal_line
put_last_field-requires c = omega (arith, refusal_line_most c.args.number (search rules))

pub returns : goal.returns
unfolding refusal_line
returns c =
    let p = front c.put_last_field.ensures in
    record { value = (p.0, rw p.0 (refusal_line_most _ (search rules))); out_after = p.1 }
