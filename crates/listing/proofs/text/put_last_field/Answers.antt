-- `listing::text::put_last_field` meets its contract: the line's end follows the field.
use Rattle.listing.proofs.PutLaws.{then}
use Rattle.listing.proofs.text.put_last_field.Goals as goal

pub returns : goal.returns
returns c = then c.put_field-next.ensures c.put.ensures
