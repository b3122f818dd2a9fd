-- `listing::text::put_last_fields` meets its contract: the last field follows the first.
use Rattle.listing.proofs.PutLaws.{then}
use Rattle.listing.proofs.text.put_last_fields.Goals as goal

pub returns : goal.returns
returns c = then c.put_field-next.ensures c.put_last_field.ensures
