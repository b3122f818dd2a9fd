-- `listing::text::put_fields` meets its contract: the second field follows the first.
use Rattle.listing.proofs.PutLaws.{then}
use Rattle.listing.proofs.text.put_fields.Goals as goal

pub returns : goal.returns
returns c = then c.put_field-next.ensures c.put_field.ensures
