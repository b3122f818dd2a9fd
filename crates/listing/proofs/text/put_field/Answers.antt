-- `listing::text::put_field` meets its contract: the number follows the word.
use Rattle.std.proofs.Common.{arith, length-append}
use Rattle.listing.specs.Text.{field}
use Rattle.listing.proofs.PutLaws.{then}
use Rattle.listing.proofs.text.put_field.Goals as goal

pub put-number-requires : goal.put-number-requires
unfolding field
put-number-requires c = omega (arith, simp length-append at c.requires)

pub put_number-requires : goal.put_number-requires
unfolding field
put_number-requires c = omega (arith, simp length-append at c.requires)

pub returns : goal.returns
unfolding field
returns c = then c.put-number.ensures c.put_number.ensures
