-- `listing::text::put_number` meets its contract: the digits that `io` gives are those of the definition.
use Rattle.std.proofs.Common.{rules, ◌∙◌}
use Rattle.listing.proofs.TextLaws.{decimal_is}
use Rattle.listing.proofs.text.put_number.Goals as goal

pub put-requires : goal.put-requires
put-requires c =
    let given = c.decimal-count.ensures in
    rw (given.digits ∙ decimal_is c.args.n c.decimal-count.result (search rules) given.len) c.requires

pub returns : goal.returns
returns c =
    let given = c.decimal-count.ensures in
    rw (given.digits ∙ decimal_is c.args.n c.decimal-count.result (search rules) given.len) at c.put.ensures
