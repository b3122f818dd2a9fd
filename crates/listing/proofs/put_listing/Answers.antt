-- `listing::put_listing` meets its contract: the plan's lines follow the first line.
use mathlib.Core.Path.{◌≡◌, refl, ◌∙◌}
use Prim.Native.Nat.{◌≤◌}
use native.Mathlib.Omega.{arith}
use lib.ListN.{length}
use Rattle.families.specs.Families.{family_of}
use Rattle.families.proofs.Laws.{few}
use Rattle.checks.specs.Checks.{first_met}
use Rattle.lists.specs.Lists.{live_nodes}
use Rattle.repair.specs.Session.{node_count_of}
use Rattle.repair.proofs.StartLaws.{known}
use Rattle.listing.specs.Text.{first_line}
use Rattle.listing.specs.Listing.{listing_in}
use Rattle.listing.proofs.TextLaws.{first_line_most}
use Rattle.listing.proofs.ListingLaws.{served}
use Rattle.listing.proofs.PutLaws.{then}
use borrow.Author.Rules.{rules}
use Rattle.listing.proofs.put_listing.Goals as goal
use Rattle.listing.proofs.put_listing.Goals.{After-count_live-count}

-- the count is that of the listing
live : (c : After-count_live-count) → c.count_live-count.result ≡ length (live_nodes c.args.session.live (node_count_of c.args.session))
live c =
    let p = rw c.unwrap-code.ensures at c.code.ensures.code in
    c.count_live-count.ensures ∙ rw (c.node_count.ensures, p.family_is, p.k_is)

-- the first line leaves room for the plan
short : (c : After-count_live-count) → length (first_line c.args.session.family c.args.session.k c.args.session.len c.count_live-count.result) ≤ 105
short c = first_line_most _ _ _ _ (search rules) (search rules) (search rules) (search rules)

pub unwrap-code-requires : goal.unwrap-code-requires
unfolding first_met
unwrap-code-requires c = served _ (c.code.ensures.number ∙ rw c.requires.session_value refl)

pub count_live-count-requires : goal.count_live-count-requires
count_live-count-requires c =
    let s = c.args.session in
    let p = rw c.unwrap-code.ensures at c.code.ensures.code in
    omega (arith, rw (p.family_is, p.k_is) at c.node_count.ensures, few (family_of s.family) s.k (known s c.requires.session_value).range.blocks)

pub put_first_line-next-requires : goal.put_first_line-next-requires
put_first_line-next-requires c = omega (arith, short (goal.at.put_first_line-next-requires c).After-count_live-count)

pub put_plan-requires-clause-at_in_bounds : goal.put_plan-requires-clause-at_in_bounds
put_plan-requires-clause-at_in_bounds c = omega (arith, short (goal.at.put_plan-requires-clause-at_in_bounds c).After-count_live-count)

pub returns : goal.returns
unfolding listing_in
returns c = rw (live (goal.at.returns c).After-count_live-count) at (then c.put_first_line-next.ensures c.put_plan.ensures)
