-- `pairing::count::Tally::of` meets its contract: either list is one of nodes, and not too long.
use mathlib.Core.Path.{◌≡◌, ◌∙◌}
use mathlib.Core.Bool.{Bool, false}
use Prim.Native.Nat.{ℕ, ◌≤◌}
use native.Mathlib.Omega.{arith}
use lib.ListN.{length}
use Rattle.base.specs.Ranges.{those_from}
use Rattle.families.specs.Families.{node_count}
use Rattle.families.proofs.Laws.{few}
use Rattle.lists.specs.Lists.{some_outside}
use Rattle.lists.proofs.Laws.{nodes_inside, those_few}
use Rattle.pairing.proofs.count.Tally.of.Goals as goal
use Rattle.pairing.proofs.count.Tally.of.Goals.{Start}

-- a list of nodes by a test
short : (e : Start) (test : ℕ → Bool) → let n = node_count e.args.set.columns.now.code.family e.args.set.columns.now.code.k in
    (some_outside n (those_from test 1 n) ≡ false) × (length (those_from test 1 n) ≤ 255)
short e test =
    let g = e.args.set.columns.now.code in
    let n = node_count g.family g.k in
    (nodes_inside _ _, omega (arith, those_few test 1 n, few _ _ g.in_range))

pub pairs_within-requires : goal.pairs_within-requires
pairs_within-requires c = rw c.args.set.listed (short (goal.at.pairs_within-requires c).Start _)

pub pairs_within-within-requires : goal.pairs_within-within-requires
pairs_within-within-requires c = rw c.requires (short (goal.at.pairs_within-within-requires c).Start _)

pub degrees-requires : goal.degrees-requires
degrees-requires c = rw c.requires (short (goal.at.degrees-requires c).Start _)

pub returns-then-set-missing : goal.returns-then-set-missing
returns-then-set-missing c = c.pairs_within.ensures ∙ rw c.args.set.listed

pub returns : goal.returns
returns c = (c.pairs_within-within.ensures ∙ rw c.requires, c.degrees.ensures ∙ rw c.requires)
