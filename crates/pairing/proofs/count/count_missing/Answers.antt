-- `pairing::count::count_missing` meets its contract: the missing nodes are listed.
use mathlib.Core.Path.{◌≡◌, ap, ◌∙◌}
use Prim.Native.Nat.{◌-◌, ◌≤◌}
use native.Mathlib.Omega.{arith}
use lib.ListN.{length, take, length-take}
use Rattle.families.specs.Families.{node_count}
use Rattle.families.proofs.Laws.{few}
use Rattle.lists.specs.Lists.{missing_nodes}
use Rattle.lists.proofs.Laws.{live_nodes_few}
use Rattle.pairing.proofs.ListedLaws.{listed, fits_in, missing_count}
use Rattle.pairing.proofs.count.count_missing.Goals as goal
use Rattle.pairing.proofs.count.count_missing.Goals.{After-list_missing-lost, Start}

node_few : (e : Start) → let g = e.args.set.columns.now.code in node_count g.family g.k ≤ 255
node_few e = few _ _ e.args.set.columns.now.code.in_range

-- the missing nodes, without the zeros after them
missing_size : (c : After-list_missing-lost) → let s = c.args.set in c.node_count-n.result - length s.list.now ≡ length (missing_nodes s.marks.now (node_count s.columns.now.code.family s.columns.now.code.k))
missing_size c =
    rw (c.node_count-n.ensures, c.args.set.listed) (missing_count c.args.set.marks.now _)

missing_list : (c : After-list_missing-lost)
    → let s = c.args.set in take (c.node_count-n.result - length s.list.now) c.list_missing-lost.result ≡ missing_nodes s.marks.now (node_count s.columns.now.code.family s.columns.now.code.k)
missing_list c =
    listed _ c.list_missing-lost.result _ (missing_size c) (rw c.node_count-n.ensures at c.list_missing-lost.ensures)

missing_fits : (c : After-list_missing-lost) → c.node_count-n.result - length c.args.set.list.now ≤ length c.list_missing-lost.result
missing_fits c = fits_in _ c.list_missing-lost.result _ (missing_size c) (missing_list c)

pub list_missing-lost-requires : goal.list_missing-lost-requires
list_missing-lost-requires c = omega (arith, c.node_count-n.ensures, node_few (goal.at.list_missing-lost-requires c).Start)

pub slice_bounds-lost-count : goal.slice_bounds-lost-count
slice_bounds-lost-count c =
    omega (arith, c.node_count-n.ensures, ap length c.args.set.listed, live_nodes_few c.args.set.marks.now (node_count c.args.set.columns.now.code.family c.args.set.columns.now.code.k))

pub slice_bounds-lost-end : goal.slice_bounds-lost-end
slice_bounds-lost-end c = missing_fits (goal.at.slice_bounds-lost-end c).After-list_missing-lost

pub slice_bounds-count_listed-length : goal.slice_bounds-count_listed-length
slice_bounds-count_listed-length c = rw length-take (omega (arith, missing_fits (goal.at.slice_bounds-count_listed-length c).After-list_missing-lost))

pub returns : goal.returns
returns c = c.count_listed.ensures ∙ rw (missing_list (goal.at.returns c).After-list_missing-lost)

pub count_listed-requires : goal.count_listed-requires
count_listed-requires c = missing_list (goal.at.count_listed-requires c).After-list_missing-lost
