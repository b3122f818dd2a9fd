-- `planning::rounds::plan_round` meets its contract: each turn finds the round's next repair, until there is none. What the search goes
-- by stands in the invariant.
use mathlib.Core.Path.{◌≡◌, refl, sym, ap, ◌∙◌}
use mathlib.Core.List.{[], flat_map}
use Prim.Native.Nat.{suc, ◌+◌, ◌-◌, ◌*◌, ◌≤◌}
use native.Mathlib.Nat.{add-sub_cancel_left}
use native.Mathlib.Omega.{arith}
use lib.ListN.{length, take, length-take, take-append-drop}
use Rattle.base.specs.Ranges.{first_from}
use Rattle.blocks.proofs.PartLaws.{length_mid}
use Rattle.families.specs.Families.{node_count}
use Rattle.families.proofs.Laws.{few}
use Rattle.lists.specs.Lists.{live_nodes, missing_nodes, set_live}
use Rattle.lists.proofs.Laws.{live_nodes_few}
use Rattle.planning.specs.Plan.{once, step_bytes, round_steps}
use Rattle.planning.proofs.MakeLaws.{is_repaired}
use Rattle.pairing.specs.Inner.{found_in}
use Rattle.pairing.proofs.ListedLaws.{listed, fits_in}
use Rattle.planning.proofs.PlanLaws.{all_read}
use Rattle.planning.proofs.RoundLaws.{all_live, missing_counts, found_next, Next, next_none, next_some, round_none, round_some, round_room, round_last, round_more, round_done}
use Rattle.planning.proofs.rounds.plan_round.Goals as goal
use Rattle.planning.proofs.rounds.plan_round.Goals.{then-count-n-via-then-count-n, then-count-n-via-else-count-n+then-count-lt2, After-count_live-count, After-find_next, After-list_live-list, After-node_count-n, At-loop-count, In-Some, Start}

node_few : (c : Start) → node_count c.args.columns.now.code.family c.args.columns.now.code.k ≤ 255
node_few c = few _ _ c.args.columns.now.code.in_range

-- how many nodes are live
counted : (c : After-count_live-count) → let g = c.args in c.count_live-count.result ≡ length (live_nodes g.marks.now (node_count g.columns.now.code.family g.columns.now.code.k))
counted c = c.count_live-count.ensures ∙ rw c.node_count-n.ensures

-- the live nodes, without the zeros after them
live_list : (c : After-list_live-list) → let g = c.args in take c.count_live-count.result c.list_live-list.result ≡ live_nodes g.marks.now (node_count g.columns.now.code.family g.columns.now.code.k)
live_list c =
    listed c.count_live-count.result c.list_live-list.result _ ((let counted' : let g = c.args in c.count_live-count.result ≡ length (live_nodes g.marks.now (node_count g.columns.now.code.family g.columns.now.code.k)) = c.count_live-count.ensures ∙ rw c.node_count-n.ensures in counted')) (rw c.node_count-n.ensures at c.list_live-list.ensures)

live_fits : (c : After-list_live-list) → c.count_live-count.result ≤ length c.list_live-list.result
live_fits c = fits_in c.count_live-count.result c.list_live-list.result _ ((let counted' : let g = c.args in c.count_live-count.result ≡ length (live_nodes g.marks.now (node_count g.columns.now.code.family g.columns.now.code.k)) = c.count_live-count.ensures ∙ rw c.node_count-n.ensures in counted')) (live_list c)

-- what the search gives, as the round's next repair
next_found : (c : After-find_next) → let g = c.args in
    c.find_next.result ≡ found_in g.columns.now.code.family g.columns.now.code.k c.loop-count.free (missing_counts g.columns.now.code.family g.columns.now.code.k g.marks.now) (first_from (is_repaired g.columns.now.code.family g.columns.now.code.k g.marks.now c.loop-count.free) (suc c.loop-count.node) (node_count g.columns.now.code.family g.columns.now.code.k - c.loop-count.node))
next_found c =
    let b = c.loop-count.invariant in
    found_next _ _ c.args.columns.now.code.in_range c.args.marks.now c.loop-count.free b.1.live c.loop-count.node b.1.within b.0 c.find_next.ensures

-- the repair that was found
found : (c : In-Some) → let g = c.args in Next g.columns.now.code.family g.columns.now.code.k g.marks.now g.round c.loop-count.free c.loop-count.node c.in-Some.found
found c =
    next_some _ _ _ _ _ _ _ (sym c.in-Some.is ∙ next_found (search)) c.args.columns.now.code.in_range c.loop-count.invariant.1.within

-- how many nodes may be read
free_count : (c : At-loop-count) → length (take c.loop-count.count c.loop-count.list) ≡ c.loop-count.count
free_count c = rw length-take (omega (arith, c.loop-count.invariant.1.fits))

pub count_live-count-requires : goal.count_live-count-requires
count_live-count-requires c = omega (arith, c.node_count-n.ensures, node_few (goal.at.count_live-count-requires c).Start)

pub overflow_sub-missing : goal.overflow_sub-missing
overflow_sub-missing c = omega (arith, counted (goal.at.overflow_sub-missing c).After-count_live-count, c.node_count-n.ensures, live_nodes_few c.args.marks.now (node_count c.args.columns.now.code.family c.args.columns.now.code.k))

pub list_live-list-requires : goal.list_live-list-requires
list_live-list-requires c = omega (arith, c.node_count-n.ensures, node_few (goal.at.list_live-list-requires c).Start)

pub loop-count-init : goal.loop-count-init
loop-count-init c =
    (c.count_missing-counts.ensures, round_none (search) (live_fits (goal.at.loop-count-init c).After-list_live-list) (live_list (goal.at.loop-count-init c).After-list_live-list))

pub slice_bounds-put_step-end : goal.slice_bounds-put_step-end
slice_bounds-put_step-end c = round_room c.loop-count.invariant.1 _ (found (goal.at.slice_bounds-put_step-end c).In-Some)

pub bounds-next-node : goal.bounds-next-node
bounds-next-node c = omega (arith, (found (goal.at.bounds-next-node c).In-Some).last, node_few (goal.at.bounds-next-node c).Start)

pub loop-count-smaller : goal.loop-count-smaller
loop-count-smaller c =
    let n = found (goal.at.loop-count-smaller c).In-Some in
    omega (arith, n.above, n.last, c.node_count-n.ensures)

pub loop-count-preserved : goal.loop-count-preserved
loop-count-preserved c =
    let b = c.loop-count.invariant in
    let w = c.read_pair.ensures in (
      b.0,
      rw (c.put_step.ensures, add-sub_cancel_left (c.args.from + 4 * c.loop-count.steps) 4, w.free_after)
          (round_more b.1 _ (found (goal.at.loop-count-preserved c).In-Some) _ (omega (arith, c.read_pair.auto.list, free_count (goal.at.loop-count-preserved c).At-loop-count)) (rw (free_count (goal.at.loop-count-preserved c).At-loop-count, c.node_count-n.ensures) at w.list_after)),
    )

-- where every node is live, or fewer than two are, the round has no steps
pub returns-then-count-n : goal.returns-then-count-n
unfolding step_bytes flat_map set_live
returns-then-count-n c =
    let g = c.args in
    let n = c.node_count-n.ensures in
    let l = c.count_live-count.ensures in
    let s : round_steps once g.columns.now.code.family g.columns.now.code.k g.marks.now g.round ≡ [] =
    elim c.then-count-n.branch [
      | then-count-n-via-then-count-n w ↦ all_live once g.columns.now.code.family g.columns.now.code.k g.marks.now g.round (omega (arith, rw n at (sym l ∙ w.if-count-n.true)))
      | then-count-n-via-else-count-n+then-count-lt2 w ↦ all_read once g.columns.now.code.family g.columns.now.code.k g.marks.now c.args.columns.now.code.in_range g.round g.marks.now (missing_nodes g.marks.now (node_count g.columns.now.code.family g.columns.now.code.k)) (omega (arith, rw n at (sym l), w.if-count-lt2.true))
    ] in
    rw s (record { value = refl; out_after = sym (take-append-drop g.from g.out.now); next_after = refl })

pub returns-in-None : goal.returns-in-None
returns-in-None c =
    let w = c.loop-count.invariant.1 in
    rw (round_done w (next_none _ _ _ _ _ _ _ (sym c.in-None.is ∙ next_found (goal.at.returns-in-None c).After-find_next))) (record { value = w.count_is; out_after = w.bytes; next_after = w.marked })

pub put_step-requires : goal.put_step-requires
put_step-requires c =
    let n = found (goal.at.put_step-requires c).In-Some in
    let h = node_few (goal.at.put_step-requires c).Start in
    let at = c.args.from + 4 * c.loop-count.steps in
    record { out_len = rw (add-sub_cancel_left at 4) (length_mid c.loop-count.out at 4 (slice_bounds-put_step-end (goal.at.put_step-requires c).In-Some)); round_bound = (omega (arith, c.requires.round_bound, round_some c.loop-count.invariant.1 _ n), omega (arith, n.last), omega (arith, n.smaller_node.node.last), omega (arith, n.larger_node.node.last)) }

-- the last step where every missing node is repaired by it
pub returns-then-steps-missing : goal.returns-then-steps-missing
returns-then-steps-missing c =
    let l = counted (goal.at.returns-then-steps-missing c).After-count_live-count in
    let q = round_last c.loop-count.invariant.1 _ (found (goal.at.returns-then-steps-missing c).In-Some) (omega (arith, l, c.node_count-n.ensures, c.if-steps-missing.true)) in
    rw (c.put_step.ensures, add-sub_cancel_left (c.args.from + 4 * c.loop-count.steps) 4) (record { value = q.0; out_after = q.1; next_after = q.2 })

pub read_pair-requires : goal.read_pair-requires
read_pair-requires c =
    let n = found (goal.at.read_pair-requires c).In-Some in
    let m : After-node_count-n = (goal.at.read_pair-requires c).After-node_count-n in
    let h = node_few (goal.at.read_pair-requires c).Start in record { le_smaller = (n.smaller_node.node.first, n.order, rw m.node_count-n.ensures n.larger_node.node.last, omega (arith, m.node_count-n.ensures)); smaller_value = (n.smaller_node.live, n.larger_node.live, rw m.node_count-n.ensures c.loop-count.invariant.1.nodes) }

pub returns : goal.returns
returns c =
    let w = c.loop-count.invariant.1 in
    let few = ap length w.nodes in
    rw (round_done w (all_read once _ _ c.args.marks.now c.args.columns.now.code.in_range c.args.round c.loop-count.free _ (omega (arith, few, free_count (goal.at.returns c).At-loop-count)))) (record { value = w.count_is; out_after = w.bytes; next_after = w.marked })
