-- `pairing::search::find_next` meets its contract: the walk leaves behind it no node whose count is not 0 and that has a pair, and at a node
-- the search leaves behind it no free node with a free partner.
use mathlib.Core.Path.{sym, ◌∙◌}
use Prim.Native.Nat.{◌≤◌}
use native.Mathlib.Omega.{arith}
use Rattle.families.specs.Families.{node_count}
use Rattle.families.proofs.Laws.{few}
use Rattle.pairing.proofs.SearchLaws.{walk_done, walk_node, walk_skip, search_none, walk_over, search_node, search_more, search_found}
use Rattle.pairing.proofs.search.find_next.Goals as goal
use Rattle.pairing.proofs.search.find_next.Goals.{In-loop-node}

-- the next node is a node
below : (c : In-loop-node) → let g = c.args.free.columns.now.code in c.loop-node.node ≤ node_count g.family g.k
below c = omega (arith, c.node_count-n.ensures)

few_before : (c : In-loop-node) → c.loop-node.node ≤ 255
few_before c = omega (arith, below c, few _ _ c.loop-node.invariant.range)

pub overflow_step-node : goal.overflow_step-node
overflow_step-node c = omega (arith, few _ _ c.args.free.columns.now.code.in_range)

pub overflow_add-node-end : goal.overflow_add-node-end
overflow_add-node-end c = omega (arith, c.node_count-n.ensures, few _ _ c.args.free.columns.now.code.in_range)

pub offset_bounds-counts-node : goal.offset_bounds-counts-node
offset_bounds-counts-node c = omega (arith, few_before (goal.at.offset_bounds-counts-node c).In-loop-node)

pub bounds-counts-node : goal.bounds-counts-node
bounds-counts-node c = omega (arith, few_before (goal.at.bounds-counts-node c).In-loop-node)

pub loop-node-preserved-then-count-eq0 : goal.loop-node-preserved-then-count-eq0
loop-node-preserved-then-count-eq0 c =
    walk_skip c.loop-node.invariant (below (goal.at.loop-node-preserved-then-count-eq0 c).In-loop-node) (sym c.from-count.ensures ∙ c.if-count-eq0.true)

pub loop-a-init : goal.loop-a-init
loop-a-init c =
    search_none c.loop-node.invariant (below (goal.at.loop-a-init c).In-loop-node)

pub loop-node-preserved : goal.loop-node-preserved
loop-node-preserved c =
    walk_over c.loop-node.invariant (below (goal.at.loop-node-preserved c).In-loop-node) c.loop-a.invariant (omega arith)

pub loop-a-preserved : goal.loop-a-preserved
loop-a-preserved c =
    search_more c.loop-node.invariant (below (goal.at.loop-a-preserved c).In-loop-node) c.loop-a.invariant (omega arith) c.from-smaller.ensures c.live_partner-larger.ensures (omega arith)

pub returns-then-larger-ne0 : goal.returns-then-larger-ne0
returns-then-larger-ne0 c =
    rw c.from-count.ensures
    (search_found c.loop-node.invariant (below (goal.at.returns-then-larger-ne0 c).In-loop-node) c.loop-a.invariant (omega arith) c.from-smaller.ensures c.live_partner-larger.ensures (λ z. c.if-count-eq0.false (c.from-count.ensures ∙ z)) c.if-larger-ne0.true)

pub returns : goal.returns
returns c =
    walk_done c.loop-node.invariant (omega (arith, c.node_count-n.ensures))

pub live_partner-larger-requires : goal.live_partner-larger-requires
live_partner-larger-requires c =
    let w = c.loop-node.invariant in
    let l = below (goal.at.live_partner-larger-requires c).In-loop-node in
    (walk_node w l, rw c.from-smaller.ensures (search_node w l c.loop-a.invariant (omega arith)))
