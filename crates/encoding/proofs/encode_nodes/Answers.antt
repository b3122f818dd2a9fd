-- `encoding::encode_nodes` meets its contract: before each turn the blocks of the nodes before node j are in place.
use mathlib.Core.Path.{◌≡◌, sym, ◌∙◌, ap}
use Prim.Native.Nat.{◌+◌, ◌-◌, ◌*◌}
use native.Mathlib.Nat.{zero-mul}
use native.Mathlib.Omega.{arith}
use lib.Seq.{take_all}
use Rattle.families.specs.Families.{node_count}
use Rattle.families.proofs.Laws.{few}
use Rattle.blocks.specs.Blocks.{joined}
use Rattle.encoding.specs.Matrix.{nodes_buffer}
use Rattle.encoding.specs.Inner.{node_blocks, BeforeNode}
use Rattle.encoding.proofs.Nodes.{inside, one_more}
use Rattle.encoding.proofs.encode_nodes.Goals as goal
use Rattle.encoding.proofs.encode_nodes.Goals.{In-loop-j}

-- the blocks of the nodes before node j are in place
at_node : (c : In-loop-j) → let g = c.args in BeforeNode g.code.family g.code.k g.len g.object.now c.loop-j.nodes c.loop-j.j
at_node c =
    record {
      range = c.args.code.in_range;
      node = record { first = omega arith; last = omega (arith, c.node_count-j-end.ensures) };
      object_size = c.requires.0;
      nodes_size = c.loop-j.auto.nodes ∙ c.requires.1;
      done = c.loop-j.invariant;
    }

pub overflow_add-j-end : goal.overflow_add-j-end
overflow_add-j-end c = omega (arith, c.node_count-j-end.ensures, few _ _ c.args.code.in_range)

pub loop-j-init : goal.loop-j-init
unfolding joined
loop-j-init c = rw (zero-mul c.args.len)

pub encode_node-requires : goal.encode_node-requires
encode_node-requires c = rw c.new-columns.ensures (at_node (goal.at.encode_node-requires c).In-loop-j)

pub loop-j-preserved : goal.loop-j-preserved
loop-j-preserved c =
    let g = c.args in
    let l = c.loop-j in
    let b = at_node (goal.at.loop-j-preserved c).In-loop-j in
    let p : l.j + 1 - 1 ≡ l.j = omega arith in
    rw (p, c.encode_node.ensures, c.new-columns.ensures) (one_more g.code.family g.code.k g.len g.object.now b.object_size l.nodes l.j (inside b l.j b.node.first (omega arith)) b.done)

pub returns : goal.returns
unfolding nodes_buffer
returns c =
    let g = c.args in
    let l = c.loop-j in
    let m : l.j - 1 ≡ node_count g.code.family g.code.k = omega (arith, c.node_count-j-end.ensures) in
    sym (take_all ((l.j - 1) * g.len) l.nodes (rw m (omega (arith, l.auto.nodes, c.requires.1)))) ∙ l.invariant ∙ ap (node_blocks g.code.family g.code.k g.len g.object.now) m
