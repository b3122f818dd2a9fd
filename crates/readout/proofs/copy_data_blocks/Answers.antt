-- `readout::copy_data_blocks` meets its contract: before each turn the data blocks before i are in place.
use mathlib.Core.Path.{◌≡◌, sym, ap, ◌∙◌}
use Prim.Native.Nat.{ℕ, ◌+◌, ◌-◌, ◌*◌}
use native.Mathlib.Nat.{zero-mul}
use native.Mathlib.Omega.{arith}
use lib.Seq.{take_all}
use Rattle.families.specs.Families.{node_count}
use Rattle.families.proofs.Laws.{short}
use Rattle.blocks.specs.Blocks.{joined, block_of, with_block}
use Rattle.blocks.specs.Inner.{InBuffer}
use Rattle.blocks.proofs.BlockLaws.{in_buffer}
use Rattle.readout.specs.DataBlocks.{data_blocks}
use Rattle.readout.proofs.Laws.{one_more}
use Rattle.readout.proofs.copy_data_blocks.Goals as goal
use Rattle.readout.proofs.copy_data_blocks.Goals.{After-data_node-j}

source : (c : After-data_node-j) → InBuffer c.args.len c.args.nodes.now c.data_node-j.result
source c = in_buffer _ _ (node_count c.args.code.family c.args.code.k) _ c.requires.0 c.data_node-j.ensures.1 c.data_node-j.ensures.2

target : (c : After-data_node-j) → InBuffer c.args.len c.loop-i.object c.loop-i.i
target c = in_buffer _ _ c.args.code.k _ (c.loop-i.auto.object ∙ c.requires.1) (omega arith) (omega arith)

pub overflow_add-i-end : goal.overflow_add-i-end
overflow_add-i-end c = omega (arith, short _ _ c.args.code.in_range)

pub loop-i-init : goal.loop-i-init
unfolding joined
loop-i-init c = rw (zero-mul c.args.len)

pub copy_between-requires : goal.copy_between-requires
copy_between-requires c = let a : After-data_node-j = (goal.at.copy_between-requires c).After-data_node-j in (source a, target a)

pub loop-i-preserved : goal.loop-i-preserved
loop-i-preserved c =
    let a : After-data_node-j = (goal.at.loop-i-preserved c).After-data_node-j in
    let l = c.loop-i in
    let g = c.args in
    let j = c.data_node-j.ensures.0 in
    let e : l.i + 1 - 1 ≡ l.i = omega arith in
    let b = c.copy_between.ensures ∙ ap (λ (x : ℕ). with_block g.len l.object l.i (block_of g.len g.nodes.now x)) j in
    rw (e, b) (one_more g.code.family g.code.k g.len g.nodes.now l.object l.i (omega arith) (target a) (rw j at (source a)) l.invariant)

pub returns : goal.returns
returns c =
    let g = c.args in
    let l = c.loop-i in
    let last : l.i - 1 ≡ g.code.k = omega arith in
    sym (take_all ((l.i - 1) * g.len) l.object (rw last (omega (arith, l.auto.object, c.requires.1)))) ∙ l.invariant ∙ ap (data_blocks g.code.family g.code.k g.len g.nodes.now) last
