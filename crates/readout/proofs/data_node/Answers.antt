-- `readout::data_node` meets its contract: every data block has a node of its own.
use mathlib.Core.Path.{◌∙◌, ap}
use Rattle.families.specs.Families.{node_of}
use Rattle.readout.proofs.Laws.{data_node_lem}
use native.Mathlib.Omega.{arith}
use Rattle.readout.proofs.data_node.Goals as goal

pub returns : goal.returns
returns c =
    let g = c.args in
    let p = c.requires in
    let e = c.node_of.ensures ∙ ap (node_of g.code.family g.code.k) c.power.ensures in
    let d = data_node_lem g.code.family g.code.k g.i g.code.in_range p.0 p.1 in
    (e, omega (arith, e, d.is_node.first), omega (arith, e, d.is_node.last))
