-- `families::tetrahedron::node_of` meets its contract, by the computed test of the table; no column is 16 or above.
use mathlib.Core.Path.{sym}
use Rattle.families.proofs.TetrahedronLaws.{node_entry, node_above}
use Rattle.families.proofs.tetrahedron.node_of.Goals as goal

pub returns-then-column-ge16 : goal.returns-then-column-ge16
returns-then-column-ge16 c = sym (node_above _ c.if-column-ge16.true)

pub returns : goal.returns
returns c = sym (node_entry _ c.if-column-ge16.false)
