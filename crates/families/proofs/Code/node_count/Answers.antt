-- `families::Code::node_count` meets its contract, family by family.
use Rattle.families.specs.Families.{node_count}
use Rattle.families.proofs.Code.node_count.Goals as goal

pub returns-in-Simplex : goal.returns-in-Simplex
unfolding node_count
returns-in-Simplex c = rw (c.in-Simplex.is, c.power.ensures)

pub returns-in-Tetrahedron : goal.returns-in-Tetrahedron
unfolding node_count
returns-in-Tetrahedron c = rw c.in-Tetrahedron.is
