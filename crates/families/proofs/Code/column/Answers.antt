-- `families::Code::column` meets its contract, family by family.
use mathlib.Core.Path.{subst}
use Rattle.families.specs.Families.{IsNode, node_count, column_of}
use Rattle.families.specs.declared.Family.{Family}
use Rattle.families.proofs.Code.column.Goals as goal

pub column-requires-in-Tetrahedron : goal.column-requires-in-Tetrahedron
unfolding node_count
column-requires-in-Tetrahedron c =
    let n = subst (λ (f : Family). IsNode f c.args.self.k c.args.j) c.in-Tetrahedron.is c.requires in
    (n.first, n.last)

pub returns-in-Simplex : goal.returns-in-Simplex
unfolding column_of
returns-in-Simplex c = rw c.in-Simplex.is
