-- `pairing::ends::degrees` meets its contract: another family has no numbers.
use Rattle.pairing.specs.Inner.{degrees_of}
use Rattle.pairing.proofs.ends.degrees.Goals as goal

pub returns-in-Simplex : goal.returns-in-Simplex
unfolding degrees_of
returns-in-Simplex c = rw c.in-Simplex.is

pub returns-in-Tetrahedron : goal.returns-in-Tetrahedron
unfolding degrees_of
returns-in-Tetrahedron c = rw c.in-Tetrahedron.is
