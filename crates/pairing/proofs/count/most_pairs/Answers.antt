-- `pairing::count::most_pairs` meets its contract, family by family.
use native.Mathlib.Omega.{arith}
use Rattle.families.specs.Families.{node_count}
use Rattle.families.proofs.Laws.{short}
use lib.Pow.{pow_mono}
use Rattle.pairing.specs.Pairs.{most_pairs}
use Rattle.pairing.proofs.count.most_pairs.Goals as goal

pub overflow_sub-result : goal.overflow_sub-result
unfolding node_count
overflow_sub-result c =
    let n = (rw c.in-Simplex.is at c.node_count.ensures) in
    omega (arith, n, pow_mono {i = 2} {j = c.args.code.k} (short _ _ c.args.code.in_range).0)

pub returns-in-Simplex : goal.returns-in-Simplex
unfolding most_pairs
returns-in-Simplex c = let n = (rw c.in-Simplex.is at c.node_count.ensures) in rw (c.in-Simplex.is, n)

pub returns-in-WeightTwo : goal.returns-in-WeightTwo
unfolding most_pairs
returns-in-WeightTwo c = rw c.in-WeightTwo.is

pub returns-in-Tetrahedron : goal.returns-in-Tetrahedron
unfolding most_pairs
returns-in-Tetrahedron c = rw c.in-Tetrahedron.is
