-- `families::Code::third_node` meets its contract, family by family: the XOR of two numbers below 2^k is below it, and for simplex such a
-- column is its node's number.
use mathlib.Core.Path.{sym, subst}
use lib.Bits.{xor_lt}
use Rattle.families.specs.Families.{KInRange}
use Rattle.families.specs.declared.Family.{Family}
use Rattle.families.proofs.Laws.{simplex_below}
use Rattle.families.proofs.Code.third_node.Goals as goal

pub node_below-requires : goal.node_below-requires
node_below-requires c =
    let g = c.args in
    (subst (λ (f : Family). KInRange f g.self.k) c.in-WeightTwo.is g.self.in_range, xor_lt g.self.k g.x g.y c.requires.0 c.requires.1)

pub returns-in-Simplex : goal.returns-in-Simplex
returns-in-Simplex c =
    let g = c.args in
    rw c.in-Simplex.is (sym (simplex_below g.self.k _ (subst (λ (f : Family). KInRange f g.self.k) c.in-Simplex.is g.self.in_range) (xor_lt g.self.k g.x g.y c.requires.0 c.requires.1)))
