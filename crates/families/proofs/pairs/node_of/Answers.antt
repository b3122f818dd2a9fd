-- `families::pairs::node_of` meets its contract: no node's column is 2^k or above.
use mathlib.Core.Path.{sym}
use Rattle.families.proofs.Laws.{above_none}
use Rattle.families.specs.declared.Family.TheVariants.{WeightTwo}
use native.Mathlib.Omega.{arith}
use Rattle.families.proofs.pairs.node_of.Goals as goal

pub returns-then-power-column : goal.returns-then-power-column
returns-then-power-column c = sym (above_none WeightTwo _ _ c.requires (omega (arith, c.power.ensures)))
