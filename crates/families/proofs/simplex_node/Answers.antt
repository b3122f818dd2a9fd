-- `families::simplex_node` meets its contract: column c is node c's, and every column is below 2^k.
use mathlib.Core.Path.{sym}
use Rattle.families.proofs.Laws.{above_none, simplex_below}
use Rattle.families.specs.declared.Family.TheVariants.{Simplex}
use native.Mathlib.Omega.{arith}
use Rattle.families.proofs.simplex_node.Goals as goal

pub returns-then-power-column : goal.returns-then-power-column
returns-then-power-column c = sym (above_none Simplex _ _ c.requires (omega (arith, c.power.ensures)))

pub returns : goal.returns
returns c = sym (simplex_below _ _ c.requires (omega (arith, c.power.ensures)))
