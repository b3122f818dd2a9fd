-- `families::pairs::unit_column` meets its contract.
use mathlib.Core.Path.{◌≡◌, ◌∙◌, ap}
use Prim.Native.Nat.{suc, ◌-◌}
use Rattle.families.specs.Inner.{unit}
use Rattle.families.proofs.PairLaws.{unit_down}
use native.Mathlib.Omega.{arith}
use Rattle.families.proofs.pairs.unit_column.Goals as goal

pub returns : goal.returns
returns c =
    let i = c.args.i in
    let e : suc i - 1 ≡ i = omega arith in
    rw c.power.ensures (unit_down i 1 (omega arith) ∙ ap unit e)
