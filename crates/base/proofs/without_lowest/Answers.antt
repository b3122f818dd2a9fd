-- `base::without_lowest` meets its contract: the law of the lowest bit, for a machine word.
use native.Mathlib.Omega.{arith}
use Rattle.base.proofs.LowestBit as laws
use Rattle.base.proofs.without_lowest.Goals as goal

pub returns : goal.returns
returns c = laws.without_lowest 64 c.args.x c.requires (omega (arith, c.ranges.x))
