-- `pairing::partner::live_partner` meets its contract: the only node that can be it is the one with the XOR of the columns.
use native.Mathlib.Omega.{arith}
use Rattle.pairing.proofs.PairLaws.{third_few, live_none, live_is}
use Rattle.pairing.proofs.partner.live_partner.Goals as goal

pub bounds-marks-b : goal.bounds-marks-b
bounds-marks-b c = omega (arith, c.third_node-b.ensures, third_few _ _ c.args.columns.now.code.in_range c.args.j c.args.a)

pub returns-else-marks-b : goal.returns-else-marks-b
returns-else-marks-b c = live_none _ _ c.args.columns.now.code.in_range _ _ _ c.third_node-b.ensures c.if-marks-b.false

pub returns-then-marks-b : goal.returns-then-marks-b
returns-then-marks-b c = live_is _ _ c.args.columns.now.code.in_range _ _ _ c.third_node-b.ensures c.if-marks-b.true
