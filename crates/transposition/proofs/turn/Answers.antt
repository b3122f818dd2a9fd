-- `transposition::turn` meets its contract: after so many shuffles the tile is the transpose of 2 to that power of rows.
use mathlib.Core.Path.{sym, ◌∙◌}
use native.Mathlib.Omega.{arith}
use borrow.Author.Rules.{rules}
use Rattle.transposition.proofs.TransposeLaws.{transposed_one, transposed_more}
use Rattle.transposition.proofs.turn.Goals as goal

pub loop-init : goal.loop-init
loop-init g c = sym (transposed_one 128 c.args.tile (search rules))

pub loop-preserved : goal.loop-preserved
loop-preserved g c = c.shuffle-shuffled.ensures ∙ rw c.loop.invariant (transposed_more c.loop.counter c.args.tile (omega arith))
