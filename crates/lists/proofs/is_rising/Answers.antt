-- `lists::is_rising` meets its contract: before each turn the list rises exactly when no fall was seen and what is left of it rises.
use mathlib.Core.Path.{◌≡◌, sym, ◌∙◌}
use mathlib.Core.Bool.{and-true}
use Prim.Native.Nat.{◌+◌, ◌-◌}
use native.Mathlib.Omega.{arith}
use Rattle.lists.proofs.Walks.{rises_next, rises_end}
use Rattle.lists.proofs.is_rising.Goals as goal

pub loop-i-preserved : goal.loop-i-preserved
loop-i-preserved c =
    let next : c.loop-i.i + 1 - 1 ≡ c.loop-i.i = omega arith in
    rw next (c.loop-i.invariant ∙ rises_next c.loop-i.rising c.args.list.now c.loop-i.i (omega arith) (omega arith))

pub returns : goal.returns
returns c =
    sym (c.loop-i.invariant ∙ simp (rises_end c.args.list.now (c.loop-i.i - 1) (omega arith), and-true))
