-- `transposition::by_rows` meets its contract: before turn r the first r rows are right.
use mathlib.Core.Path.{◌∙◌}
use native.Mathlib.Omega.{arith}
use Rattle.transposition.specs.Inner.{transposed}
use Rattle.transposition.proofs.MatrixLaws.{row_goal, rows_more, all_rows}
use Rattle.transposition.proofs.by_rows.Goals as goal

pub loop-r-preserved : goal.loop-r-preserved
loop-r-preserved c =
    let g = c.args in
    let n = c.copy_strided.ensures.nears (transposed g.rows g.columns g.src.now) (λ i h. row_goal g.rows g.columns g.src.now c.requires.0 c.loop-r.r i (omega arith) h) in
    rows_more c.loop-r.invariant n (omega arith)

pub returns : goal.returns
returns c =
    let g = c.args in
    all_rows g.rows g.columns g.src.now c.requires.0 c.loop-r.dst c.loop-r.r (c.loop-r.auto.dst ∙ c.requires.1) (omega arith) c.loop-r.invariant
