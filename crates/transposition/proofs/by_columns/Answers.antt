-- `transposition::by_columns` meets its contract: before turn c the first c columns are right.
use mathlib.Core.Path.{◌∙◌}
use native.Mathlib.Omega.{arith}
use Rattle.transposition.specs.Inner.{transposed}
use Rattle.transposition.proofs.MatrixLaws.{column_goal, column_more, all_columns}
use Rattle.transposition.proofs.by_columns.Goals as goal

pub loop-c-preserved : goal.loop-c-preserved
loop-c-preserved c =
    let g = c.args in
    let n = c.copy_strided.ensures.nears (transposed g.rows g.columns g.src.now) (λ i h. column_goal g.rows g.columns g.src.now c.requires.0 c.loop-c.c i (omega arith) h) in
    column_more c.loop-c.invariant n

pub returns : goal.returns
returns c =
    let g = c.args in
    all_columns g.rows g.columns g.src.now c.requires.0 c.loop-c.dst c.loop-c.c (c.loop-c.auto.dst ∙ c.requires.1) (omega arith) c.loop-c.invariant
