-- `counts::sum` meets its contract: it sums each count, and 256 counts of 16 bits are within 32 bits.
use mathlib.Core.Path.{◌≡◌, sym, ◌∙◌}
use Rattle.std.proofs.Common.{rules, sum}
use Rattle.std.proofs.iter.runs.Made.{chains}
use Rattle.std.proofs.iter.runs.Sources.{sums}
use Rattle.counts.proofs.Laws.{sum_is}
use Rattle.counts.proofs.sum.Goals as goal

pub sum-requires-clause-fits : goal.sum-requires-clause-fits
sum-requires-clause-fits c = search (rules, sums)

pub returns : goal.returns
returns c =
    let s : c.sum.result ≡ sum c.args.counts = search (rules, chains) in
    s ∙ sym (sum_is c.args.counts)
