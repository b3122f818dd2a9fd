use Rattle.stdio.proofs.ReadOn.{consumes_on}
use Rattle.stdio.proofs.read_to_end.Goals as goal

pub loop-count-preserved : goal.loop-count-preserved
loop-count-preserved g c =
    let read = c.in_ok-now.ensures in
    record {
      within = read.after.within;
      bytes = consumes_on _ _ _ _ _ _ _ read.after.grows read.front c.loop-count.invariant.bytes read.bytes;
    }
