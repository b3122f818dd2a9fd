-- `pairing::count::pairs_within` meets its contract: before each turn what is left to be counted is of two nodes from place i on.
use Prim.Native.Nat.{◌+◌}
use native.Mathlib.Omega.{arith}
use lib.ListN.{length-drop}
use Rattle.std.proofs.lemmas.List.{take_rest}
use Rattle.pairing.proofs.ListedLaws.{node_listed, rest_inside}
use Rattle.pairing.proofs.TableLaws.{tabling_none, tabling_more, tabling_done}
use Rattle.pairing.proofs.count.pairs_within.Goals as goal

pub loop-i-init : goal.loop-i-init
loop-i-init c = tabling_none _ _ _

pub count_thirds-requires : goal.count_thirds-requires
count_thirds-requires c =
    let p = c.requires in
    rw take_rest
    (record {
      first = rw c.from.ensures (node_listed _ _ c.args.list.now _ p.0 (omega arith));
      list_value = rest_inside _ _ c.args.list.now p.0;
      list_bound = omega (arith, c.loop-i.invariant.few, length-drop (c.loop-i.i + 1) c.args.list.now);
    })

pub loop-i-preserved : goal.loop-i-preserved
loop-i-preserved c =
    rw (c.count_thirds.ensures, c.from.ensures, take_rest) (tabling_more c.loop-i.invariant c.requires.1 (omega arith))

pub returns : goal.returns
returns c = tabling_done c.loop-i.invariant (omega arith)
