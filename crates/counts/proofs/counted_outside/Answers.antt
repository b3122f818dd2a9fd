-- `counts::counted_outside` meets its contract: the count of 0 is asked first, and then those above n.
use mathlib.Core.Path.{refl, sym, ap, ◌∙◌}
use Prim.Native.Nat.{◌+◌, ◌-◌}
use native.Mathlib.Omega.{arith}
use borrow.Author.Tests.{tests, lt-ltb, le-ltb}
use lib.Dec.{ltb}
use lib.ListN.{drop, take, length-drop}
use lib.Seq.{take_all}
use Rattle.std.proofs.Common.{rules}
use Rattle.std.proofs.lemmas.Iterator.{YieldsList-from_slice}
use Rattle.std.proofs.lemmas.Iterator.Search.{any_from_yields_List}
use Rattle.std.specs.List.{list_any}
use Rattle.lists.proofs.Walks.{passes_each}
use Rattle.counts.specs.Counts.{count_of}
use Rattle.counts.proofs.counted_outside.Goals as goal

pub returns-then-counts-gt0 : goal.returns-then-counts-gt0
returns-then-counts-gt0 c =
    let all = passes_each c.args.n (λ j. ltb 0 (count_of c.args.counts j)) (ltb 0) 0 c.args.counts (search rules) c.requires (λ i l. refl) in
    let some = lt-ltb _ _ c.if-counts-gt0.true in
    some ∙ sym (all ∙ simp some)

pub returns-else-counts-gt0 : goal.returns-else-counts-gt0
returns-else-counts-gt0 c =
    let above = take (256 - (c.args.n + 1)) (drop (c.args.n + 1) c.args.counts) in
    let asked = any_from_yields_List (ltb 0) _ _ c.any.result c.any.ensures.ran (YieldsList-from_slice above c.iter.ensures.rest) (λ x b q k. search (rules, tests)) in
    let all = passes_each c.args.n (λ j. ltb 0 (count_of c.args.counts j)) (ltb 0) 0 c.args.counts (search rules) c.requires (λ i l. refl) in
    asked ∙ ap (list_any (ltb 0)) (take_all (256 - (c.args.n + 1)) (drop (c.args.n + 1) c.args.counts) (omega (arith, length-drop (c.args.n + 1) c.args.counts))) ∙ sym (all ∙ simp (le-ltb _ _ c.if-counts-gt0.false))
