-- `lists::live_outside` meets its contract: mark 0 is asked first, and then those above n.
use mathlib.Core.Path.{refl, sym, ap, ◌∙◌}
use mathlib.Core.Bool.{false}
use Prim.Native.Nat.{◌+◌, ◌-◌}
use native.Mathlib.Omega.{arith}
use borrow.Author.Tests.{tests}
use lib.ListN.{drop, take, length-drop}
use lib.Seq.{take_all}
use Rattle.std.proofs.Common.{rules}
use Rattle.std.proofs.lemmas.Iterator.{YieldsList-from_slice}
use Rattle.std.proofs.lemmas.Iterator.Search.{any_from_yields_List}
use Rattle.std.specs.List.{list_any}
use Rattle.lists.specs.Lists.{is_live}
use Rattle.lists.proofs.Walks.{passes_each}
use Rattle.lists.proofs.live_outside.Goals as goal

pub returns-then-marks-offset0 : goal.returns-then-marks-offset0
returns-then-marks-offset0 c =
    let m = c.args.marks.now in
    sym (passes_each c.args.n (is_live m) (λ live. live) false m c.told-marks c.requires (λ i l. refl) ∙ simp c.if-marks-offset0.true)

pub returns-else-marks-offset0 : goal.returns-else-marks-offset0
returns-else-marks-offset0 c =
    let m = c.args.marks.now in
    let above = take (256 - (c.args.n + 1)) (drop (c.args.n + 1) m) in
    let asked = any_from_yields_List (λ live. live) _ _ c.any.result c.any.ensures.ran (YieldsList-from_slice above c.iter.ensures.rest) (λ x b q k. search (rules, tests)) in
    let all = passes_each c.args.n (is_live m) (λ live. live) false m c.told-marks c.requires (λ i l. refl) in
    asked ∙ ap (list_any (λ live. live)) (take_all (256 - (c.args.n + 1)) (drop (c.args.n + 1) m) (omega (arith, length-drop (c.args.n + 1) m))) ∙ sym (all ∙ simp c.if-marks-offset0.false)
