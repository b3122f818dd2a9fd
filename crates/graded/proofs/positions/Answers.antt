-- `graded::positions` meets its contract: before each turn the array has the places of what stands in the list from place p on.
use mathlib.Core.Path.{◌≡◌, ap, ◌∙◌}
use mathlib.Core.List.{List}
use Prim.Native.Nat.{ℕ, suc, ◌-◌, ◌^◌, ◌≤◌}
use native.Mathlib.Omega.{arith}
use lib.Pow.{pow_mono}
use lib.ListN.{get_or, set}
use Rattle.lists.proofs.PlaceLaws.{places_from, places_none, places_more, places_all}
use Rattle.graded.specs.Order.{columns_left}
use Rattle.graded.proofs.NumberLaws.{left_size}
use Rattle.graded.proofs.Walks.{array_at, column_in}
use Rattle.graded.proofs.positions.Goals as goal

pub loop-p-init : goal.loop-p-init
loop-p-init c = places_none (columns_left c.args.k) _ (omega (arith, c.power-p.ensures, left_size c.args.k c.requires))

pub loop-p-preserved : goal.loop-p-preserved
loop-p-preserved c =
    let k = c.args.k in
    let r = c.requires in
    let p = c.loop-p.p - 1 in
    let within : c.loop-p.p ≤ 2 ^ k = omega (arith, c.power-p.ensures) in
    let column = column_in k r p (omega arith) (omega arith) in
    let few = pow_mono {i = k} {j = 8} r.most in
    let node : c.from.result ≡ get_or (columns_left k) (p - 1) 0 =
    c.from.ensures ∙ ap (λ (l : List ℕ). get_or l p 0) c.nodes-nodes.ensures ∙ array_at k r p (omega arith) (omega arith) in
    let e : p ≡ suc (p - 1) = omega arith in
    rw (c.loop-p.invariant, node)
    (ap (λ (i : ℕ). set (places_from (columns_left k) i) (get_or (columns_left k) (p - 1) 0) p) e
    ∙ places_more (columns_left k) (p - 1) (omega (arith, left_size k r)) (omega arith) e)

pub returns : goal.returns
returns c =
    let k = c.args.k in
    let e : c.loop-p.p - 1 ≡ 0 = omega arith in
    c.loop-p.invariant ∙ ap (places_from (columns_left k)) e ∙ places_all (columns_left k)
