-- `pairing::count::missing_with_third` meets its contract: in simplex every missing node but j itself has a third node with it, and in
-- weight-two the table tells how many.
use mathlib.Core.Path.{◌≡◌, refl, subst}
use mathlib.Core.Bool.{Bool, true, false, cond, not}
use Prim.Native.Nat.{◌+◌}
use native.Mathlib.Omega.{arith}
use lib.ListN.{length}
use mir.Val.{bool_byte}
use Rattle.families.specs.declared.Family.{Family}
use Rattle.families.specs.declared.Family.TheVariants.{Simplex}
use Rattle.families.specs.Families.{KInRange, IsNode}
use Rattle.families.proofs.Laws.{few}
use Rattle.lists.specs.Lists.{is_live}
use Rattle.lists.proofs.Laws.{nodes_inside}
use Rattle.pairing.specs.Inner.{with_third}
use Rattle.pairing.proofs.CountLaws.{simplex_missing}
use Rattle.pairing.proofs.count.missing_with_third.Goals as goal
use Rattle.pairing.proofs.count.missing_with_third.Goals.{Start}

bit : (b : Bool) → bool_byte b ≡ cond b 1 0
bit true = refl
bit false = refl

-- where the family is simplex
all_but_one : (e : Start) → e.args.columns.now.code.family ≡ Simplex
    → with_third e.args.columns.now.code.family e.args.columns.now.code.k e.args.missing.now e.args.j + bool_byte (not (is_live e.args.marks.now e.args.j)) ≡ length e.args.missing.now
all_but_one e is =
    let p = e.requires in
    let g = e.args.columns.now.code in
    rw (p.missing_value, bit (not (is_live e.args.marks.now e.args.j)), is)
    (simplex_missing g.k (subst (λ (f : Family). KInRange f g.k) is g.in_range) e.args.j (subst (λ (f : Family). IsNode f g.k e.args.j) is p.node) (λ i. not (is_live e.args.marks.now i)))

pub bounds-marks-j : goal.bounds-marks-j
bounds-marks-j c = omega (arith, c.requires.node.last, few _ _ c.args.columns.now.code.in_range)

pub overflow_sub-result : goal.overflow_sub-result
overflow_sub-result c = omega (arith, all_but_one (goal.at.overflow_sub-result c).Start c.in-Simplex.is)

pub returns-in-Simplex : goal.returns-in-Simplex
returns-in-Simplex c = omega (arith, all_but_one (goal.at.returns-in-Simplex c).Start c.in-Simplex.is)

pub with_third-requires : goal.with_third-requires
with_third-requires c = record { node = c.requires.node; list_value = rw c.requires.missing_value (nodes_inside _ _) }
