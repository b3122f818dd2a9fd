-- `repair::Session::draw_up` meets its contract: the plan is that of the session's family, and has a step at most for each node.
use mathlib.Core.Path.{◌≡◌}
use native.Mathlib.Omega.{arith}
use borrow.Author.Rules.{rules}
use lib.ListN.{length}
use Rattle.families.proofs.Laws.{few}
use Rattle.families.specs.Families.{family_of, KInRange}
use Rattle.planning.specs.Inner.{planned_of}
use Rattle.repair.proofs.RepairsLaws.{made_few}
use Rattle.repair.proofs.Session.draw_up.Goals as goal

pub make_plan-requires : goal.make_plan-requires
make_plan-requires c = omega (arith, few _ _ c.args.code.in_range, c.requires.1)

pub returns-clause-value : goal.returns-clause-value
returns-clause-value c =
    let s = c.args.self in
    let e = c.requires.0 in
    let marks : length s.live ≡ 256 = search rules in
    let is : c.make_plan.result ≡ planned_of (family_of s.family) s.k s.live = rw (e.family_is, e.k_is) at c.make_plan.ensures.value in
    let range : KInRange (family_of s.family) s.k = rw (e.family_is, e.k_is) at c.args.code.in_range in
    (is, made_few s c.make_plan.result is range marks)
