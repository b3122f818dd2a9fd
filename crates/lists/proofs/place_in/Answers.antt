-- `lists::place_in` meets its contract: it asks of each number whether it is the node's.
use mathlib.Core.Path.{◌≡◌, sym, ap, ◌∙◌}
use borrow.Author.Tests.{tests}
use lib.ListN.{length}
use Rattle.std.proofs.Common.{rules, ℕ, Option, unwrap_or}
use Rattle.std.proofs.lemmas.Iterator.{YieldsList-from_slice, IsFirst-from_position}
use Rattle.lists.specs.Lists.{place_in}
use Rattle.lists.proofs.Walks.{place_first}
use Rattle.lists.proofs.place_in.Goals as goal
use Rattle.lists.proofs.place_in.Goals.{After-position}

-- the place, by the first number that is the node's
place_is : (c : After-position) → place_in c.args.list.now c.args.j ≡ unwrap_or c.position.result (length c.args.list.now)
place_is c =
    let j = c.args.j in
    let found = IsFirst-from_position _ _ c.position.result (λ i. i ≡ j) (λ i. i ≡ j → ⊥) c.position.ensures.ran (YieldsList-from_slice c.args.list.now cc) (λ x q k. search (rules, tests)) (λ x q k. search (rules, tests)) in
    place_first j c.args.list.now c.position.result found

pub returns-in-Some : goal.returns-in-Some
returns-in-Some c =
    sym (place_is (goal.at.returns-in-Some c).After-position ∙ ap (λ (r : Option ℕ). unwrap_or r (length c.args.list.now)) c.in-Some.is)

pub returns-in-None : goal.returns-in-None
returns-in-None c =
    sym (place_is (goal.at.returns-in-None c).After-position ∙ ap (λ (r : Option ℕ). unwrap_or r (length c.args.list.now)) c.in-None.is)
