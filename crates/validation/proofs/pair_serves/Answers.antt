-- `validation::pair_serves` meets its contract: its tests are those of the definition, one by one.
use Rattle.validation.proofs.ByteLaws.{three_bytes}
use Rattle.validation.proofs.GoodLaws.{nodes_are}
use Rattle.planning.specs.Made.{step_of_bytes}
use Rattle.validation.proofs.pair_serves.Goals as goal

pub related-requires : goal.related-requires
related-requires c =
    let n = nodes_are _ _ (step_of_bytes c.args.step.now) (rw (three_bytes c.args.step.now c.requires.0) at c.requires.1) in
    record { first = rw c.from-smaller.ensures n.smaller; second = rw c.from-larger.ensures n.larger; third = rw c.from-node.ensures n.node }
