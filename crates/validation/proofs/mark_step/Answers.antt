-- `validation::mark_step` meets its contract.
use Rattle.planning.specs.Plan.{once}
use Rattle.validation.proofs.mark_step.Goals as goal

pub returns : goal.returns
unfolding once
returns c =
    rw (c.from.ensures, c.from-2.ensures, c.from-3.ensures) search
