-- For an inner function: what a plan comes to.
use Rattle.planning.specs.declared.Planned.{Planned}
use Rattle.repair.specs.declared.Totals.{Totals}

abbrev pub totals_of : Planned → Totals
totals_of planned = record { steps = planned.steps; rounds = planned.rounds; left = planned.left }
