-- For inner functions: a step by what the steps before it have come to, and the steps before the first bad one.
use Rattle.std.specs.Prelude.{ℕ, Bool, cond, not, ◌&&◌, List, [], ◌∷◌, ◌++◌, eqb, ltb}
use Rattle.base.specs.Numbers.{numbered}
use Rattle.families.specs.declared.Family.{Family}
use Rattle.families.specs.Families.{node_count, are_related}
use Rattle.lists.specs.Lists.{some_outside, is_live}
use Rattle.planning.specs.Plan.{Step, marks_after}
use Rattle.validation.specs.declared.Validated.{Validated}
use Rattle.validation.specs.Good.{follows, is_good, first_bad}

-- the smaller stands before the larger, the node is missing, and its pair is related to it and may be read
abbrev pub serves : Family → ℕ → List Bool → List Bool → Step → Bool
serves f k live free step =
    ltb step.smaller step.larger
    && (not (is_live live step.node)
    && (are_related f k step.smaller step.larger step.node
    && (is_live free step.smaller && is_live free step.larger)))

-- a step is good by the round of the one before it, the marks now, and the nodes that may be read in its own round
unfoldable pub good_by : Family → ℕ → ℕ → List Bool → List Bool → Step → Bool
good_by f k last live free step =
    follows last step.round
    && (not (some_outside (node_count f k) (step.node ∷ step.smaller ∷ step.larger ∷ []))
    && serves f k live free step)

-- the nodes that may be read in round r: those that the steps of the round have left, or every live one where it begins
abbrev pub free_in : ℕ → ℕ → List Bool → List Bool → List Bool
free_in last r live free = cond (eqb r last) free live

-- the steps before the first bad one, of steps that come after others
unfoldable pub good_steps : Family → ℕ → List Bool → List Step → List Step → List Step
good_steps f k marks earlier [] = []
good_steps f k marks earlier (step ∷ steps) = cond (is_good f k marks earlier step) (step ∷ good_steps f k marks (earlier ++ step ∷ []) steps) []

-- what a check comes to: the first bad step, if there is one, and the marks once the steps before it are made
abbrev pub validated_of : Family → ℕ → List Bool → List Step → Validated
validated_of f k marks plan = record { bad = numbered (first_bad f k marks plan); live = marks_after marks (good_steps f k marks [] plan) }
