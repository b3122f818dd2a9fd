-- For inner functions: what a plan comes to, and steps that can be carried out.
use Rattle.std.specs.Prelude.{◌≡◌, Bool, List, [], ◌∷◌, ℕ, length}
use Rattle.families.specs.declared.Family.{Family}
use Rattle.families.specs.Families.{node_count}
use Rattle.planning.specs.Plan.{Step, plan_of, marks_after, last_round, nodes_left}
use Rattle.planning.specs.declared.Planned.{Planned}
use Rattle.blocks.specs.Inner.{InBuffer}

-- ---- what a plan comes to

-- the number of entries, the last entry's round, the nodes missing once all steps are made, and the marks then
abbrev pub planned_of : Family → ℕ → List Bool → Planned
planned_of f k marks =
    record {
      steps = length (plan_of f k marks);
      rounds = last_round (plan_of f k marks);
      left = nodes_left (marks_after marks (plan_of f k marks)) (node_count f k);
      live = marks_after marks (plan_of f k marks);
    }

-- ---- steps to carry out

-- a step whose three blocks lie in the nodes buffer, the one to repair apart from the two others
pub record StepIn (L : ℕ) (nodes : List ℕ) (step : Step) : Type 0 where
  pub node : InBuffer L nodes step.node
  pub smaller : InBuffer L nodes step.smaller
  pub larger : InBuffer L nodes step.larger
  pub not_smaller : step.node ≡ step.smaller → ⊥
  pub not_larger : step.node ≡ step.larger → ⊥

-- every one of the steps is such a one
abbrev pub AllIn : ℕ → List ℕ → List Step → Type 0
AllIn L nodes [] = Unit {0}
AllIn L nodes (step ∷ steps) = StepIn L nodes step × AllIn L nodes steps
