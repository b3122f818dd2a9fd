-- The plan (document 01, "Plan", and document 02, K11): rounds from 1, the steps of a round, and what a plan comes to.
use Rattle.std.specs.Prelude.{◌≡◌, Bool, false, cond, ◌||◌, ℕ, zero, suc, ◌+◌, eqb, leb, ltb, length, set}
use mathlib.Core.List.{List, Memᴰ, [], ◌∷◌, ◌++◌, map, flat_map, get_last_d}
use Rattle.families.specs.declared.Family.{Family}
use Rattle.families.specs.Families.{node_count}
use Rattle.lists.specs.Lists.{set_live, missing_nodes}
use Rattle.pairing.specs.Pairs.{pairs_among}

-- a step of a plan: its round, the node that it repairs, and the pair
pub record Step : Type 0 where
  pub round : ℕ
  pub node : ℕ
  pub smaller : ℕ
  pub larger : ℕ

-- the step of round r that repairs node j, from the pair that the search gives among the nodes that may be read
abbrev pub step_of : Family → ℕ → List Bool → List Bool → ℕ → ℕ → Step
step_of f k marks free r j = let pairs = pairs_among f k marks free j in record { round = r; node = j; smaller = pairs.smaller; larger = pairs.larger }

-- how nodes are read: which may be read after a step, of those that may be before it
abbrev pub Reading : Type 0
Reading = List Bool → Step → List Bool

-- a node is read once in a round: neither of a step's pair may be read again (document 02, K11)
unfoldable pub once : Reading
once free step = set (set free step.smaller false) step.larger false

-- the steps of round r for missing nodes, in the order of their list: each with its least pair of nodes that may be read; a node without
-- one waits
unfoldable pub steps_for : Reading → Family → ℕ → List Bool → ℕ → List Bool → List ℕ → List Step
steps_for reading f k marks r free [] = []
steps_for reading f k marks r free (j ∷ nodes) =
    let step = step_of f k marks free r j in
    cond (eqb step.smaller 0) (steps_for reading f k marks r free nodes) (step ∷ steps_for reading f k marks r (reading free step) nodes)

-- the steps of round r, from the marks when it begins: missing nodes are taken by rising number, and every live node may be read
abbrev pub round_steps : Reading → Family → ℕ → List Bool → ℕ → List Step
round_steps reading f k marks r = steps_for reading f k marks r marks (missing_nodes marks (node_count f k))

-- the nodes that may be read in a round once some of its steps are made: those live when it began that none of them reads (`FreeClaim`)
unfoldable pub free_after : List Bool → List Step → List Bool
free_after marks [] = marks
free_after marks (step ∷ steps) = free_after (once marks step) steps

-- the nodes that steps repair
abbrev pub repaired_nodes : List Step → List ℕ
repaired_nodes steps = map (λ (step : Step). step.node) steps

-- one of the steps repairs node j in round r
pub record RepairedIn (j r : ℕ) (steps : List Step) : Type 0 where
  pub step : Step
  pub listed : Memᴰ step steps
  pub node : step.node ≡ j
  pub round : step.round ≡ r

-- the nodes that steps read: the pair of each
unfoldable pub sources_of : List Step → List ℕ
sources_of steps = flat_map (λ (step : Step). step.smaller ∷ step.larger ∷ []) steps

-- how many of the steps read node j
unfoldable pub times_read : ℕ → List Step → ℕ
times_read j [] = 0
times_read j (step ∷ steps) = cond (eqb j step.smaller || eqb j step.larger) 1 0 + times_read j steps

-- the marks after steps
abbrev pub marks_after : List Bool → List Step → List Bool
marks_after marks steps = set_live marks (repaired_nodes steps)

-- the rounds r, r + 1, .., of which there are m; a node repaired in a round serves from the next. A round without repairs leaves
-- the marks, so that no later one has a step: it ends the plan (`PlanClaims`)
unfoldable pub rounds_from : Reading → Family → ℕ → ℕ → List Bool → ℕ → List Step
rounds_from reading f k r marks zero = []
rounds_from reading f k r marks (suc m) = let steps = round_steps reading f k marks r in steps ++ rounds_from reading f k (suc r) (marks_after marks steps) m

-- the plan: n rounds are enough, since each until they end repairs a node (`PlanClaims`)
unfoldable pub plan_of : Family → ℕ → List Bool → List Step
plan_of f k marks = rounds_from once f k 1 marks (node_count f k)

-- the steps that pass a test
unfoldable pub steps_with : (Step → Bool) → List Step → List Step
steps_with test [] = []
steps_with test (step ∷ steps) = cond (test step) (step ∷ steps_with test steps) (steps_with test steps)

-- those of round r, those of the rounds before it, those from it on, and those that repair a node below j
abbrev pub in_round : ℕ → List Step → List Step
in_round r steps = steps_with (λ (step : Step). eqb step.round r) steps

abbrev pub before_round : ℕ → List Step → List Step
before_round r steps = steps_with (λ (step : Step). ltb step.round r) steps

abbrev pub from_round : ℕ → List Step → List Step
from_round r steps = steps_with (λ (step : Step). leb r step.round) steps

abbrev pub before_node : ℕ → List Step → List Step
before_node j steps = steps_with (λ (step : Step). ltb step.node j) steps

-- four bytes a step: round, node, smaller, larger
unfoldable pub step_bytes : List Step → List ℕ
step_bytes steps = flat_map (λ (step : Step). step.round ∷ step.node ∷ step.smaller ∷ step.larger ∷ []) steps

-- rounds: the last step's; 0 where there is none
unfoldable pub last_round : List Step → ℕ
last_round steps = get_last_d (map (λ (step : Step). step.round) steps) 0

-- nodes left: how many of 1 to n are missing
unfoldable pub nodes_left : List Bool → ℕ → ℕ
nodes_left marks n = length (missing_nodes marks n)
