-- Step (document 01, "The session"): the caller names a missing node and two live nodes related to it.
use Rattle.std.specs.Prelude.{ℕ, ◌+◌, not, List, [], ◌∷◌, ◌++◌, length}
use Rattle.families.specs.Families.{family_of, are_related}
use Rattle.checks.specs.Checks.{Check, ◌gives◌, answer, afterwards}
use Rattle.lists.specs.Lists.{some_outside, is_live, some_missing}
use Rattle.counts.specs.Counts.{count_all}
use Rattle.planning.specs.Plan.{Step, sources_of, marks_after}
use Rattle.planning.specs.Made.{mended}
use Rattle.repair.specs.declared.Session.{Session}
use Rattle.repair.specs.Answers.{Stepped}
use Rattle.repair.specs.Session.{node_count_of, nodes_checks}

-- Step: 13, 6, 4 for any of the three, 10, 11, 12
unfoldable pub step_checks : Session → List ℕ → ℕ → ℕ → ℕ → List Check
step_checks s nodes j a b =
    nodes_checks s (length nodes)
    ++ ((some_outside (node_count_of s) (j ∷ a ∷ b ∷ []) gives 4)
    ∷ (not (are_related (family_of s.family) s.k a b j) gives 10)
    ∷ (is_live s.live j gives 11)
    ∷ (some_missing s.live (a ∷ b ∷ []) gives 12)
    ∷ [])

-- the session once steps are made: the nodes that they repair are live, each step counts, and each of the two reads of a step
abbrev pub after_steps : Session → List Step → Session
after_steps s made =
    record { family = s.family; k = s.k; len = s.len; steps = s.steps + length made; live = marks_after s.live made; reads = count_all s.reads (sources_of made) }

-- the step that a caller names, its pair in the order named; it is of no round
abbrev pub named_step : ℕ → ℕ → ℕ → Step
named_step j a b = record { round = 0; node = j; smaller = a; larger = b }

-- what a step gives: the session once it is made; refused, its number and the session as handed in
unfoldable pub stepped : Session → List ℕ → ℕ → ℕ → ℕ → Stepped
stepped s nodes j a b =
    answer (step_checks s nodes j a b) (record { refusal = 0; session = after_steps s (named_step j a b ∷ []) }) (λ number. record { refusal = number; session = s })

-- the nodes buffer afterwards: the node's block is the XOR of the two
unfoldable pub nodes_stepped : Session → List ℕ → ℕ → ℕ → ℕ → List ℕ
nodes_stepped s nodes j a b = afterwards (step_checks s nodes j a b) (mended s.len nodes j a b) nodes
