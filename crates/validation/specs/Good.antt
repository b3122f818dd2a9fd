-- A plan made elsewhere (document 02, K10, and K11): when a step is good, by the steps before it, and the first that is not.
use Rattle.std.specs.Prelude.{ℕ, suc, Bool, cond, not, ◌&&◌, List, [], ◌∷◌, ◌++◌, eqb, leb, ltb, length}
use Rattle.families.specs.declared.Family.{Family}
use Rattle.families.specs.Families.{node_count, are_related}
use Rattle.lists.specs.Lists.{some_outside, is_live}
use Rattle.planning.specs.Plan.{Step, times_read, marks_after, in_round, before_round, last_round}

-- rounds begin at 1, never fall and rise by at most 1: round r may follow `last`, the round of the step before, 0 where there is none
unfoldable pub follows : ℕ → ℕ → Bool
follows last r = leb 1 r && (leb last r && leb r (suc last))

-- in round r node i may be read: it was live when the round began, and no step before reads it in that round
unfoldable pub may_serve : List Bool → List Step → ℕ → ℕ → Bool
may_serve marks earlier r i = is_live (marks_after marks (before_round r earlier)) i && eqb (times_read i (in_round r earlier)) 0

-- a step is good after the steps before it, where `marks` are those before all of them: its round follows, its node numbers are 1 to n
-- with the smaller before the larger, its node is missing, and its pair is related to it and may be read in its round
unfoldable pub is_good : Family → ℕ → List Bool → List Step → Step → Bool
is_good f k marks earlier step =
    follows (last_round earlier) step.round
    && (not (some_outside (node_count f k) (step.node ∷ step.smaller ∷ step.larger ∷ []))
    && (ltb step.smaller step.larger
    && (not (is_live (marks_after marks earlier) step.node)
    && (are_related f k step.smaller step.larger step.node
    && (may_serve marks earlier step.round step.smaller && may_serve marks earlier step.round step.larger)))))

-- of steps that come after good ones, the number of the first bad one, counted with those before it, from 1; 0 where each is good
unfoldable pub bad_after : Family → ℕ → List Bool → List Step → List Step → ℕ
bad_after f k marks earlier [] = 0
bad_after f k marks earlier (step ∷ steps) = cond (is_good f k marks earlier step) (bad_after f k marks (earlier ++ step ∷ []) steps) (suc (length earlier))

-- the number of a plan's first bad step, from 1; 0 where the plan is accepted
abbrev pub first_bad : Family → ℕ → List Bool → List Step → ℕ
first_bad f k marks plan = bad_after f k marks [] plan

-- the steps that a plan comes to: its own where it is accepted, else none
unfoldable pub accepted_steps : Family → ℕ → List Bool → List Step → List Step
accepted_steps f k marks plan = cond (eqb (first_bad f k marks plan) 0) plan []
