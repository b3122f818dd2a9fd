-- What is proved of plans made elsewhere besides the contracts; proofs/Proved.antt has the proofs.
use Rattle.std.specs.Prelude.{◌≡◌, Bool, true, false, ◌↔◌, ℕ, suc, ◌≤◌, ◌<◌, length}
use mathlib.Core.List.{List, Memᴰ, [], ◌∷◌, ◌++◌}
use Rattle.families.specs.declared.Family.{Family}
use Rattle.families.specs.Families.{KInRange, IsNode, are_related}
use Rattle.lists.specs.Lists.{is_live}
use Rattle.planning.specs.Claims.{CanMakeAll}
use Rattle.planning.specs.Plan.{Step, times_read, marks_after, plan_of, in_round, before_round, from_round, last_round}
use Rattle.validation.specs.Good.{first_bad}

-- ---- the first bad step

-- a step is good after the steps before it, condition by condition
pub record Good (f : Family) (k : ℕ) (marks : List Bool) (earlier : List Step) (step : Step) : Type 0 where
  -- rounds begin at 1
  pub begins : 1 ≤ step.round
  -- they never fall, and rise by at most 1
  pub falls_not : last_round earlier ≤ step.round
  pub rises : step.round ≤ suc (last_round earlier)
  -- node numbers are 1 to n, the smaller before the larger
  pub node : IsNode f k step.node
  pub smaller : IsNode f k step.smaller
  pub larger : IsNode f k step.larger
  pub order : step.smaller < step.larger
  -- the node is missing when its step comes
  pub missing : is_live (marks_after marks earlier) step.node ≡ false
  -- its pair is related, and was live when its round began
  pub related : are_related f k step.smaller step.larger step.node ≡ true
  pub smaller_live : is_live (marks_after marks (before_round step.round earlier)) step.smaller ≡ true
  pub larger_live : is_live (marks_after marks (before_round step.round earlier)) step.larger ≡ true
  -- and neither was read in that round
  pub smaller_unread : times_read step.smaller (in_round step.round earlier) ≡ 0
  pub larger_unread : times_read step.larger (in_round step.round earlier) ≡ 0

-- each step is good after those before it
abbrev pub AllGood : Family → ℕ → List Bool → List Step → Type 0
AllGood f k marks plan = (earlier : List Step) (step : Step) (later : List Step) → plan ≡ earlier ++ step ∷ later → Good f k marks earlier step

-- step `number`, from 1, is not good, and each before it is
pub record FirstBad (f : Family) (k : ℕ) (marks : List Bool) (plan : List Step) (number : ℕ) : Type 0 where
  pub earlier : List Step
  pub step : Step
  pub later : List Step
  pub is : plan ≡ earlier ++ step ∷ later
  pub number_is : number ≡ suc (length earlier)
  pub good : AllGood f k marks earlier
  pub bad : Good f k marks earlier step → ⊥

-- of a plan
pub record CheckClaims (f : Family) (k : ℕ) (marks : List Bool) (plan : List Step) : Type 0 where
  -- it is accepted exactly where each step is good after those before it
  pub accepted : (first_bad f k marks plan ≡ 0) ↔ AllGood f k marks plan
  -- and else the number is that of the first that is not
  pub number : (i : ℕ) → 1 ≤ i → (first_bad f k marks plan ≡ i) ↔ FirstBad f k marks plan i
  -- which is one of the plan's
  pub most : first_bad f k marks plan ≤ length plan

abbrev pub CheckClaim : Type 0
CheckClaim = (f : Family) (k : ℕ) (marks : List Bool) (plan : List Step) → CheckClaims f k marks plan

-- ---- an accepted plan

-- of a plan that is accepted
pub record AcceptedClaims (f : Family) (k : ℕ) (marks : List Bool) (plan : List Step) : Type 0 where
  -- its steps can be made, one after the other
  pub makes : CanMakeAll f k marks plan
  -- rounds never fall: the steps of those before r stand before all others
  pub order : (r : ℕ) → plan ≡ before_round r plan ++ from_round r plan
  -- none is left out: each from the first to the last repairs a node
  pub some : (r : ℕ) → 1 ≤ r → r ≤ last_round plan → 1 ≤ length (in_round r plan)
  -- what a round reads was live when it began
  pub live : (step : Step) → Memᴰ step plan → (i : ℕ) → 1 ≤ times_read i (step ∷ []) → is_live (marks_after marks (before_round step.round plan)) i ≡ true
  -- and no node is read twice in a round
  pub not_twice : (r i : ℕ) → times_read i (in_round r plan) ≤ 1

abbrev pub AcceptedClaim : Type 0
AcceptedClaim = (f : Family) (k : ℕ) (marks : List Bool) (plan : List Step) → first_bad f k marks plan ≡ 0 → AcceptedClaims f k marks plan

-- our own plan is accepted
abbrev pub OwnPlanClaim : Type 0
OwnPlanClaim = (f : Family) (k : ℕ) → KInRange f k → (marks : List Bool) → first_bad f k marks (plan_of f k marks) ≡ 0

-- once its nodes are live, the first step of an accepted plan is bad
abbrev pub AgainClaim : Type 0
AgainClaim = (f : Family) (k : ℕ) → KInRange f k → (marks : List Bool) → length marks ≡ 256 → (step : Step) (later : List Step) → first_bad f k marks (step ∷ later) ≡ 0
    → first_bad f k (marks_after marks (step ∷ later)) (step ∷ later) ≡ 1
