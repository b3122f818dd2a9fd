-- What is proved of every plan besides the contracts; proofs/Proved.antt has the proofs.
use Rattle.std.specs.Prelude.{◌≡◌, Bool, true, false, ◌↔◌, ℕ, ◌+◌, ◌*◌, ◌≤◌, ◌<◌, length, set}
use mathlib.Core.List.{List, Memᴰ, [], ◌∷◌, ◌++◌}
use Rattle.families.specs.declared.Family.{Family}
use Rattle.families.specs.Families.{KInRange, IsNode, node_count, are_related}
use Rattle.lists.specs.Lists.{is_live, rises}
use Rattle.counts.specs.Counts.{count_of, count_all, sum_of}
use Rattle.pairing.specs.Pairs.{pair_count, pairs_of, NoPairLeft}
use Rattle.pairing.specs.Claims.{IsPair}
use Rattle.planning.specs.Plan.{Step, RepairedIn, once, round_steps, free_after, repaired_nodes, sources_of, times_read, marks_after, rounds_from, plan_of, in_round, before_round, from_round, before_node, last_round, nodes_left}

-- a step that can be made: it names a missing node and two live nodes related to it
pub record CanMake (f : Family) (k : ℕ) (marks : List Bool) (step : Step) : Type 0 where
  pub node : IsNode f k step.node
  pub smaller : IsNode f k step.smaller
  pub larger : IsNode f k step.larger
  pub related : are_related f k step.smaller step.larger step.node ≡ true
  pub missing : is_live marks step.node ≡ false
  pub smaller_live : is_live marks step.smaller ≡ true
  pub larger_live : is_live marks step.larger ≡ true

-- each step can be made once those before it are made
abbrev pub CanMakeAll : Family → ℕ → List Bool → List Step → Type 0
CanMakeAll f k marks [] = Unit {0}
CanMakeAll f k marks (step ∷ steps) = CanMake f k marks step × CanMakeAll f k (set marks step.node true) steps

-- of the plan from marks
pub record PlanClaims (f : Family) (k : ℕ) (marks : List Bool) : Type 0 where
  -- its steps can be made, one after the other
  pub makes : CanMakeAll f k marks (plan_of f k marks)
  -- after it no missing node has a related pair with both nodes live
  pub ends : NoPairLeft f k (is_live (marks_after marks (plan_of f k marks)))
  -- a round without repairs ends the plan: no round from it on has a step
  pub ended : (r m : ℕ) → round_steps once f k marks r ≡ [] → rounds_from once f k r marks m ≡ []
  -- n rounds are enough: more of them add nothing
  pub enough : (m : ℕ) → node_count f k ≤ m → rounds_from once f k 1 marks m ≡ plan_of f k marks
  -- each step repairs one node
  pub counts : length (plan_of f k marks) + nodes_left (marks_after marks (plan_of f k marks)) (node_count f k) ≡ nodes_left marks (node_count f k)

abbrev pub PlanClaim : Type 0
PlanClaim = (f : Family) (k : ℕ) → KInRange f k → (marks : List Bool) → length marks ≡ 256 → PlanClaims f k marks

-- ---- a round

-- the nodes that may be read once steps of a round are made are those live when it began that none of the steps reads
abbrev pub FreeClaim : Type 0
FreeClaim = (marks : List Bool) (steps : List Step) (i : ℕ) → (is_live (free_after marks steps) i ≡ true) ↔ ((is_live marks i ≡ true) × (times_read i steps ≡ 0))

-- when node j's turn comes in a round with these steps, a and b, of which a is the smaller, may be read and are related to j: both were live
-- when the round began, and none of its steps for a node below j reads either
abbrev pub FreePair : Family → ℕ → List Bool → List Step → ℕ → ℕ → ℕ → Type 0
FreePair f k marks steps j a b = IsPair f k (free_after marks (before_node j steps)) j a b

-- of a round that begins with marks, and its steps
pub record RoundClaims (f : Family) (k : ℕ) (marks : List Bool) (steps : List Step) : Type 0 where
  -- nodes are taken by rising number
  pub rising : rises (repaired_nodes steps) ≡ true
  -- each is missing
  pub missing : (step : Step) → Memᴰ step steps → IsNode f k step.node × (is_live marks step.node ≡ false)
  -- and repaired from a pair that may be read when its turn comes
  pub pair : (step : Step) → Memᴰ step steps → FreePair f k marks steps step.node step.smaller step.larger
  -- of which the smaller node is least
  pub least : (step : Step) → Memᴰ step steps → (a b : ℕ) → FreePair f k marks steps step.node a b → step.smaller ≤ a
  -- a missing node that waits had none when its turn came
  pub waits : (j : ℕ) → IsNode f k j → is_live marks j ≡ false → (Memᴰ j (repaired_nodes steps) → ⊥) → (a b : ℕ) → FreePair f k marks steps j a b → ⊥
  -- no node is read twice
  pub not_twice : (i : ℕ) → times_read i steps ≤ 1

-- of the rounds of the plan from marks
pub record PlanRoundsClaims (f : Family) (k : ℕ) (marks : List Bool) : Type 0 where
  -- each begins with the marks that those before it leave
  pub each : (r : ℕ) → 1 ≤ r → RoundClaims f k (marks_after marks (before_round r (plan_of f k marks))) (in_round r (plan_of f k marks))
  -- rounds never fall: the steps of those before r stand before all others
  pub order : (r : ℕ) → plan_of f k marks ≡ before_round r (plan_of f k marks) ++ from_round r (plan_of f k marks)
  -- each from the first to the last repairs a node
  pub some : (r : ℕ) → 1 ≤ r → r ≤ last_round (plan_of f k marks) → 1 ≤ length (in_round r (plan_of f k marks))
  -- so that they are at most as many as the steps
  pub few : last_round (plan_of f k marks) ≤ length (plan_of f k marks)
  -- and a round's number fits its byte
  pub byte : last_round (plan_of f k marks) ≤ 255
  -- and a step's round is one of them
  pub within : (step : Step) → Memᴰ step (plan_of f k marks) → (1 ≤ step.round) × (step.round ≤ last_round (plan_of f k marks))

abbrev pub PlanRoundsClaim : Type 0
PlanRoundsClaim = (f : Family) (k : ℕ) → KInRange f k → (marks : List Bool) → length marks ≡ 256 → PlanRoundsClaims f k marks

-- ---- round 1

-- of round 1 of the plan from marks
pub record FirstRoundClaims (f : Family) (k : ℕ) (marks : List Bool) : Type 0 where
  -- it repairs no missing node but those that have a pair by the count
  pub repaired : (j : ℕ) → RepairedIn j 1 (plan_of f k marks) → IsNode f k j × (is_live marks j ≡ false) × (1 ≤ pair_count f k marks j)
  -- and the first of these from the pair that the search gives
  pub first : (j : ℕ) → IsNode f k j → is_live marks j ≡ false → 1 ≤ pair_count f k marks j → ((i : ℕ) → IsNode f k i → is_live marks i ≡ false → i < j → pair_count f k marks i ≡ 0)
      → Memᴰ (record { round = 1; node = j; smaller = (pairs_of f k marks j).smaller; larger = (pairs_of f k marks j).larger }) (plan_of f k marks)

abbrev pub FirstRoundClaim : Type 0
FirstRoundClaim = (f : Family) (k : ℕ) → KInRange f k → (marks : List Bool) → FirstRoundClaims f k marks

-- ---- reads

-- of steps that can be made, counted in 256 counts
pub record ReadsClaims (f : Family) (k : ℕ) (counts : List ℕ) (steps : List Step) : Type 0 where
  -- a number has as many more as there are steps that read it
  pub times : (j : ℕ) → count_of (count_all counts (sources_of steps)) j ≡ count_of counts j + times_read j steps
  -- and all of them together two more for each step
  pub sum : sum_of (count_all counts (sources_of steps)) ≡ sum_of counts + 2 * length steps
  -- a step reads a number once at most
  pub once : (j : ℕ) → times_read j steps ≤ length steps

abbrev pub ReadsClaim : Type 0
ReadsClaim = (f : Family) (k : ℕ) → KInRange f k → (marks : List Bool) (counts : List ℕ) (steps : List Step) → length counts ≡ 256 → CanMakeAll f k marks steps
    → ReadsClaims f k counts steps

-- a step that can be made reads no missing node, and so not the one that it repairs
abbrev pub LiveReadsClaim : Type 0
LiveReadsClaim = (f : Family) (k : ℕ) (marks : List Bool) (step : Step) → CanMake f k marks step
    → (j : ℕ) → is_live marks j ≡ false → times_read j (step ∷ []) ≡ 0
