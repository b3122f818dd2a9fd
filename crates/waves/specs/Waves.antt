-- Waves: document 01's rounds, in which a live node may be read by any number of repairs (document 02, K11). Which wave a node returns in
-- (document 02, K9), and what waves say of rounds. proofs/Proved.antt has the proofs.
use Rattle.std.specs.Prelude.{◌≡◌, Bool, false, cond, ◌↔◌, ℕ, ◌^◌, ◌≤◌, ◌<◌, leb, length}
use mathlib.Core.List.{List, Memᴰ}
use Rattle.base.specs.Numbers.{Each, xor_of}
use Rattle.families.specs.declared.Family.{Family}
use Rattle.families.specs.Families.{KInRange, IsNode, node_count, column_of}
use Rattle.lists.specs.Lists.{is_live}
use Rattle.pairing.specs.Pairs.{pair_count, pairs_of, LiveNode}
use Rattle.planning.specs.Plan.{Step, Reading, RepairedIn, marks_after, rounds_from, plan_of, last_round}

-- all nodes may be read again after a step
abbrev pub often : Reading
often free step = free

-- the waves from marks; there are fewer than n of them (`few_waves`)
unfoldable pub waves_of : Family → ℕ → List Bool → List Step
waves_of f k marks = rounds_from often f k 1 marks (node_count f k)

-- ---- which wave a node returns in

-- c is the XOR of the columns of at most m live nodes
pub record SumOf (f : Family) (k : ℕ) (marks : List Bool) (m c : ℕ) : Type 0 where
  pub nodes : List ℕ
  pub few : length nodes ≤ m
  pub live : Each (LiveNode f k marks) nodes
  pub sum : xor_of (column_of f k) nodes ≡ c

-- node j's column is the XOR of those of at most 2^r nodes live when wave 1 begins
abbrev pub Reached : Family → ℕ → List Bool → ℕ → ℕ → Type 0
Reached f k marks j r = SumOf f k marks (2 ^ r) (column_of f k j)

-- r is the least such number
pub record LeastReached (f : Family) (k : ℕ) (marks : List Bool) (j r : ℕ) : Type 0 where
  pub reached : Reached f k marks j r
  pub not_before : (s : ℕ) → s < r → Reached f k marks j s → ⊥

-- the most waves: 1 for k = 2, 2 for 3 and 4, 3 for 5 to 8, 4 for 9 to 16, 5 for 17 to 22
abbrev pub most_waves : ℕ → ℕ
most_waves k = cond (leb k 2) 1 (cond (leb k 4) 2 (cond (leb k 8) 3 (cond (leb k 16) 4 5)))

-- of the waves from marks
pub record WaveClaims (f : Family) (k : ℕ) (marks : List Bool) : Type 0 where
  -- the wave that repairs a missing node is the least r for which it is reached
  pub in_its_wave : (j r : ℕ) → IsNode f k j → is_live marks j ≡ false → RepairedIn j r (waves_of f k marks) ↔ LeastReached f k marks j r
  -- a node that is left is reached for no r, and a node that is reached for none is left
  pub left_out : (j : ℕ) → IsNode f k j → (is_live (marks_after marks (waves_of f k marks)) j ≡ false) ↔ ((r : ℕ) → Reached f k marks j r → ⊥)
  -- the last step's wave is at most that of the table
  pub few_waves : last_round (waves_of f k marks) ≤ most_waves k

-- of every family, every k in its range and all marks
abbrev pub WaveClaim : Type 0
WaveClaim = (f : Family) (k : ℕ) → KInRange f k → (marks : List Bool) → length marks ≡ 256 → WaveClaims f k marks

-- ---- rounds and waves

-- of the plan from marks, and the waves
pub record RoundsAndWaves (f : Family) (k : ℕ) (marks : List Bool) : Type 0 where
  -- the marks after all rounds are those after all waves: the nodes left are the same
  pub same_left : marks_after marks (plan_of f k marks) ≡ marks_after marks (waves_of f k marks)
  -- no node returns in a round before its wave
  pub no_sooner : (j r w : ℕ) → RepairedIn j r (plan_of f k marks) → RepairedIn j w (waves_of f k marks) → w ≤ r
  -- and the rounds are at least as many as the waves
  pub waves : last_round (waves_of f k marks) ≤ last_round (plan_of f k marks)

abbrev pub RoundsAndWavesClaim : Type 0
RoundsAndWavesClaim = (f : Family) (k : ℕ) → KInRange f k → (marks : List Bool) → length marks ≡ 256 → RoundsAndWaves f k marks

-- ---- wave 1, and the count of pairs (document 02, K4)

-- of wave 1 from marks
pub record FirstWaveClaims (f : Family) (k : ℕ) (marks : List Bool) : Type 0 where
  -- it repairs exactly the missing nodes that have a pair by the count
  pub repaired : (j : ℕ) → RepairedIn j 1 (waves_of f k marks) ↔ (IsNode f k j × (is_live marks j ≡ false) × (1 ≤ pair_count f k marks j))
  -- and its steps read the pairs that the search gives
  pub smaller : (step : Step) → Memᴰ step (waves_of f k marks) → step.round ≡ 1 → step.smaller ≡ (pairs_of f k marks step.node).smaller
  pub larger : (step : Step) → Memᴰ step (waves_of f k marks) → step.round ≡ 1 → step.larger ≡ (pairs_of f k marks step.node).larger

abbrev pub FirstWaveClaim : Type 0
FirstWaveClaim = (f : Family) (k : ℕ) → KInRange f k → (marks : List Bool) → length marks ≡ 256 → FirstWaveClaims f k marks
