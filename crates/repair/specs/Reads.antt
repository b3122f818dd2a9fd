-- Reads by node, and steps since the start (document 02, K8): what the counts of a session are after a whole list of calls;
-- proofs/ReadsProved.antt has the proofs.
use Rattle.std.specs.Prelude.{◌≡◌, List, ℕ, ◌*◌, ◌<◌, length}
use Rattle.families.specs.Families.{family_of, IsNode}
use Rattle.counts.specs.Counts.{count_of, sum_of}
use Rattle.planning.specs.Plan.{times_read}
use Rattle.repair.specs.declared.Session.{Session}
use Rattle.repair.specs.Session.{started}
use Rattle.repair.specs.Calls.{Call, made_after}
use Rattle.repair.specs.LeftOver.{last_session}
use Rattle.repair.specs.Refusals.{NotThirteen}

-- of a start's family, k, L and list, and a list of calls
pub record Counted (family k L : ℕ) (list : List ℕ) (calls : List Call) : Type 0 where
  -- the last session's `steps` is how many steps were made, those of runs and of plans carried out included
  pub steps : (last_session family k L list calls).steps ≡ length (made_after family k L list calls)
  -- the count of a number is how many of them read it
  pub reads : (j : ℕ) → j < 256 → count_of (last_session family k L list calls).reads j ≡ times_read j (made_after family k L list calls)
  -- the counts sum to twice the steps
  pub sum : sum_of (last_session family k L list calls).reads ≡ 2 * (last_session family k L list calls).steps
  -- those for 0 and above n are 0
  pub none : (j : ℕ) → (IsNode (family_of family) k j → ⊥) → count_of (last_session family k L list calls).reads j ≡ 0
  -- and no operation turns the session away with 13
  pub not_13 : NotThirteen (last_session family k L list calls)

-- for every accepted start and every list of calls, refused ones included
abbrev pub CountedClaim : Type 0
CountedClaim = (family k L : ℕ) (list : List ℕ) → (started family k L list).refusal ≡ 0 → (calls : List Call) → Counted family k L list calls

-- no start and list of calls gives the session
abbrev pub NotReached : Session → Type 0
NotReached s = (family k L : ℕ) (list : List ℕ) → (started family k L list).refusal ≡ 0 → (calls : List Call) → last_session family k L list calls ≡ s → ⊥

-- a session with more reads of one node than steps is such a one, since a step reads a node once at most; it may be sound all the same
abbrev pub NotReachedClaim : Type 0
NotReachedClaim = (s : Session) (j : ℕ) → j < 256 → s.steps < count_of s.reads j → NotReached s
