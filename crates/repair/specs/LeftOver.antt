-- What is left over (document 01): demand 3, a single claim about a whole list of calls.
use Rattle.std.specs.Prelude.{◌≡◌, false, List, ◌∷◌, ◌++◌, ◌↔◌, ℕ, ◌≤◌, ◌<◌}
use Rattle.families.specs.Families.{family_of, IsNode}
use Rattle.lists.specs.Lists.{is_in, is_live}
use Rattle.pairing.specs.Pairs.{NoPairLeft}
use Rattle.leftover.specs.Open.{Open, OpenCount}
use Rattle.repair.specs.declared.Session.{Session}
use Rattle.repair.specs.Session.{started}
use Rattle.repair.specs.Repairs.{planned, ran}
use Rattle.repair.specs.Calls.{run, called, Call, session_after_all, live_after}

-- the session after a start and a list of calls
abbrev pub last_session : ℕ → ℕ → ℕ → List ℕ → List Call → Session
last_session family k L list calls = session_after_all called (started family k L list).session calls

-- of a start's family, k, L and list, a list of calls, and objects with blocks of M bytes
pub record LeftOver (family k L : ℕ) (list : List ℕ) (calls : List Call) (M : ℕ) : Type 0 where
  -- the last session's marks say the same as live after the list
  pub marks : (j : ℕ) → j < 256 → is_live (last_session family k L list calls).live j ≡ is_in (live_after family k L list calls) j
  -- when no missing node has a related pair with both nodes live, the missing nodes are exactly the open ones
  pub missing_open : NoPairLeft (family_of family) k (is_in (live_after family k L list calls))
      → (j : ℕ) → IsNode (family_of family) k j → (is_in (live_after family k L list calls) j ≡ false) ↔ Open (family_of family) k M list j
  -- whether or not a pair is left, there is a number of open nodes
  pub count : ℕ
  pub open_nodes : OpenCount (family_of family) k M list count
  -- it is the nodes left of every accepted run in the list
  pub runs : (earlier : List Call) (nodes : List ℕ) (later : List Call) → calls ≡ earlier ++ (record { nodes = nodes; move = run } ∷ later)
      → (ran (last_session family k L list earlier) nodes).refusal ≡ 0 → (ran (last_session family k L list earlier) nodes).left ≡ count
  -- and of every accepted plan made after it
  pub plans : (out : List ℕ) → (planned (last_session family k L list calls) out).refusal ≡ 0 → (planned (last_session family k L list calls) out).left ≡ count

-- Demand 3: for every accepted start, every list of calls, refused ones included, and every block length of 1 or more
abbrev pub Demand3 : Type 0
Demand3 = (family k L : ℕ) (list : List ℕ) → (started family k L list).refusal ≡ 0
    → (calls : List Call) (M : ℕ) → 1 ≤ M → LeftOver family k L list calls M

-- the number of open nodes is the same at every block length
abbrev pub SameCount : Type 0
SameCount = (family k L : ℕ) (list : List ℕ) → (started family k L list).refusal ≡ 0
    → (M N c d : ℕ) → 1 ≤ M → 1 ≤ N → OpenCount (family_of family) k M list c → OpenCount (family_of family) k N list d → c ≡ d
