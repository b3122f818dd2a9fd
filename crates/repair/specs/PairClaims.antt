-- What is proved of the pairs of a node (document 02, K4) besides the equation of the search; proofs/PairsProved.antt has the proofs.
use Rattle.std.specs.Prelude.{◌≡◌, true, false, ◌↔◌, ℕ, ◌*◌, ◌≤◌, ◌<◌, length}
use mathlib.Core.List.{List, Memᴰ}
use Rattle.families.specs.Families.{family_of, IsNode, column_of, are_related}
use Rattle.blocks.specs.Blocks.{xor_bytes, block_of}
use Rattle.encoding.specs.Matrix.{node_block}
use Rattle.lists.specs.Lists.{is_live}
use Rattle.pairing.specs.Pairs.{pair_count, most_pairs, LiveNode}
use Rattle.pairing.specs.Claims.{IsPair}
use Rattle.planning.specs.Plan.{RepairedIn}
use Rattle.waves.specs.Waves.{waves_of}
use Rattle.repair.specs.declared.Session.{Session}
use Rattle.repair.specs.Session.{Arrays, node_count_of}
use Rattle.repair.specs.Pairs.{pairs_found}
use Rattle.repair.specs.Step.{stepped}
use Rattle.repair.specs.Repairs.{plan_in, ran}
use Rattle.repair.specs.RepairClaims.{LiveAreOwn}

-- of a session and one of its nodes, live or missing
pub record PairsClaims (s : Session) (j : ℕ) : Type 0 where
  -- the count is how many of its related pairs are both live
  pub count : (pairs_found s j).count ≡ pair_count (family_of s.family) s.k s.live j
  -- it is 0 exactly where no two live nodes are related to it, and zeros are given there alone
  pub none : ((pairs_found s j).count ≡ 0)
      ↔ ((a b : ℕ) → LiveNode (family_of s.family) s.k s.live a → LiveNode (family_of s.family) s.k s.live b → are_related (family_of s.family) s.k a b j ≡ true → ⊥)
  pub zeros : (pairs_found s j ≡ record { refusal = 0; smaller = 0; larger = 0; count = 0; session = s }) ↔ ((pairs_found s j).count ≡ 0)
  -- with every node live it is (n − 1)/2 for simplex, k − 1 for weight-two and 6 for the tetrahedron, and never more
  pub all : ((i : ℕ) → IsNode (family_of s.family) s.k i → is_live s.live i ≡ true) → (pairs_found s j).count ≡ most_pairs (family_of s.family) s.k
  pub most : (pairs_found s j).count ≤ most_pairs (family_of s.family) s.k
  -- above 0, the pair that is given is one, and no other has a smaller node below its own
  pub given : 1 ≤ (pairs_found s j).count → IsPair (family_of s.family) s.k s.live j (pairs_found s j).smaller (pairs_found s j).larger
  pub least : (a b : ℕ) → IsPair (family_of s.family) s.k s.live j a b → (pairs_found s j).smaller ≤ a
  -- read through the pair: where the live blocks are an object's, the XOR of the pair's blocks is the node's, though its own is not read
  pub read : 1 ≤ (pairs_found s j).count → (object nodes : List ℕ) → length object ≡ s.k * s.len → LiveAreOwn object s nodes
      → xor_bytes (block_of s.len nodes (pairs_found s j).smaller) (block_of s.len nodes (pairs_found s j).larger)
      ≡ node_block s.k s.len object (column_of (family_of s.family) s.k j)
  -- a missing node: round 1 of the plan repairs it only where the count is above 0, and the first such node from the pair
  pub round_1 : RepairedIn j 1 (plan_in s) → 1 ≤ (pairs_found s j).count
  pub first : is_live s.live j ≡ false → 1 ≤ (pairs_found s j).count
      → ((i : ℕ) → IsNode (family_of s.family) s.k i → is_live s.live i ≡ false → i < j → (pairs_found s i).count ≡ 0)
      → Memᴰ (record { round = 1; node = j; smaller = (pairs_found s j).smaller; larger = (pairs_found s j).larger }) (plan_in s)
  -- wave 1 repairs it exactly where the count is above 0, and a step from the pair is then accepted
  pub wave_1 : is_live s.live j ≡ false → RepairedIn j 1 (waves_of (family_of s.family) s.k s.live) ↔ (1 ≤ (pairs_found s j).count)
  pub step : is_live s.live j ≡ false → 1 ≤ (pairs_found s j).count → (nodes : List ℕ) → length nodes ≡ node_count_of s * s.len
      → (stepped s nodes j (pairs_found s j).smaller (pairs_found s j).larger).refusal ≡ 0

-- of every session and number that the search accepts
abbrev pub PairsClaim : Type 0
PairsClaim = (s : Session) → length s.live ≡ 256 → (j : ℕ) → (pairs_found s j).refusal ≡ 0 → PairsClaims s j

-- after an accepted run a missing node has no pair
abbrev pub RunPairsClaim : Type 0
RunPairsClaim = (s : Session) → Arrays s → (nodes : List ℕ) → (ran s nodes).refusal ≡ 0
    → (j : ℕ) → IsNode (family_of s.family) s.k j → is_live (ran s nodes).session.live j ≡ false → (pairs_found (ran s nodes).session j).count ≡ 0
