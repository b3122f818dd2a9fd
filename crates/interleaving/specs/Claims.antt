-- What is proved of interleaving besides the contracts; proofs/Proved.antt has the proofs.
use Rattle.std.specs.Prelude.{◌≡◌, List, ◌↔◌, ◌⊎◌, ℕ, ◌+◌, ◌*◌, ◌/◌, ◌%◌, ◌≤◌, ◌<◌, length, get_or}
use Rattle.checks.specs.Checks.{first_met}
use Rattle.checks.specs.Parameters.{parameter_checks}
use Rattle.checks.specs.Claims.{InRange}
use Rattle.blocks.specs.Blocks.{block_of}
use Rattle.interleaving.specs.Interleaved.{block_for, interleaved, deinterleaved, interleave_answer, out_moved}

-- ---- the rule, and its inverse

-- of a buffer of k × L bytes: an object that is interleaved, or blocks that are put back
pub record RuleClaims (k L : ℕ) (bytes : List ℕ) : Type 0 where
  -- both are k × L bytes
  pub there_size : length (interleaved k L bytes) ≡ k * L
  pub back_size : length (deinterleaved k L bytes) ≡ k * L
  -- byte t of an object is at place t div k of block (t mod k) + 1, and so it is put back
  pub there : (t : ℕ) → t < k * L → get_or (block_of L (interleaved k L bytes) (t % k + 1)) (t / k) 0 ≡ get_or bytes t 0
  pub back : (t : ℕ) → t < k * L → get_or (deinterleaved k L bytes) t 0 ≡ get_or (block_of L bytes (t % k + 1)) (t / k) 0
  -- each undoes the other; so every buffer of k × L bytes is some object interleaved, and a box does not tell
  pub there_and_back : deinterleaved k L (interleaved k L bytes) ≡ bytes
  pub back_and_there : interleaved k L (deinterleaved k L bytes) ≡ bytes

-- for every k and L, above the largest too
abbrev pub RuleClaim : Type 0
RuleClaim = (k L : ℕ) (bytes : List ℕ) → length bytes ≡ k * L → RuleClaims k L bytes

-- ---- a loss is thin

-- block i is lost: two buffers of k blocks are alike but for it
abbrev pub LostBlock : ℕ → ℕ → ℕ → List ℕ → List ℕ → Type 0
LostBlock k L i blocks others = (j : ℕ) → 1 ≤ j → j ≤ k → (j ≡ i → ⊥) → block_of L blocks j ≡ block_of L others j

-- byte t of the object is the same in both
abbrev pub SameByte : ℕ → ℕ → List ℕ → List ℕ → ℕ → Type 0
SameByte k L blocks others t = get_or (deinterleaved k L blocks) t 0 ≡ get_or (deinterleaved k L others) t 0

pub record ThinClaim : Type 0 where
  -- a byte whose block is the same in both is the same, whatever became of the other blocks
  pub others_right : (k L : ℕ) (blocks others : List ℕ) (t : ℕ) → t < k * L → block_of L blocks (block_for k t) ≡ block_of L others (block_for k t)
      → SameByte k L blocks others t
  -- two bytes of an object that are fewer than k apart lie in different blocks
  pub apart : (k t d : ℕ) → 1 ≤ d → d < k → block_for k t ≡ block_for k (t + d) → ⊥
  -- so that where one block is lost, one of the two is right
  pub one_right : (k L i : ℕ) (blocks others : List ℕ) → LostBlock k L i blocks others
      → (t d : ℕ) → 1 ≤ d → d < k → t + d < k * L → SameByte k L blocks others t ⊎ SameByte k L blocks others (t + d)
  -- neighbours are such bytes, k being 2 or more in every family
  pub neighbours : (family k L : ℕ) → InRange family k L → (t : ℕ) → block_for k t ≡ block_for k (t + 1) → ⊥
  pub neighbour_right : (family k L i : ℕ) (blocks others : List ℕ) → InRange family k L → LostBlock k L i blocks others
      → (t : ℕ) → t + 1 < k * L → SameByte k L blocks others t ⊎ SameByte k L blocks others (t + 1)

-- ---- the calls

-- a call is accepted exactly where the family, k and L are in range and both buffers are k × L bytes
abbrev pub AcceptedClaim : Type 0
AcceptedClaim = (family k L : ℕ) (bytes out : List ℕ)
    → (interleave_answer family k L bytes out ≡ 0) ↔ (InRange family k L × (length bytes ≡ k * L) × (length out ≡ k * L))

-- it leaves what the rule gives, interleaved or deinterleaved
abbrev pub ServedClaim : Type 0
ServedClaim = (rule : ℕ → ℕ → List ℕ → List ℕ) (family k L : ℕ) (bytes out : List ℕ) → interleave_answer family k L bytes out ≡ 0
    → out_moved rule family k L bytes out ≡ rule k L bytes

-- of a call that is refused: 1, 2 or 3 where it is due, else 6; and nothing is written
pub record RefusalClaims (family k L : ℕ) (bytes out : List ℕ) : Type 0 where
  pub range : (first_met (parameter_checks family k L) ≡ 0 → ⊥) → interleave_answer family k L bytes out ≡ first_met (parameter_checks family k L)
  pub sizes : InRange family k L → ((length bytes ≡ k * L) × (length out ≡ k * L) → ⊥) → interleave_answer family k L bytes out ≡ 6
  pub kept : (rule : ℕ → ℕ → List ℕ → List ℕ) → (interleave_answer family k L bytes out ≡ 0 → ⊥) → out_moved rule family k L bytes out ≡ out

abbrev pub RefusalClaim : Type 0
RefusalClaim = (family k L : ℕ) (bytes out : List ℕ) → RefusalClaims family k L bytes out

-- what one call leaves is accepted by the other, with any destination of k × L bytes, which then holds what the first was given
pub record Undone (rule inverse : ℕ → ℕ → List ℕ → List ℕ) (family k L : ℕ) (bytes out again : List ℕ) : Type 0 where
  pub accepted : interleave_answer family k L (out_moved rule family k L bytes out) again ≡ 0
  pub same : out_moved inverse family k L (out_moved rule family k L bytes out) again ≡ bytes

pub record UndoneClaim : Type 0 where
  pub there_and_back : (family k L : ℕ) (bytes out again : List ℕ) → interleave_answer family k L bytes out ≡ 0 → length again ≡ k * L
      → Undone interleaved deinterleaved family k L bytes out again
  pub back_and_there : (family k L : ℕ) (bytes out again : List ℕ) → interleave_answer family k L bytes out ≡ 0 → length again ≡ k * L
      → Undone deinterleaved interleaved family k L bytes out again
