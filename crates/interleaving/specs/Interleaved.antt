-- Interleaving (document 02, K3): the bytes of an object spread over its blocks before it is encoded, and put back after read out.
use Rattle.std.specs.Prelude.{ℕ, ◌+◌, ◌-◌, ◌*◌, ◌/◌, ◌%◌, not, ◌&&◌, List, [], ◌∷◌, ◌++◌, length, get_or, eqb}
use Rattle.base.specs.Ranges.{list_from}
use Rattle.checks.specs.Checks.{Check, ◌gives◌, first_met, afterwards}
use Rattle.checks.specs.Parameters.{parameter_checks}
use Rattle.blocks.specs.Blocks.{joined, block_of}

-- byte t of the object, from 0, goes to block (t mod k) + 1
abbrev pub block_for : ℕ → ℕ → ℕ
block_for k t = t % k + 1

-- at place t div k of that block, from 0
abbrev pub place_for : ℕ → ℕ → ℕ
place_for k t = t / k

-- the object interleaved, k blocks of L bytes: the byte that goes to place p of block i is byte p × k + (i − 1)
unfoldable pub interleaved : ℕ → ℕ → List ℕ → List ℕ
interleaved k L object = joined (λ i. list_from (λ p. get_or object (p * k + (i - 1)) 0) 0 L) k

-- the inverse: byte t is the one at its place in its block
unfoldable pub deinterleaved : ℕ → ℕ → List ℕ → List ℕ
deinterleaved k L blocks = list_from (λ t. get_or (block_of L blocks (block_for k t)) (place_for k t) 0) 0 (k * L)

-- ---- the calls, both alike

-- 1, 2, 3, then 6 where either buffer is not k × L bytes
unfoldable pub interleave_checks : ℕ → ℕ → ℕ → ℕ → ℕ → List Check
interleave_checks family k L bytesLength outLength =
    parameter_checks family k L ++ ((not (eqb bytesLength (k * L) && eqb outLength (k * L)) gives 6) ∷ [])

-- the answer: a refusal's number, or 0
unfoldable pub interleave_answer : ℕ → ℕ → ℕ → List ℕ → List ℕ → ℕ
interleave_answer family k L bytes out = first_met (interleave_checks family k L (length bytes) (length out))

-- the destination afterwards: all of it by the rule, interleaved or deinterleaved, where the call is accepted, and as it was where it is refused
unfoldable pub out_moved : (ℕ → ℕ → List ℕ → List ℕ) → ℕ → ℕ → ℕ → List ℕ → List ℕ → List ℕ
out_moved rule family k L bytes out = afterwards (interleave_checks family k L (length bytes) (length out)) (rule k L bytes) out
