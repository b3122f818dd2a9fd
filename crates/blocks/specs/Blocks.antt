-- Blocks of a nodes buffer (document 01, "The collection's units"), and the bytewise XOR of two blocks. L is any length.
use Rattle.std.specs.Prelude.{ℕ, zero, suc, ◌+◌, ◌-◌, ◌*◌, take, drop}
use mathlib.Core.List.{List, [], ◌++◌, zip_with}
use Rattle.std.specs.Int.Bits.{bit_xor}

-- the bytewise XOR of two blocks of one length
unfoldable pub xor_bytes : List ℕ → List ℕ → List ℕ
xor_bytes = zip_with bit_xor

-- blocks 1 to m of a rule, one after the other
unfoldable pub joined : (ℕ → List ℕ) → ℕ → List ℕ
joined block zero = []
joined block (suc m) = joined block m ++ block (suc m)

-- node j's block: the part of the nodes buffer from (j − 1) × L up to j × L
unfoldable pub block_of : ℕ → List ℕ → ℕ → List ℕ
block_of L nodes j = take L (drop ((j - 1) * L) nodes)

-- the nodes buffer with another block for node j
unfoldable pub with_block : ℕ → List ℕ → ℕ → List ℕ → List ℕ
with_block L nodes j block = let start = (j - 1) * L in take start nodes ++ (block ++ drop (start + L) nodes)
