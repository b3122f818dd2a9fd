-- Steps made one after the other on a nodes buffer (document 01, "Run").
use Rattle.std.specs.Prelude.{List, [], ◌∷◌, ℕ, zero, suc, get_or, drop}
use Rattle.blocks.specs.Blocks.{xor_bytes, block_of, with_block}
use Rattle.planning.specs.Plan.{Step}

-- node j's block becomes the XOR of the blocks of a and b
abbrev pub mended : ℕ → List ℕ → ℕ → ℕ → ℕ → List ℕ
mended L nodes j a b = with_block L nodes j (xor_bytes (block_of L nodes a) (block_of L nodes b))

-- the nodes buffer after steps
unfoldable pub nodes_made : ℕ → List ℕ → List Step → List ℕ
nodes_made L nodes [] = nodes
nodes_made L nodes (step ∷ steps) = nodes_made L (mended L nodes step.node step.smaller step.larger) steps

-- the step that four bytes are
abbrev pub step_of_bytes : List ℕ → Step
step_of_bytes bytes = record { round = get_or bytes 0 0; node = get_or bytes 1 0; smaller = get_or bytes 2 0; larger = get_or bytes 3 0 }

-- the first m steps in a list of bytes, four bytes a step
unfoldable pub steps_in : List ℕ → ℕ → List Step
steps_in bytes zero = []
steps_in bytes (suc m) =
    record { round = get_or bytes 0 0; node = get_or bytes 1 0; smaller = get_or bytes 2 0; larger = get_or bytes 3 0 } ∷ steps_in (drop 4 bytes) m
