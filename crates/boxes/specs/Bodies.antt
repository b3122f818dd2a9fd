-- A box as it is written, and the bodies of a box as they are read into a nodes buffer.
use Rattle.std.specs.Prelude.{ℕ, ◌/◌, ◌%◌, length, take, drop}
use mathlib.Core.List.{List, [], ◌∷◌, ◌++◌, flat_map}
use Rattle.blocks.specs.Blocks.{block_of, with_block}

-- the box of a list of nodes: family, k, L with the low byte first, E, three zeros, then the node numbers and their bodies
unfoldable pub box_of : ℕ → ℕ → ℕ → List ℕ → List ℕ → List ℕ
box_of family k L list nodes = family ∷ k ∷ L % 256 ∷ L / 256 ∷ length list ∷ 0 ∷ 0 ∷ 0 ∷ (list ++ flat_map (block_of L nodes) list)

-- the nodes buffer with bodies put in the places of a list of nodes; the other places keep their bytes
unfoldable pub with_bodies : ℕ → List ℕ → List ℕ → List ℕ → List ℕ
with_bodies L nodes [] bodies = nodes
with_bodies L nodes (j ∷ list) bodies = with_bodies L (with_block L nodes j (take L bodies)) list (drop L bodies)
