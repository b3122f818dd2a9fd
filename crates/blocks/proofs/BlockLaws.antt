-- The blocks of a nodes buffer in which one block is written.
-- Assumes nothing.
use mathlib.Core.Path.{◌≡◌, sym, ap₂, ◌∙◌}
use mathlib.Core.List.{List, [], ◌∷◌, ◌++◌, append_assoc}
use Prim.Native.Nat.{ℕ, zero, suc, ◌+◌, ◌-◌, ◌*◌, ◌≤◌, ◌<◌}
use native.Mathlib.Nat.{mul-le-mul_right, suc-mul}
use native.Mathlib.Decide.{dec_lt}
use native.Mathlib.Omega.{arith}
use lib.ListN.{length, take, drop, get_or, length-append, length-drop}
use lib.Seq.{take_at, drop_at, take-nil, take-take, drop-drop, length-take-le, get_or-take, get_or-drop}
use Rattle.blocks.specs.Blocks.{block_of, with_block}
use Rattle.blocks.specs.Inner.{InBuffer}

-- node i's block lies in the first m blocks
pub block_fits : (L i m : ℕ) → 1 ≤ i → i ≤ m → (i - 1) * L + L ≤ m * L
block_fits L i m h l =
    let b : suc (i - 1) * L ≤ m * L = mul-le-mul_right L (omega arith) in
    rw (suc-mul (i - 1) L) at b

-- place p of block i + 1
pub block_at : (L : ℕ) (blocks : List ℕ) (i p : ℕ) → p < L → get_or (block_of L blocks (i + 1)) p 0 ≡ get_or blocks (i * L + p) 0
unfolding block_of
block_at L blocks i p h =
    let e : i + 1 - 1 ≡ i = omega arith in
    get_or-take L _ p 0 h ∙ rw (get_or-drop ((i + 1 - 1) * L) blocks p 0, e)

-- the blocks of nodes i < j do not overlap
pub places : (L i j : ℕ) → 1 ≤ i → i < j → (i - 1) * L + L ≤ (j - 1) * L
places L i j h l = block_fits L i (j - 1) h (omega arith)

-- a part that ends by a is a part of the first a elements
part_take : (l : List ℕ) (a b n : ℕ) → b + n ≤ a → take n (drop b (take a l)) ≡ take n (drop b l)
part_take l a zero n h = take-take n a l (omega arith)
part_take [] a (suc b) n h = rw (take-nil a)
part_take (x ∷ xs) zero (suc b) n h = absurd (omega arith)
part_take (x ∷ xs) (suc a) (suc b) n h = part_take xs a b n (omega arith)

pub block_of-take : (L : ℕ) (nodes : List ℕ) (i j : ℕ) → 1 ≤ i → i < j → block_of L (take ((j - 1) * L) nodes) i ≡ block_of L nodes i
unfolding block_of
block_of-take L nodes i j h l = part_take nodes ((j - 1) * L) ((i - 1) * L) L (places L i j h l)

-- a block above node j's is one of what follows node j's
block_of-drop : (L : ℕ) (x y : List ℕ) (i j : ℕ) → 1 ≤ j → j < i → drop ((j - 1) * L + L) x ≡ drop ((j - 1) * L + L) y → block_of L x i ≡ block_of L y i
unfolding block_of
block_of-drop L x y i j h l e =
    let a = (j - 1) * L + L in
    let b = (i - 1) * L in
    let s : b ≡ a + (b - a) = omega (arith, places L j i h l) in
    rw (s, ← drop-drop (b - a) a x, ← drop-drop (b - a) a y, e)

module _ (L : ℕ) (nodes : List ℕ) (j : ℕ) (block : List ℕ) (inside : InBuffer L nodes j) (size : length block ≡ L) where
  front : length (take ((j - 1) * L) nodes) ≡ (j - 1) * L
  front = length-take-le ((j - 1) * L) nodes (omega arith)

  pub length-with_block : length (with_block L nodes j block) ≡ length nodes
  unfolding with_block
  length-with_block = simp (length-append, front, length-drop) (omega arith)

  pub take-with_block : take ((j - 1) * L) (with_block L nodes j block) ≡ take ((j - 1) * L) nodes
  unfolding with_block
  take-with_block = take_at (take ((j - 1) * L) nodes) _ ((j - 1) * L) front

  pub take_through : take ((j - 1) * L + L) (with_block L nodes j block) ≡ take ((j - 1) * L) nodes ++ block
  unfolding with_block
  take_through =
      rw (← append_assoc)
      (take_at (take ((j - 1) * L) nodes ++ block) (drop ((j - 1) * L + L) nodes) ((j - 1) * L + L) (length-append (take ((j - 1) * L) nodes) block ∙ ap₂ ◌+◌ front size))

  pub drop-with_block : drop ((j - 1) * L + L) (with_block L nodes j block) ≡ drop ((j - 1) * L + L) nodes
  unfolding with_block
  drop-with_block =
      rw (← append_assoc)
      (drop_at (take ((j - 1) * L) nodes ++ block) (drop ((j - 1) * L + L) nodes) ((j - 1) * L + L) (length-append (take ((j - 1) * L) nodes) block ∙ ap₂ ◌+◌ front size))

  pub block_of_same : block_of L (with_block L nodes j block) j ≡ block
  unfolding block_of with_block
  block_of_same = rw (drop_at (take ((j - 1) * L) nodes) (block ++ drop ((j - 1) * L + L) nodes) ((j - 1) * L) front) (take_at block _ L size)

  pub block_of_other : (i : ℕ) → 1 ≤ i → (i ≡ j → ⊥) → block_of L (with_block L nodes j block) i ≡ block_of L nodes i
  block_of_other i h d = go (dec_lt i j)
    where
      go : Dec (i < j) → block_of L (with_block L nodes j block) i ≡ block_of L nodes i
      go (yes l) = sym (block_of-take L (with_block L nodes j block) i j h l) ∙ rw take-with_block (block_of-take L nodes i j h l)
      go (no g) = block_of-drop L (with_block L nodes j block) nodes i j inside.first (omega arith) drop-with_block

-- a node of a buffer of n blocks
pub in_buffer : (L : ℕ) (nodes : List ℕ) (n j : ℕ) → length nodes ≡ n * L → 1 ≤ j → j ≤ n → InBuffer L nodes j
in_buffer L nodes n j e h g = record { first = h; last = rw e (block_fits L j n h g) }
