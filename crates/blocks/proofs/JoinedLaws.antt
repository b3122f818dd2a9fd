-- Blocks of one length, joined: their length, each of them, and one more.
-- Assumes nothing.
use mathlib.Core.Path.{◌≡◌, refl, sym, ◌∙◌}
use mathlib.Core.List.{List, ◌++◌}
use mathlib.Core.Logic.{⊎_elim}
use Prim.Native.Nat.{ℕ, zero, suc, ◌+◌, ◌-◌, ◌*◌, ◌≤◌, ◌<◌}
use native.Mathlib.Nat.{zero-mul, suc-mul, le_of_suc-le-suc, eq-or-lt_of_le}
use native.Mathlib.Omega.{arith}
use lib.ListN.{length, take, drop, length-append}
use lib.Seq.{take_all, drop_at}
use Rattle.blocks.specs.Blocks.{joined, block_of, with_block}
use Rattle.blocks.specs.Inner.{InBuffer}
use Rattle.blocks.proofs.BlockLaws.{block_fits, take_through}
use Rattle.blocks.proofs.PartLaws.{mid_front}

module _ (L : ℕ) (block : ℕ → List ℕ) where
  -- the first m of them have L bytes each
  abbrev pub Sizes : ℕ → Type 0
  Sizes m = (i : ℕ) → 1 ≤ i → i ≤ m → length (block i) ≡ L

  pub length-joined : (m : ℕ) → Sizes m → length (joined block m) ≡ m * L
  unfolding joined
  length-joined zero sizes = sym (zero-mul L)
  length-joined (suc m) sizes =
      length-append (joined block m) (block (suc m))
      ∙ rw (length-joined m (λ i l h. sizes i l (omega arith)), sizes (suc m) (omega arith) (omega arith), suc-mul m L)

  pub block_of_joined : (m : ℕ) → Sizes m → (i : ℕ) → 1 ≤ i → i ≤ m → block_of L (joined block m) i ≡ block i
  unfolding joined block_of
  block_of_joined zero sizes i l g = absurd (omega arith)
  block_of_joined (suc m) sizes i l g = ⊎_elim last (λ b. before b (block_of_joined m fewer i l (le_of_suc-le-suc b))) (eq-or-lt_of_le g)
    where
      fewer : Sizes m
      fewer i l h = sizes i l (omega arith)

      last : i ≡ suc m → take L (drop ((i - 1) * L) (joined block m ++ block (suc m))) ≡ block i
      last e =
          let p : i - 1 ≡ m = omega arith in
          rw (p, drop_at (joined block m) (block (suc m)) (m * L) (length-joined m fewer), e) (take_all L (block (suc m)) (omega (arith, sizes (suc m) (omega arith) (omega arith))))

      before : i < suc m → block_of L (joined block m) i ≡ block i → take L (drop ((i - 1) * L) (joined block m ++ block (suc m))) ≡ block i
      before b e = mid_front (joined block m) (block (suc m)) ((i - 1) * L) L (rw (length-joined m fewer) (block_fits L i m l (le_of_suc-le-suc b))) ∙ e

  -- a buffer that begins with the blocks before j, and then gets block j
  pub joined_more : (buffer : List ℕ) (j : ℕ) → InBuffer L buffer j → length (block j) ≡ L → take ((j - 1) * L) buffer ≡ joined block (j - 1)
      → take (j * L) (with_block L buffer j (block j)) ≡ joined block j
  unfolding joined
  joined_more buffer zero i s e = absurd (omega (arith, i.first))
  joined_more buffer (suc j) i s e =
      let q : suc j - 1 ≡ j = omega arith in
      let p : suc j * L ≡ (suc j - 1) * L + L = suc-mul j L ∙ rw q in
      rw p (take_through L buffer (suc j) (block (suc j)) i s ∙ rw (e, q))

-- rules that agree join to the same
pub same_joined : (block other : ℕ → List ℕ) (m : ℕ) → ((i : ℕ) → 1 ≤ i → i ≤ m → block i ≡ other i) → joined block m ≡ joined other m
unfolding joined
same_joined block other zero h = refl
same_joined block other (suc m) h = rw (same_joined block other m (λ i a b. h i a (omega arith)), h (suc m) (omega arith) (omega arith))
