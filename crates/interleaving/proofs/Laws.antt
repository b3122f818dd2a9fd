-- Interleaving is a transpose, of L rows of k bytes, and its inverse one of k rows of L bytes.
-- Assumes nothing.
use mathlib.Core.Path.{◌≡◌, sym, ap, ◌∙◌}
use mathlib.Core.List.{List}
use mathlib.Core.Logic.{◌⊎◌, inl, inr}
use Prim.Native.Nat.{ℕ, ◌+◌, ◌-◌, ◌*◌, ◌/◌, ◌%◌, ◌≤◌, ◌<◌}
use native.Mathlib.Nat.{mul_comm, mod-lt, mod-eq_of_lt, mod-add-mod, mod-eq-sub-mod}
use native.Mathlib.Decide.{dec_lt, ℕ_discrete}
use native.Mathlib.Omega.{arith}
use lib.ListN.{length, get_or}
use Rattle.base.specs.Ranges.{list_from}
use Rattle.base.proofs.RangeLaws.{length-list_from, get_or-list_from}
use Rattle.blocks.specs.Blocks.{joined, block_of}
use Rattle.blocks.proofs.BlockLaws.{block_at}
use Rattle.blocks.proofs.JoinedLaws.{length-joined, block_of_joined}
use Rattle.transposition.specs.Inner.{transposed}
use Rattle.transposition.proofs.Places.{place_div, place_mod, place_lt}
use Rattle.transposition.proofs.TransposeLaws.{length-transposed, transposed_at, is_transposed, transposed_twice}
use Rattle.interleaving.specs.Interleaved.{block_for, interleaved, deinterleaved}
use Rattle.interleaving.specs.Claims.{LostBlock, SameByte}

-- ---- transposes

module _ (k L : ℕ) (bytes : List ℕ) where
  pub length-interleaved : length (interleaved k L bytes) ≡ k * L
  unfolding interleaved
  length-interleaved = length-joined L _ k (λ i l h. length-list_from _ 0 L)

  pub length-deinterleaved : length (deinterleaved k L bytes) ≡ k * L
  unfolding deinterleaved
  length-deinterleaved = length-list_from _ 0 (k * L)

  interleaved_at : (i p : ℕ) → i < k → p < L → get_or (interleaved k L bytes) (i * L + p) 0 ≡ get_or bytes (p * k + i) 0
  unfolding interleaved
  interleaved_at i p h g =
      let e : i + 1 - 1 ≡ i = omega arith in
      sym (block_at L (joined (λ i. list_from (λ p. get_or bytes (p * k + (i - 1)) 0) 0 L) k) i p g)
      ∙ rw (block_of_joined L (λ i. list_from (λ p. get_or bytes (p * k + (i - 1)) 0) 0 L) k (λ i l h. length-list_from _ 0 L) (i + 1) (omega arith) (omega arith))
      (get_or-list_from _ L p 0 g ∙ ap (λ (x : ℕ). get_or bytes (p * k + x) 0) e)

  pub interleaved_is : interleaved k L bytes ≡ transposed L k bytes
  interleaved_is =
      is_transposed L k (transposed L k bytes) (interleaved k L bytes) (length-transposed L k bytes) (length-interleaved ∙ mul_comm k L)
      (λ p i h g. interleaved_at i p g h ∙ sym (transposed_at L k bytes p i h g))

  pub deinterleaved_at : (t : ℕ) → t < k * L → get_or (deinterleaved k L bytes) t 0 ≡ get_or (block_of L bytes (t % k + 1)) (t / k) 0
  unfolding deinterleaved
  deinterleaved_at t h = get_or-list_from _ (k * L) t 0 h

  pub deinterleaved_is : deinterleaved k L bytes ≡ transposed k L bytes
  deinterleaved_is =
      is_transposed k L (transposed k L bytes) (deinterleaved k L bytes) (length-transposed k L bytes) length-deinterleaved
      (λ i p h g. deinterleaved_at (p * k + i) (place_lt p i L k g h)
      ∙ rw (place_mod p i k h, place_div p i k h) (block_at L bytes i p g)
      ∙ sym (transposed_at k L bytes i p h g))

-- each undoes the other
pub there_and_back : (k L : ℕ) (bytes : List ℕ) → length bytes ≡ k * L → deinterleaved k L (interleaved k L bytes) ≡ bytes
there_and_back k L bytes e = rw (deinterleaved_is k L (interleaved k L bytes), interleaved_is k L bytes) (transposed_twice L k bytes (e ∙ mul_comm k L))

pub back_and_there : (k L : ℕ) (bytes : List ℕ) → length bytes ≡ k * L → interleaved k L (deinterleaved k L bytes) ≡ bytes
back_and_there k L bytes e = rw (interleaved_is k L (deinterleaved k L bytes), deinterleaved_is k L bytes) (transposed_twice k L bytes e)

-- ---- a loss is thin

-- a byte whose block is the same
pub others_right : (k L : ℕ) (blocks others : List ℕ) (t : ℕ) → t < k * L → block_of L blocks (block_for k t) ≡ block_of L others (block_for k t) → SameByte k L blocks others t
others_right k L blocks others t h e = deinterleaved_at k L blocks t h ∙ ap (λ (block : List ℕ). get_or block (t / k) 0) e ∙ sym (deinterleaved_at k L others t h)

-- two numbers fewer than k apart leave different remainders
pub apart : (k t d : ℕ) → 1 ≤ d → d < k → block_for k t ≡ block_for k (t + d) → ⊥
apart k t d h g e = go (dec_lt (t % k + d) k)
  where
    r : t % k ≡ (t % k + d) % k
    r = let f : t % k ≡ (t + d) % k = omega arith in f ∙ sym (mod-add-mod t k d)

    go : Dec (t % k + d < k) → ⊥
    go (yes l) = omega (arith, r, mod-eq_of_lt l)
    go (no l) =
        let m : t % k < k = mod-lt t (omega arith) in
        let a : k ≤ t % k + d = omega arith in
        let b : t % k + d - k < k = omega arith in
        omega (arith, r, mod-eq-sub-mod a, mod-eq_of_lt b)

-- where one block is lost, one of the two is right
pub one_right : (k L i : ℕ) (blocks others : List ℕ) → LostBlock k L i blocks others
    → (t d : ℕ) → 1 ≤ d → d < k → t + d < k * L → SameByte k L blocks others t ⊎ SameByte k L blocks others (t + d)
one_right k L i blocks others lost t d h g l = go (ℕ_discrete (block_for k t) i)
  where
    same : (t : ℕ) → t < k * L → (block_for k t ≡ i → ⊥) → SameByte k L blocks others t
    same t f n =
        let m : t % k < k = mod-lt t (omega arith) in
        others_right k L blocks others t f (lost (t % k + 1) (omega arith) (omega arith) n)

    go : Dec (block_for k t ≡ i) → SameByte k L blocks others t ⊎ SameByte k L blocks others (t + d)
    go (no n) = inl (same t (omega arith) n)
    go (yes e) = inr (same (t + d) l (λ f. apart k t d h g (e ∙ sym f)))
