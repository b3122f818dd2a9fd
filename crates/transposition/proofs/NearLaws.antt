-- A buffer that nears a goal: a byte written, a piece written, and pieces written one after the other.
-- Assumes nothing.
use mathlib.Core.Path.{◌≡◌, refl, ◌∙◌}
use mathlib.Core.List.{List, [], ◌∷◌}
use Prim.Native.Nat.{ℕ, zero, suc, ◌+◌, ◌-◌, ◌*◌, ◌≤◌, ◌<◌}
use native.Mathlib.Nat.{add-zero}
use native.Mathlib.Decide.{dec_lt}
use native.Mathlib.Omega.{arith}
use borrow.Author.Count.{below_more}
use borrow.Rule.Slice.PartMut.{put_mid}
use lib.ListN.{length, get_or, set}
use Rattle.blocks.proofs.PartLaws.{set_byte, put_inside, put_before, put_after, length_put}
use Rattle.transposition.specs.Inner.{Right, Nears}

-- a piece that is right makes no byte wrong
module _ (s v : List ℕ) (at n : ℕ) (fits : at + n ≤ length s) (size : length v ≡ n) (goal : List ℕ) (right : (j : ℕ) → j < n → get_or v j 0 ≡ get_or goal (at + j) 0) where
  pub put_right : (j : ℕ) → j < n → Right goal (put_mid at n s v) (at + j)
  put_right j h = put_inside s v at n fits size j h ∙ right j h

  pub put_stay : (u : ℕ) → Right goal s u → Right goal (put_mid at n s v) u
  put_stay u r = go (dec_lt u at) (dec_lt u (at + n))
    where
      go : Dec (u < at) → Dec (u < at + n) → Right goal (put_mid at n s v) u
      go (yes h) d = put_before s v at n fits size u h ∙ r
      go (no h) (yes g) =
          let e : at + (u - at) ≡ u = omega arith in
          rw e at (put_right (u - at) (omega arith))
      go (no h) (no g) = put_after s v at n fits size u (omega arith) ∙ r

-- ---- pieces, one after the other

pub near_none : (goal s : List ℕ) (size at stride : ℕ) → Nears goal s s 0 size at stride
near_none goal s size at stride = record { length_stays = refl; stay = λ u r. r; right = λ i j h g. absurd (omega arith) }

-- what nears the goal once more
module _ {goal s t : List ℕ} {i size at stride : ℕ} (w : Nears goal s t i size at stride) where
  -- a piece
  pub near_piece : (v : List ℕ) → at + i * stride + size ≤ length s → length v ≡ size → ((j : ℕ) → j < size → get_or v j 0 ≡ get_or goal (at + i * stride + j) 0)
      → Nears goal s (put_mid (at + i * stride) size t v) (i + 1) size at stride
  near_piece v fits l e =
      let f : at + i * stride + size ≤ length t = omega (arith, w.length_stays) in
      record {
        length_stays = length_put t v (at + i * stride) size f l ∙ w.length_stays;
        stay = λ u r. put_stay t v (at + i * stride) size f l goal e u (w.stay u r);
        right = λ h j a b. below_more (λ (h : ℕ). Right goal (put_mid (at + i * stride) size t v) (at + h * stride + j)) i
            (λ h g. put_stay t v (at + i * stride) size f l goal e (at + h * stride + j) (w.right h j g b))
            (put_right t v (at + i * stride) size f l goal e j b) h a;
      }

-- a byte is a piece
pub near_byte : {goal s t : List ℕ} {i at stride : ℕ} → Nears goal s t i 1 at stride → (v : ℕ) → at + i * stride < length s → v ≡ get_or goal (at + i * stride) 0
    → Nears goal s (set t (at + i * stride) v) (i + 1) 1 at stride
near_byte {goal} {s} {t} {i} {at} {stride} w v fits e =
    rw (set_byte t (at + i * stride) v (omega (arith, w.length_stays))) (near_piece w (v ∷ []) (omega arith) refl first)
  where
    first : (j : ℕ) → j < 1 → get_or (v ∷ []) j 0 ≡ get_or goal (at + i * stride + j) 0
    first zero h = rw (add-zero (at + i * stride)) e
    first (suc j) h = absurd (omega arith)
