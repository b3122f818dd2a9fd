-- Texts put one after the other into a buffer are one text.
-- Assumes nothing.
use mathlib.Core.Path.{◌≡◌, refl, sym, ap, ◌∙◌}
use mathlib.Core.List.{List, ◌++◌}
use Prim.Native.Nat.{ℕ}
use native.Mathlib.Omega.{arith}
use lib.ListN.{length, drop, length-append}
use borrow.Rule.Slice.PartMut.{same_len_mid}
use Rattle.blocks.proofs.PartLaws.{put_beside, length_mid}
use Rattle.listing.specs.Inner.{Put}

module _ {out : List ℕ} {at : ℕ} {text after : List ℕ} {end : ℕ} (w : Put out at text after end) where
  -- the buffer keeps its length
  pub kept : length after ≡ length out
  kept = ap length w.is ∙ same_len_mid at (length text) out text (sym (length_mid out at (length text) (omega (arith, w.ends, w.fits))))

  -- the next text
  pub then : {more next : List ℕ} {place : ℕ} → Put after end more next place → Put out at (text ++ more) next place
  then {more} {next} {place} v =
      record {
        is = v.is ∙ rw (w.is, w.ends, length-append text more) (put_beside out text more at (length text) (length more) (omega (arith, w.ends, w.fits)) refl);
        ends = omega (arith, v.ends, w.ends, length-append text more);
        fits = omega (arith, v.fits, kept);
      }

-- a text at the front of the buffer
pub front : {out text after : List ℕ} {end : ℕ} → Put out 0 text after end → (end ≡ length text) × (after ≡ text ++ drop (length text) out)
front w = (omega (arith, w.ends), w.is)
