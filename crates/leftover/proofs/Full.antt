-- Simplex and tetrahedron: where no pair is left, a missing node's column is cut off from the live ones.
-- Assumes nothing.
use mathlib.Core.Path.{◌≡◌, refl, sym, ap, ◌∙◌}
use mathlib.Core.Bool.{Bool, true, false}
use mathlib.Core.Logic.{◌⊎◌, inl, inr, ⊎_elim}
use Prim.Native.Nat.{ℕ, ◌^◌, ◌<◌}
use native.Mathlib.Decide.{ℕ_discrete}
use native.Mathlib.Omega.{arith}
use lib.Bits.{bit_xor, xor_self, xor_lt}
use Rattle.base.proofs.Tests.{not_both}
use Rattle.base.proofs.Xor.{xor_assoc, xor_cancel}
use Rattle.families.specs.declared.Family.{Family}
use Rattle.families.specs.Families.{KInRange, IsNode, column_of}
use Rattle.families.proofs.FullLaws.{Full}
use Rattle.families.proofs.Laws.{column, node_is}
use Rattle.pairing.specs.Pairs.{NoPairLeft}
use Rattle.leftover.proofs.Cut.{Cut}
use Rattle.leftover.proofs.Known.{known, known_zero, known_live, known_below, known_xor, missing_unknown}
use Rattle.leftover.proofs.Separate.{Above, Separated, separate, widened, widen, widen_by, widened_apart, xor_undo}

module _ (f : Family) (k hole : ℕ) (r : KInRange f k) (full : Full f k hole) (live : ℕ → Bool) (done : NoPairLeft f k live) where
  abbrev S : ℕ → Bool
  S = known f k r live

  -- the XOR of two known columns is known, if it is not the hole
  near : (x y : ℕ) → S x ≡ true → S y ≡ true → (S (bit_xor x y) ≡ true) ⊎ (bit_xor x y ≡ hole)
  near x y p q = go (ℕ_discrete (bit_xor x y) hole) (ℕ_discrete (bit_xor x y) 0)
    where
      below : bit_xor x y < 2 ^ k
      below = xor_lt k x y (known_below f k r live x p) (known_below f k r live y q)

      go : Dec (bit_xor x y ≡ hole) → Dec (bit_xor x y ≡ 0) → (S (bit_xor x y) ≡ true) ⊎ (bit_xor x y ≡ hole)
      go (yes e) z = inr e
      go (no n) (yes e) = inl (known_xor f k r live done x y p q (inl e))
      go (no n) (no z) = inl (known_xor f k r live done x y p q (inr (full.every (bit_xor x y) (omega arith) below n)))

  module _ (v : ℕ) (out : S v ≡ false) (not_hole : v ≡ hole → ⊥) where
    -- v with the hole is known: then no two known columns have the hole for their XOR, since with them v would be known
    shut : S (bit_xor v hole) ≡ true → (x y : ℕ) → S x ≡ true → S y ≡ true → bit_xor x y ≡ hole → ⊥
    shut h x y p q e = ⊎_elim (λ t. more (near (bit_xor u x) y t q)) same (near u x h p)
      where
        u : ℕ
        u = bit_xor v hole

        same : bit_xor u x ≡ hole → ⊥
        same g = let e : x ≡ v = sym (xor_cancel u x) ∙ ap (bit_xor u) g ∙ xor_undo v hole in not_both (S v) (rw e at p) out

        sum : bit_xor (bit_xor u x) y ≡ v
        sum = xor_assoc u x y ∙ ap (bit_xor u) e ∙ xor_undo v hole

        more : (S (bit_xor (bit_xor u x) y) ≡ true) ⊎ (bit_xor (bit_xor u x) y ≡ hole) → ⊥
        more (inl t) = not_both (S v) (rw sum at t) out
        more (inr g) = not_hole (sym sum ∙ g)

    -- a set with all known columns and without v: the known ones alone, or with the hole
    above : Above v S
    above = go (S (bit_xor v hole)) refl
      where
        go : (t : Bool) → S (bit_xor v hole) ≡ t → Above v S
        go true h =
            record {
              set = S;
              apart = record {
                has_zero = known_zero f k r live;
                closed = λ x y p q. ⊎_elim (λ t. t) (λ e. absurd (shut h x y p q e)) (near x y p q);
                leaves = out;
              };
              holds = λ x p. p;
            }
        go false h = record { set = widened S hole; apart = widened_apart S hole wide v (known_zero f k r live) out h; holds = widen S hole }
          where
            wide : (x y : ℕ) → S x ≡ true → S y ≡ true → widened S hole (bit_xor x y) ≡ true
            wide x y p q =
                ⊎_elim (λ t. widen S hole (bit_xor x y) t)
                (λ e. widen_by S hole (bit_xor x y) (ap (λ (z : ℕ). S (bit_xor z hole)) e ∙ ap S (xor_self hole) ∙ known_zero f k r live)) (near x y p q)

  pub full_cut : (j : ℕ) → IsNode f k j → live j ≡ false → Cut f k live j
  full_cut j n l =
      record {
        digit = s.digit;
        small = s.small;
        zero_live = λ m i t. s.zero_on (column_of f k m) (column f k m r i).below (known_live f k r live m i t);
        not_at = s.not_at;
      }
    where
      not_hole : column_of f k j ≡ hole → ⊥
      not_hole e = omega (arith, node_is f k r hole j n e, full.none_at_hole, n.first)

      s : Separated k (column_of f k j) S
      s = separate k (column_of f k j) S (column f k j r n).below (above (column_of f k j) (missing_unknown f k r live j n l) not_hole)
