-- A set of numbers that is closed under XOR and a number outside it are told apart by a choice of digits.
-- Assumes nothing.
use mathlib.Core.Path.{◌≡◌, refl, sym, ap, ap₂, ◌∙◌}
use mathlib.Core.Bool.{Bool, true, false, cond, ◌||◌, or-true, or_comm}
use mathlib.Core.Logic.{◌⊎◌, inl, inr, ⊎_elim}
use Prim.Native.Nat.{ℕ, zero, suc, ◌^◌, ◌<◌}
use native.Mathlib.Nat.{le_of_suc-le-suc, not-suc-le-zero, eq-or-lt_of_le}
use native.Mathlib.Omega.{arith}
use lib.Bits.{bit_xor, xor_comm, xor_self, xor_zero_r}
use Rattle.base.proofs.Tests.{not_both}
use Rattle.base.proofs.Xor.{xor_assoc, xor_left_comm, xor_middle}
use Rattle.encoding.proofs.Linear.{has_bit, xor_over}
use Rattle.leftover.proofs.Digits.{all_digits}
use Rattle.leftover.proofs.Tests.{or_either, choice_below}

-- ---- sets that leave a number out

-- a set with 0 and without v, closed under XOR
pub record Apart (v : ℕ) (S : ℕ → Bool) : Type 0 where
  pub has_zero : S 0 ≡ true
  pub closed : (x y : ℕ) → S x ≡ true → S y ≡ true → S (bit_xor x y) ≡ true
  pub leaves : S v ≡ false

-- such a set that holds the whole of S
pub record Above (v : ℕ) (S : ℕ → Bool) : Type 0 where
  pub set : ℕ → Bool
  pub apart : Apart v set
  pub holds : (x : ℕ) → S x ≡ true → set x ≡ true

pub xor_undo : (x e : ℕ) → bit_xor (bit_xor x e) e ≡ x
xor_undo x e = xor_assoc x e e ∙ ap (bit_xor x) (xor_self e) ∙ xor_zero_r x

-- the numbers of S, and their XORs with e
module _ (S : ℕ → Bool) (e : ℕ) where
  pub widened : ℕ → Bool
  widened x = S x || S (bit_xor x e)

  pub widen : (x : ℕ) → S x ≡ true → widened x ≡ true
  unfolding widened
  widen x h = rw h

  pub widen_by : (x : ℕ) → S (bit_xor x e) ≡ true → widened x ≡ true
  unfolding widened
  widen_by x h = rw h (or-true (S x))

  turn : (x : ℕ) → widened (bit_xor x e) ≡ widened x
  unfolding widened
  turn x = rw (xor_undo x e) (or_comm (S (bit_xor x e)) (S x))

  -- it is closed where the XOR of two numbers of S never leaves it
  module _ (near : (x y : ℕ) → S x ≡ true → S y ≡ true → widened (bit_xor x y) ≡ true) where
    closed_right : (x y : ℕ) → S x ≡ true → widened y ≡ true → widened (bit_xor x y) ≡ true
    unfolding widened
    closed_right x y a h =
        ⊎_elim (λ (b : S y ≡ true). near x y a b)
        (λ (b : S (bit_xor y e) ≡ true). sym (turn (bit_xor x y)) ∙ ap widened (xor_assoc x y e) ∙ near x (bit_xor y e) a b) (or_either (S y) (S (bit_xor y e)) h)

    closed_both : (x y : ℕ) → widened x ≡ true → widened y ≡ true → widened (bit_xor x y) ≡ true
    unfolding widened
    closed_both x y g h =
        ⊎_elim (λ (a : S x ≡ true). closed_right x y a h)
        (λ (a : S (bit_xor x e) ≡ true). sym (turn (bit_xor x y)) ∙ ap widened past ∙ closed_right (bit_xor x e) y a h) (or_either (S x) (S (bit_xor x e)) g)
      where
        past : bit_xor (bit_xor x y) e ≡ bit_xor (bit_xor x e) y
        past = xor_assoc x y e ∙ ap (bit_xor x) (xor_comm y e) ∙ sym (xor_assoc x e y)

    pub widened_apart : (v : ℕ) → S 0 ≡ true → S v ≡ false → S (bit_xor v e) ≡ false → Apart v widened
    unfolding widened
    widened_apart v z out out-by = record { has_zero = widen 0 z; closed = closed_both; leaves = rw (out, out-by) }

-- ---- sets that are as large as they can be

-- e is in the set, or its XOR with v is
abbrev Settles : (ℕ → Bool) → ℕ → ℕ → Type 0
Settles M v e = (M e ≡ true) ⊎ (M (bit_xor v e) ≡ true)

-- a set above S that settles the first k powers of two
record Grown (k v : ℕ) (S : ℕ → Bool) : Type 0 where
  above : Above v S
  units : (i : ℕ) → i < k → Settles above.set v (2 ^ i)

-- a set above S that settles e
record Split (v e : ℕ) (S : ℕ → Bool) : Type 0 where
  above : Above v S
  one : Settles above.set v e

split : (v e : ℕ) (S : ℕ → Bool) → Apart v S → Split v e S
split v e S a = go (S (bit_xor v e)) refl
  where
    go : (b : Bool) → S (bit_xor v e) ≡ b → Split v e S
    go true h = record { above = record { set = S; apart = a; holds = λ x p. p }; one = inr h }
    go false h =
        record {
          above = record {
            set = widened S e;
            apart = widened_apart S e (λ x y p q. widen S e (bit_xor x y) (a.closed x y p q)) v a.has_zero a.leaves h;
            holds = widen S e;
          };
          one = inl (widen_by S e e (rw (xor_self e) a.has_zero));
        }

grow : (k v : ℕ) (S : ℕ → Bool) → Grown k v S → Grown (suc k) v S
grow k v S g =
    record {
      above = record { set = s.above.set; apart = s.above.apart; holds = λ x p. s.above.holds x (g.above.holds x p) };
      units = λ i h. ⊎_elim (λ (e : i ≡ k). rw e s.one) (λ (l : i < k). still i (g.units i l)) (eq-or-lt_of_le (le_of_suc-le-suc h));
    }
  where
    s : Split v (2 ^ k) g.above.set
    s = split v (2 ^ k) g.above.set g.above.apart

    still : (i : ℕ) → Settles g.above.set v (2 ^ i) → Settles s.above.set v (2 ^ i)
    still i (inl p) = inl (s.above.holds (2 ^ i) p)
    still i (inr p) = inr (s.above.holds (bit_xor v (2 ^ i)) p)

grown : (k v : ℕ) (S : ℕ → Bool) → Apart v S → Grown k v S
grown zero v S a = record { above = record { set = S; apart = a; holds = λ x p. p }; units = λ i h. absurd (not-suc-le-zero h) }
grown (suc k) v S a = grow k v S (grown k v S a)

-- ---- the digits

-- n is 0 for a number of the set, and 1 for one whose XOR with v is in it
data Side (v : ℕ) (M : ℕ → Bool) (x n : ℕ) : Type 0 where
  inside : n ≡ 0 → M x ≡ true → Side v M x n
  beside : n ≡ 1 → M (bit_xor v x) ≡ true → Side v M x n

module _ (v : ℕ) (M : ℕ → Bool) (a : Apart v M) where
  side_xor : (x n y m : ℕ) → Side v M x n → Side v M y m → Side v M (bit_xor x y) (bit_xor n m)
  side_xor x n y m (inside p s) (inside q t) = inside (ap₂ bit_xor p q) (a.closed x y s t)
  side_xor x n y m (inside p s) (beside q t) = beside (ap₂ bit_xor p q) (rw (xor_left_comm v x y) (a.closed x (bit_xor v y) s t))
  side_xor x n y m (beside p s) (inside q t) = beside (ap₂ bit_xor p q) (rw (← xor_assoc v x y) (a.closed (bit_xor v x) y s t))
  side_xor x n y m (beside p s) (beside q t) =
      inside (ap₂ bit_xor p q)
      (ap M (sym (xor_middle v x v y ∙ ap (λ (z : ℕ). bit_xor z (bit_xor x y)) (xor_self v))) ∙ a.closed (bit_xor v x) (bit_xor v y) s t)

  side_over : (k : ℕ) (test : ℕ → Bool) (f g : ℕ → ℕ) → ((i : ℕ) → i < k → Side v M (f i) (g i)) → Side v M (xor_over k test f) (xor_over k test g)
  unfolding xor_over
  side_over zero test f g h = inside refl a.has_zero
  side_over (suc k) test f g h =
      side_xor (xor_over k test f) (xor_over k test g) (cond (test k) (f k) 0) (cond (test k) (g k) 0)
      (side_over k test f g (λ i l. h i (omega arith))) (either (test k))
    where
      either : (b : Bool) → Side v M (cond b (f k) 0) (cond b (g k) 0)
      either true = h k (omega arith)
      either false = inside refl a.has_zero

-- digits that give 0 all over S and another number at v
pub record Separated (k v : ℕ) (S : ℕ → Bool) : Type 0 where
  pub digit : ℕ → ℕ
  pub small : (i : ℕ) → digit i < 2
  pub zero_on : (x : ℕ) → x < 2 ^ k → S x ≡ true → xor_over k (has_bit x) digit ≡ 0
  pub not_at : xor_over k (has_bit v) digit ≡ 0 → ⊥

pub separate : (k v : ℕ) (S : ℕ → Bool) → v < 2 ^ k → Above v S → Separated k v S
separate k v S h b =
    record {
      digit = digit;
      small = λ i. choice_below (M (2 ^ i)) (omega arith) (omega arith);
      zero_on = λ x l p. at_zero x (g.above.holds x (b.holds x p)) (side x l);
      not_at = at_v (side v h);
    }
  where
    g : Grown k v b.set
    g = grown k v b.set b.apart

    M : ℕ → Bool
    M = g.above.set

    digit : ℕ → ℕ
    digit i = cond (M (2 ^ i)) 0 1

    unit : (i : ℕ) → i < k → Side v M (2 ^ i) (digit i)
    unit i l = go (M (2 ^ i)) refl (g.units i l)
      where
        go : (t : Bool) → M (2 ^ i) ≡ t → Settles M v (2 ^ i) → Side v M (2 ^ i) (cond t 0 1)
        go true e u = inside refl e
        go false e (inl p) = absurd (not_both (M (2 ^ i)) p e)
        go false e (inr p) = beside refl p

    side : (x : ℕ) → x < 2 ^ k → Side v M x (xor_over k (has_bit x) digit)
    side x l = rw (all_digits k x l) at (side_over v M g.above.apart k (has_bit x) (λ i. 2 ^ i) digit unit)

    at_zero : (x : ℕ) → M x ≡ true → Side v M x (xor_over k (has_bit x) digit) → xor_over k (has_bit x) digit ≡ 0
    at_zero x p (inside e s) = e
    at_zero x p (beside e s) =
        absurd (not_both (M v) (ap M (sym (xor_undo v x)) ∙ g.above.apart.closed (bit_xor v x) x s p) g.above.apart.leaves)

    at_v : Side v M v (xor_over k (has_bit v) digit) → xor_over k (has_bit v) digit ≡ 0 → ⊥
    at_v (inside e s) z = not_both (M v) s g.above.apart.leaves
    at_v (beside e s) z = omega arith
