-- The XOR of the values of a list of numbers: of lists put together, and of few numbers in the place of many. Where the values have k
-- digits, at most k numbers have the same XOR: with the top digit taken out of the others by one that has it, one digit fewer is left,
-- and that one is added where it is wanted.
-- Assumes nothing.
use mathlib.Core.Path.{◌≡◌, refl, sym, ap, ap₂, ◌∙◌}
use mathlib.Core.List.{List, [], ◌∷◌, ◌++◌}
use mathlib.Core.Logic.{◌⊎◌, inl, inr}
use Prim.Native.Nat.{ℕ, zero, suc, ◌+◌, ◌-◌, ◌*◌, ◌^◌, ◌≤◌, ◌<◌}
use native.Mathlib.Nat.{pow-suc}
use native.Mathlib.Decide.{dec_lt}
use native.Mathlib.Omega.{arith}
use lib.Bits.{bit_xor, xor_lt, xor_block}
use lib.ListN.{length}
use lib.Pow.{pow_pos}
use Rattle.base.specs.Numbers.{Each, xor_of}
use Rattle.base.proofs.EachLaws.{each_none, each_cons, each_first, each_rest}
use Rattle.base.proofs.Xor.{xor_assoc, xor_left_comm, xor_cancel}

pub xor_of-append : (v : ℕ → ℕ) (s t : List ℕ) → xor_of v (s ++ t) ≡ bit_xor (xor_of v s) (xor_of v t)
xor_of-append v [] t = refl
xor_of-append v (x ∷ s) t = ap (bit_xor (v x)) (xor_of-append v s t) ∙ sym (xor_assoc (v x) (xor_of v s) (xor_of v t))

-- the values of a list's numbers have k digits
abbrev pub Below : (ℕ → ℕ) → ℕ → List ℕ → Type 0
Below v k list = Each (λ i. v i < 2 ^ k) list

pub xor_of-below : (v : ℕ → ℕ) (k : ℕ) (list : List ℕ) → Below v k list → xor_of v list < 2 ^ k
xor_of-below v k [] b = pow_pos k
xor_of-below v k (x ∷ list) b =
    xor_lt k (v x) (xor_of v list) (each_first (λ i. v i < 2 ^ k) x list b) (xor_of-below v k list (each_rest (λ i. v i < 2 ^ k) x list b))

-- two numbers with the same top digit
top_cancels : (k x y : ℕ) → 2 ^ k ≤ x → x < 2 ^ suc k → 2 ^ k ≤ y → y < 2 ^ suc k → bit_xor x y < 2 ^ k
top_cancels k x y a b c d =
    let hx : x - 2 ^ k < 2 ^ k = omega (arith, pow-suc 2 k) in
    let hy : y - 2 ^ k < 2 ^ k = omega (arith, pow-suc 2 k) in
    let ex : x ≡ 1 * 2 ^ k + (x - 2 ^ k) = omega arith in
    let ey : y ≡ 1 * 2 ^ k + (y - 2 ^ k) = omega arith in
    let e : bit_xor x y ≡ 0 * 2 ^ k + bit_xor (x - 2 ^ k) (y - 2 ^ k) = ap₂ bit_xor ex ey ∙ xor_block k 1 1 (x - 2 ^ k) (y - 2 ^ k) hx hy in
    omega (arith, e, xor_lt k (x - 2 ^ k) (y - 2 ^ k) hx hy)

-- ---- the top digit taken out

-- w, which has the top digit, added to each value that has it
module _ (v : ℕ → ℕ) (k w : ℕ) where
  out : (x : ℕ) → Dec (x < 2 ^ k) → ℕ
  out x (yes h) = x
  out x (no h) = bit_xor x w

  less : ℕ → ℕ
  less i = out (v i) (dec_lt (v i) (2 ^ k))

  -- an XOR is the same without the digit, or differs by w
  shifted : (list : List ℕ) → (xor_of v list ≡ xor_of less list) ⊎ (xor_of v list ≡ bit_xor w (xor_of less list))
  unfolding less out
  shifted [] = inl refl
  shifted (x ∷ list) = go (dec_lt (v x) (2 ^ k)) (shifted list)
    where
      rest : ℕ
      rest = xor_of less list

      go : (d : Dec (v x < 2 ^ k)) → (xor_of v list ≡ rest) ⊎ (xor_of v list ≡ bit_xor w rest)
          → (bit_xor (v x) (xor_of v list) ≡ bit_xor (out (v x) d) rest) ⊎ (bit_xor (v x) (xor_of v list) ≡ bit_xor w (bit_xor (out (v x) d) rest))
      go (yes h) (inl e) = inl (ap (bit_xor (v x)) e)
      go (yes h) (inr e) = inr (ap (bit_xor (v x)) e ∙ xor_left_comm (v x) w rest)
      go (no h) (inl e) =
          inr (ap (bit_xor (v x)) e ∙ sym (xor_cancel w (bit_xor (v x) rest)) ∙ ap (bit_xor w) (xor_left_comm w (v x) rest ∙ sym (xor_assoc (v x) w rest)))
      go (no h) (inr e) = inl (ap (bit_xor (v x)) e ∙ sym (xor_assoc (v x) w rest))

  less_below : 2 ^ k ≤ w → w < 2 ^ suc k → (i : ℕ) → v i < 2 ^ suc k → less i < 2 ^ k
  unfolding less out
  less_below from below i h = go (dec_lt (v i) (2 ^ k))
    where
      go : (d : Dec (v i < 2 ^ k)) → out (v i) d < 2 ^ k
      go (yes l) = l
      go (no l) = top_cancels k (v i) w (omega arith) h from below

-- ---- few numbers

module _ (P : ℕ → Type 0) where
  -- a number whose value has the top digit
  record Pivot (v : ℕ → ℕ) (k : ℕ) : Type 0 where
    at : ℕ
    holds : P at
    from : 2 ^ k ≤ v at
    below : v at < 2 ^ suc k

  -- there is one, or no value has that digit
  pivot : (v : ℕ → ℕ) (k : ℕ) (list : List ℕ) → Each P list → Below v (suc k) list → Below v k list ⊎ Pivot v k
  pivot v k [] a b = inl (each_none (λ i. v i < 2 ^ k))
  pivot v k (x ∷ list) a b = go (dec_lt (v x) (2 ^ k)) (pivot v k list (each_rest P x list a) (each_rest (λ i. v i < 2 ^ suc k) x list b))
    where
      go : Dec (v x < 2 ^ k) → Below v k list ⊎ Pivot v k → Below v k (x ∷ list) ⊎ Pivot v k
      go (no n) q = inr (record { at = x; holds = each_first P x list a; from = omega arith; below = each_first (λ i. v i < 2 ^ suc k) x list b })
      go (yes h) (inl q) = inl (each_cons (λ i. v i < 2 ^ k) x list h q)
      go (yes h) (inr q) = inr q

  -- at most k numbers with the property, of the same XOR
  pub record Reduced (v : ℕ → ℕ) (k : ℕ) (list : List ℕ) : Type 0 where
    pub some : List ℕ
    pub few : length some ≤ k
    pub each : Each P some
    pub same : xor_of v some ≡ xor_of v list

  zeros : (v : ℕ → ℕ) (list : List ℕ) → Below v 0 list → xor_of v list ≡ 0
  zeros v [] b = refl
  zeros v (x ∷ list) b =
      let e : v x ≡ 0 = omega (arith, each_first (λ i. v i < 1) x list b) in
      ap (λ (y : ℕ). bit_xor y (xor_of v list)) e ∙ zeros v list (each_rest (λ i. v i < 1) x list b)

  pub reduce : (k : ℕ) (v : ℕ → ℕ) (list : List ℕ) → Each P list → Below v k list → Reduced v k list
  reduce zero v list a b = record { some = []; few = omega arith; each = each_none P; same = sym (zeros v list b) }
  reduce (suc k) v list a b = go (pivot v k list a b) (λ u h. reduce k u list a h)
    where
      go : Below v k list ⊎ Pivot v k → ((u : ℕ → ℕ) → Below u k list → Reduced u k list) → Reduced v (suc k) list
      go (inl h) ih = let q = ih v h in record { some = q.some; few = omega (arith, q.few); each = q.each; same = q.same }
      go (inr p) ih = put (shifted v k (v p.at) list) (shifted v k (v p.at) q.some)
        where
          w : ℕ
          w = v p.at

          u : ℕ → ℕ
          u = less v k (v p.at)

          q : Reduced u k list
          q = ih u (λ i h. less_below v k (v p.at) p.from p.below _ (b i h))

          keep : xor_of v q.some ≡ xor_of v list → Reduced v (suc k) list
          keep e = record { some = q.some; few = omega (arith, q.few); each = q.each; same = e }

          add : bit_xor w (xor_of v q.some) ≡ xor_of v list → Reduced v (suc k) list
          add e = record { some = p.at ∷ q.some; few = omega (arith, q.few); each = each_cons P p.at q.some p.holds q.each; same = e }

          put : (xor_of v list ≡ xor_of u list) ⊎ (xor_of v list ≡ bit_xor w (xor_of u list))
              → (xor_of v q.some ≡ xor_of u q.some) ⊎ (xor_of v q.some ≡ bit_xor w (xor_of u q.some)) → Reduced v (suc k) list
          put (inl c) (inl d) = keep (d ∙ q.same ∙ sym c)
          put (inl c) (inr d) = add (ap (bit_xor w) d ∙ xor_cancel w (xor_of u q.some) ∙ q.same ∙ sym c)
          put (inr c) (inl d) = add (ap (bit_xor w) (d ∙ q.same) ∙ sym c)
          put (inr c) (inr d) = keep (d ∙ ap (bit_xor w) q.same ∙ sym c)
