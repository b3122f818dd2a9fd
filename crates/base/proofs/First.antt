-- The first number of a range that passes a test.
-- Assumes nothing.
use mathlib.Core.Path.{◌≡◌, refl, sym, ap, ◌∙◌}
use mathlib.Core.Bool.{Bool, true, false, false≢true}
use Prim.Native.Nat.{ℕ, zero, suc, ◌+◌, ◌≤◌, ◌<◌}
use native.Mathlib.Decide.{ℕ_discrete}
use native.Mathlib.Omega.{arith}
use Rattle.base.specs.Ranges.{first_from}
use Rattle.base.proofs.Tests.{is_false}

module _ (test : ℕ → Bool) where
  pass : (j m : ℕ) → test j ≡ true → first_from test j (suc m) ≡ j
  unfolding first_from
  pass j m e = rw e

  skip : (j m : ℕ) → test j ≡ false → first_from test j (suc m) ≡ first_from test (suc j) m
  unfolding first_from
  skip j m e = rw e

  -- a number that passes, where those before it do not
  pub first_of : (j m i : ℕ) → j ≤ i → i < j + m → test i ≡ true → ((h : ℕ) → j ≤ h → h < i → test h ≡ false) → first_from test j m ≡ i
  first_of j zero i l u t before = absurd (omega arith)
  first_of j (suc m) i l u t before = go (ℕ_discrete j i) (λ g. first_of (suc j) m i g (omega arith) t (λ h a b. before h (omega arith) b))
    where
      go : Dec (j ≡ i) → (suc j ≤ i → first_from test (suc j) m ≡ i) → first_from test j (suc m) ≡ i
      go (yes e) later = pass j m (ap test e ∙ t) ∙ e
      go (no e) later = skip j m (before j (omega arith) (omega arith)) ∙ later (omega arith)

  pub first_none : (j m : ℕ) → ((h : ℕ) → j ≤ h → h < j + m → test h ≡ false) → first_from test j m ≡ 0
  unfolding first_from
  first_none j zero none = refl
  first_none j (suc m) none = skip j m (none j (omega arith) (omega arith)) ∙ first_none (suc j) m (λ h a b. none h (omega arith) (omega arith))

  -- what is found, if anything is, lies in the range and passes
  pub record Found (j m r : ℕ) : Type 0 where
    pub from : j ≤ r
    pub below : r < j + m
    pub passes : test r ≡ true

  pub found : (j m : ℕ) → 1 ≤ first_from test j m → Found j m (first_from test j m)
  unfolding first_from
  found j zero h = absurd (omega arith)
  found j (suc m) h = go (test j) refl (λ g. found (suc j) m g)
    where
      go : (b : Bool) → test j ≡ b → (1 ≤ first_from test (suc j) m → Found (suc j) m (first_from test (suc j) m)) → Found j (suc m) (first_from test j (suc m))
      go true e later = rw (pass j m e) (record { from = omega arith; below = omega arith; passes = e })
      go false e later =
          let f = later (rw (skip j m e) at h) in
          rw (skip j m e) (record { from = omega (arith, f.from); below = omega (arith, f.below); passes = f.passes })

  -- where a number passes, one is found, and none after it
  pub first_least : (j m i : ℕ) → 1 ≤ j → j ≤ i → i < j + m → test i ≡ true → (1 ≤ first_from test j m) × (first_from test j m ≤ i)
  first_least j zero i p l h t = absurd (omega arith)
  first_least j (suc m) i p l h t = go (test j) refl (λ g. first_least (suc j) m i (omega arith) g (omega arith) t)
    where
      go : (b : Bool) → test j ≡ b → (suc j ≤ i → (1 ≤ first_from test (suc j) m) × (first_from test (suc j) m ≤ i)) → (1 ≤ first_from test j (suc m)) × (first_from test j (suc m) ≤ i)
      go true e later = rw (pass j m e) (p, l)
      go false e later =
          let ne : j ≡ i → ⊥ = λ q. false≢true (sym e ∙ ap test q ∙ t) in
          rw (skip j m e) (later (omega arith))

  -- where none is found, none passes
  pub first_zero : (j m : ℕ) → 1 ≤ j → first_from test j m ≡ 0 → (i : ℕ) → j ≤ i → i < j + m → test i ≡ false
  first_zero j m p e i l h = is_false (test i) (λ t. omega (arith, first_least j m i p l h t))

-- tests that agree find the same
pub first_same : (s t : ℕ → Bool) (j m : ℕ) → ((i : ℕ) → j ≤ i → i < j + m → s i ≡ t i) → first_from s j m ≡ first_from t j m
unfolding first_from
first_same s t j zero h = refl
first_same s t j (suc m) h = rw (h j (omega arith) (omega arith), first_same s t (suc j) m (λ i a b. h i (omega arith) (omega arith)))
