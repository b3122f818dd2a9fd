-- The steps of a list that pass a test.
-- Assumes nothing.
use mathlib.Core.Path.{◌≡◌, refl, ap}
use mathlib.Core.Bool.{Bool, true, false, cond}
use mathlib.Core.List.{List, Memᴰ, [], ◌∷◌, ◌++◌}
use Rattle.planning.specs.Plan.{Step, steps_with}

module _ (test : Step → Bool) where
  pub with_append : (s t : List Step) → steps_with test (s ++ t) ≡ steps_with test s ++ steps_with test t
  unfolding steps_with
  with_append [] t = refl
  with_append (x ∷ s) t = go (test x) (with_append s t)
    where
      go : (b : Bool) → steps_with test (s ++ t) ≡ steps_with test s ++ steps_with test t
          → cond b (x ∷ steps_with test (s ++ t)) (steps_with test (s ++ t)) ≡ cond b (x ∷ steps_with test s) (steps_with test s) ++ steps_with test t
      go true e = ap (λ (l : List Step). x ∷ l) e
      go false e = e

  pub with_all : (s : List Step) → ((step : Step) → Memᴰ step s → test step ≡ true) → steps_with test s ≡ s
  unfolding steps_with
  with_all [] h = refl
  with_all (x ∷ s) h = rw (h x (Memᴰ.head refl)) (ap (λ (l : List Step). x ∷ l) (with_all s (λ step m. h step (Memᴰ.tail m))))

  pub with_none : (s : List Step) → ((step : Step) → Memᴰ step s → test step ≡ false) → steps_with test s ≡ []
  unfolding steps_with
  with_none [] h = refl
  with_none (x ∷ s) h = rw (h x (Memᴰ.head refl)) (with_none s (λ step m. h step (Memᴰ.tail m)))
