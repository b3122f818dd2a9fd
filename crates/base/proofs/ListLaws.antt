-- Laws of lists: a list of none, an element of what each becomes, a list for each element, one after the other, and what stands in a list.
-- Assumes nothing.
use mathlib.Core.Path.{◌≡◌, refl, ap₂}
use mathlib.Core.List.{List, [], ◌∷◌, ◌++◌, append_assoc, map, flat_map}
use Prim.Native.Nat.{ℕ, zero, suc, ◌<◌}
use native.Mathlib.Omega.{arith}
use lib.ListN.{length, get_or}

pub length_zero : {A : Type 0} (s : List A) → length s ≡ 0 → s ≡ []
length_zero [] e = refl
length_zero (x ∷ s) e = absurd (omega arith)

pub flat_map-append : {A B : Type 0} (g : A → List B) (s t : List A) → flat_map g (s ++ t) ≡ flat_map g s ++ flat_map g t
unfolding flat_map
flat_map-append g [] t = refl
flat_map-append g (x ∷ s) t = rw (flat_map-append g s t, append_assoc (g x) (flat_map g s) (flat_map g t))

-- each element of a list that is there, made into another
pub get_d_map : {A B : Type 0} (g : A → B) (s : List A) (i : ℕ) (a : A) (b : B) → i < length s → get_or (map g s) i b ≡ g (get_or s i a)
get_d_map g [] i a b h = absurd (omega arith)
get_d_map g (x ∷ s) zero a b h = refl
get_d_map g (x ∷ s) (suc i) a b h = get_d_map g s i a b (omega arith)

-- two rules that agree on the elements of a list make the same of it
pub map_same : {A B : Type 0} (g h : A → B) (s : List A) (a : A) → ((i : ℕ) → i < length s → g (get_or s i a) ≡ h (get_or s i a)) → map g s ≡ map h s
map_same g h [] a e = refl
map_same g h (x ∷ s) a e = ap₂ ◌∷◌ (e 0 (omega arith)) (map_same g h s a (λ i l. e (suc i) (omega arith)))

pub flat_map-map : {A B C : Type 0} (g : B → List C) (h : A → B) (s : List A) → flat_map g (map h s) ≡ flat_map (λ x. g (h x)) s
unfolding flat_map
flat_map-map g h [] = refl
flat_map-map g h (x ∷ s) = rw (flat_map-map g h s)

pub flat_map_same : {A B : Type 0} (g h : A → List B) (s : List A) (a : A) → ((i : ℕ) → i < length s → g (get_or s i a) ≡ h (get_or s i a)) → flat_map g s ≡ flat_map h s
unfolding flat_map
flat_map_same g h [] a e = refl
flat_map_same g h (x ∷ s) a e = ap₂ ◌++◌ (e 0 (omega arith)) (flat_map_same g h s a (λ i l. e (suc i) (omega arith)))

-- what is not the default stands in the list
pub within : {A : Type 0} (list : List A) (d : A) (j : ℕ) → (get_or list j d ≡ d → ⊥) → j < length list
within [] d j h = absurd (h refl)
within (x ∷ list) d zero h = omega arith
within (x ∷ list) d (suc j) h = omega (arith, within list d j h)
