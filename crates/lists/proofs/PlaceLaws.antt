-- Places in a list: of a number that is there, in a list where no number stands twice, and of every number in an array.
-- Assumes nothing.
use mathlib.Core.Path.{◌≡◌, refl, sym, ap, ◌∙◌}
use mathlib.Core.Bool.{Bool, true, false, cond, not, ◌&&◌, ◌||◌, false≢true}
use mathlib.Core.List.{List, [], ◌∷◌}
use Prim.Native.Nat.{ℕ, zero, suc, ◌+◌, ◌≤◌, ◌<◌}
use native.Mathlib.Nat.{zero-add}
use native.Mathlib.Omega.{arith}
use borrow.Author.Tests.{ltb-true, lt-ltb, eqb-true, eqb-false, eq-eqb, ne_eqb, not-true}
use lib.Dec.{eqb}
use lib.ListN.{length, get_or, set, take, drop, length-set, drop_of_length-le, replicate, get_or-replicate}
use lib.Seq.{drop-cons, ext_get_or, get_or-set_same, get_or-set_other}
use Rattle.base.specs.Ranges.{those_from, list_from}
use Rattle.base.proofs.Tests.{and_left, and_right, not_both, is_false}
use Rattle.base.proofs.RangeLaws.{count_one, length-list_from, get_or-list_from}
use Rattle.lists.specs.Lists.{some_outside, rises, place_in, is_in}
use Rattle.lists.specs.Inner.{places_of}
use Rattle.lists.proofs.Laws.{has_cons, outside_both, rises_both}

-- ---- a number that is there

-- it stands at its place
pub place_there : (list : List ℕ) (j : ℕ) → place_in list j < length list → get_or list (place_in list j) 0 ≡ j
unfolding place_in
place_there [] j h = absurd (omega arith)
place_there (x ∷ list) j h = go (eqb x j) refl (place_there list j) h
  where
    go : (b : Bool) → eqb x j ≡ b → (place_in list j < length list → get_or list (place_in list j) 0 ≡ j)
        → cond b 0 (suc (place_in list j)) < suc (length list) → get_or (x ∷ list) (cond b 0 (suc (place_in list j))) 0 ≡ j
    go true e later l = eqb-true x j e
    go false e later l = later (omega arith)

-- wherever it stands, its place is there or before
pub place_before : (list : List ℕ) (j i : ℕ) → i < length list → get_or list i 0 ≡ j → place_in list j ≤ i
unfolding place_in
place_before [] j i h e = absurd (omega arith)
place_before (x ∷ list) j i h e = go (eqb x j) refl i h e (place_before list j)
  where
    go : (b : Bool) → eqb x j ≡ b → (i : ℕ) → i < suc (length list) → get_or (x ∷ list) i 0 ≡ j → ((i : ℕ) → i < length list → get_or list i 0 ≡ j → place_in list j ≤ i)
        → cond b 0 (suc (place_in list j)) ≤ i
    go true q i h e later = omega arith
    go false q zero h e later = absurd (eqb-false x j q e)
    go false q (suc i) h e later = omega (arith, later i (omega arith) e)

pub is_at : (list : List ℕ) (j : ℕ) → is_in list j ≡ true → get_or list (place_in list j) 0 ≡ j
is_at list j t = place_there list j (ltb-true (place_in list j) (length list) t)

pub at_is : (list : List ℕ) (i : ℕ) → i < length list → is_in list (get_or list i 0) ≡ true
at_is list i h = lt-ltb (place_in list (get_or list i 0)) (length list) (omega (arith, place_before list (get_or list i 0) i h refl))

-- what stands in the front of a list
pub in_take : (m : ℕ) (list : List ℕ) (j : ℕ) → is_in (take m list) j ≡ true → is_in list j ≡ true
unfolding place_in
in_take zero list j t = absurd (false≢true t)
in_take (suc m) [] j t = t
in_take (suc m) (x ∷ list) j t = has_cons x list j ∙ go (eqb x j) (is_in (take m list) j) (sym (has_cons x (take m list) j) ∙ t) (in_take m list j)
  where
    go : (b c : Bool) → (b || c) ≡ true → (c ≡ true → is_in list j ≡ true) → (b || is_in list j) ≡ true
    go true c e later = refl
    go false c e later = later e

-- ---- lists where no number stands twice

unfoldable pub distinct : List ℕ → Bool
distinct [] = true
distinct (x ∷ list) = not (is_in list x) && distinct list

-- the first is not among the others, and of these no number stands twice
pub distinct_both : (x : ℕ) (list : List ℕ) → distinct (x ∷ list) ≡ true → (is_in list x ≡ false) × (distinct list ≡ true)
unfolding distinct
distinct_both x list d = (not-true (is_in list x) (and_left (not (is_in list x)) (distinct list) d), and_right (not (is_in list x)) (distinct list) d)

pub distinct_cons : (x : ℕ) (list : List ℕ) → is_in list x ≡ false → distinct list ≡ true → distinct (x ∷ list) ≡ true
unfolding distinct
distinct_cons x list o d = simp (o, d)

pub rising_distinct : (list : List ℕ) → rises list ≡ true → distinct list ≡ true
unfolding distinct
rising_distinct [] r = refl
rising_distinct (x ∷ list) r = let p = rises_both x list r in distinct_cons x list p.0 (rising_distinct list p.1)

-- a number that stands at a place has that place
pub place_of : (list : List ℕ) (i : ℕ) → distinct list ≡ true → i < length list → place_in list (get_or list i 0) ≡ i
unfolding place_in
place_of [] i d l = absurd (omega arith)
place_of (x ∷ list) zero d l = rw (eq-eqb x x refl)
place_of (x ∷ list) (suc i) d l =
    let p = distinct_both x list d in
    rw (ne_eqb x (get_or list i 0) (λ e. not_both (is_in list x) (ap (is_in list) e ∙ at_is list i (omega arith)) p.0)) (ap suc (place_of list i p.1 (omega arith)))

-- so it is of the front of a list
pub distinct_take : (m : ℕ) (list : List ℕ) → distinct list ≡ true → distinct (take m list) ≡ true
unfolding distinct
distinct_take zero list d = refl
distinct_take (suc m) [] d = refl
distinct_take (suc m) (x ∷ list) d =
    let p = distinct_both x list d in
    distinct_cons x (take m list) (is_false (is_in (take m list) x) (λ t. not_both (is_in list x) (in_take m list x t) p.0)) (distinct_take m list p.1)

-- those of 1 to n that are in such a list are as many as it has
pub count_in : (n : ℕ) (list : List ℕ) → distinct list ≡ true → some_outside n list ≡ false → length (those_from (is_in list) 1 n) ≡ length list
unfolding place_in those_from
count_in n [] d o = none 1 n
  where
    none : (j m : ℕ) → length (those_from (is_in []) j m) ≡ 0
    none j zero = refl
    none j (suc m) = none (suc j) m
count_in n (x ∷ list) d o =
    let p = distinct_both x list d in
    let q = outside_both n x list o in
    count_one (is_in (x ∷ list)) (is_in list) x (has_cons x list x ∙ simp (eq-eqb x x refl)) p.0
    (λ i h. has_cons x list i ∙ simp (ne_eqb x i (λ e. h (sym e)))) 1 n q.0.0 (omega arith)
    ∙ ap suc (count_in n list p.1 q.1)

-- ---- the place of every number, in an array

-- the place of a number in a list, counted on from i + 1; 0 where it is not there
abbrev place_on : ℕ → List ℕ → ℕ → ℕ
place_on i list j = cond (is_in list j) (suc (i + place_in list j)) 0

-- the array of the places of what stands in a list from place i on
unfoldable pub places_from : List ℕ → ℕ → List ℕ
places_from list i = list_from (place_on i (drop i list)) 0 256

get_or_from : (list : List ℕ) (i j : ℕ) → j < 256 → get_or (places_from list i) j 0 ≡ place_on i (drop i list) j
unfolding places_from
get_or_from list i j h = get_or-list_from (place_on i (drop i list)) 256 j 0 h

length_from : (list : List ℕ) (i : ℕ) → length (places_from list i) ≡ 256
unfolding places_from
length_from list i = length-list_from (place_on i (drop i list)) 0 256

-- with one number more at the front, that one has the first place
place_cons : (x : ℕ) (list : List ℕ) (i j : ℕ) → place_on i (x ∷ list) j ≡ cond (eqb x j) (suc i) (place_on (suc i) list j)
unfolding place_in
place_cons x list i j = ap (λ (b : Bool). cond b (suc (i + place_in (x ∷ list) j)) 0) (has_cons x list j) ∙ go (eqb x j) (is_in list j) (place_in list j)
  where
    go : (b c : Bool) (p : ℕ) → cond (b || c) (suc (i + cond b 0 (suc p))) 0 ≡ cond b (suc i) (cond c (suc (suc i + p)) 0)
    go true c p = omega arith
    go false true p = omega arith
    go false false p = refl

pub places_none : (list : List ℕ) (i : ℕ) → length list ≤ i → replicate 256 0 ≡ places_from list i
unfolding place_in
places_none list i h =
    ext_get_or 0 (replicate 256 0) (places_from list i) (sym (length_from list i))
    (λ j l. get_or-replicate 256 j 0 0 l ∙ sym (get_or_from list i j l ∙ rw (drop_of_length-le list h)))

-- one place earlier: the number that stands there has it, whether it stands further on or not
pub places_more : (list : List ℕ) (i : ℕ) {v : ℕ} → i < length list → get_or list i 0 < 256 → v ≡ suc i → set (places_from list (suc i)) (get_or list i 0) v ≡ places_from list i
places_more list i {v} h g e =
    let after = places_from list (suc i) in
    let x = get_or list i 0 in
    ext_get_or 0 (set after x v) (places_from list i) (length-set after x v ∙ length_from list (suc i) ∙ sym (length_from list i))
    (λ j l.
    let k : j < 256 = omega (arith, length-set after x v, length_from list (suc i)) in
    go j k (eqb x j) refl ∙ sym (get_or_from list i j k ∙ ap (λ (s : List ℕ). place_on i s j) (drop-cons list i 0 h) ∙ place_cons x (drop (suc i) list) i j))
  where
    go : (j : ℕ) → j < 256 → (b : Bool) → eqb (get_or list i 0) j ≡ b
        → get_or (set (places_from list (suc i)) (get_or list i 0) v) j 0 ≡ cond b (suc i) (place_on (suc i) (drop (suc i) list) j)
    go j k true t = ap (λ (y : ℕ). get_or (set (places_from list (suc i)) (get_or list i 0) v) y 0) (sym (eqb-true (get_or list i 0) j t)) ∙ get_or-set_same (places_from list (suc i)) (get_or list i 0) v 0 (omega (arith, length_from list (suc i))) ∙ e
    go j k false t = get_or-set_other (places_from list (suc i)) (get_or list i 0) j v 0 (λ q. eqb-false (get_or list i 0) j t (sym q)) ∙ get_or_from list (suc i) j k

pub get_or_places : (list : List ℕ) (j : ℕ) → j < 256 → get_or (places_of list) j 0 ≡ cond (is_in list j) (suc (place_in list j)) 0
unfolding places_of
get_or_places list j h = get_or-list_from (λ j. cond (is_in list j) (suc (place_in list j)) 0) 256 j 0 h

pub length_places : (list : List ℕ) → length (places_of list) ≡ 256
unfolding places_of
length_places list = length-list_from (λ j. cond (is_in list j) (suc (place_in list j)) 0) 0 256

pub places_all : (list : List ℕ) → places_from list 0 ≡ places_of list
places_all list =
    ext_get_or 0 (places_from list 0) (places_of list) (length_from list 0 ∙ sym (length_places list))
    (λ j l.
    let k : j < 256 = omega (arith, length_from list 0) in
    get_or_from list 0 j k ∙ ap (λ (p : ℕ). cond (is_in list j) (suc p) 0) (zero-add (place_in list j)) ∙ sym (get_or_places list j k))
