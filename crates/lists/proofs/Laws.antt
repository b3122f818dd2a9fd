-- What lists and marks have to do with each other: a list that rises within 1 to n and its marks are each given by the other.
-- Assumes nothing.
use mathlib.Core.Path.{◌≡◌, refl, sym, ap, ap₂, ◌∙◌}
use mathlib.Core.Bool.{Bool, true, false, cond, ◌||◌, false≢true, or-false}
use mathlib.Core.List.{List, Memᴰ, [], ◌∷◌, ◌++◌}
use mathlib.Core.Logic.{◌⊎◌, inl, inr, ⊎_elim}
use Prim.Native.Nat.{ℕ, zero, suc, ◌+◌, ◌-◌, ◌≤◌, ◌<◌}
use native.Mathlib.Nat.{eq-or-lt_of_le}
use native.Mathlib.Decide.{ℕ_discrete}
use native.Mathlib.Omega.{arith}
use borrow.Author.Tests.{ltb-true, ltb-false, lt-ltb, le-ltb, eqb-true, eqb-false, eq-eqb, ne_eqb}
use lib.Dec.{ltb, eqb, leb-suc-suc}
use lib.ListN.{length, get_or, set, take, length-set, get_or-replicate}
use lib.Seq.{get_or-set_same, get_or-set_other, ext_get_or}
use Rattle.base.specs.Ranges.{those_from, outside}
use Rattle.base.proofs.Tests.{and_left, and_right, and_both, or_neither, same_answer}
use Rattle.checks.specs.Checks.{first_met}
use Rattle.checks.specs.Claims.{NoneMet}
use Rattle.base.proofs.RangeLaws.{inside, outside_high, outside_no}
use Rattle.checks.proofs.Laws.{accepted}
use Rattle.lists.specs.Lists.{some_outside, rises, list_checks, place_in, is_in, none_live, is_live, set_live, some_missing, passes_outside, live_outside, live_nodes}

-- a list that is not refused meets neither 4 nor 5
pub list_accepted : (n : ℕ) (list : List ℕ) → first_met (list_checks n list) ≡ 0 → NoneMet (list_checks n list)
list_accepted n list e = accepted (list_checks n list) refl e

-- ---- numbers outside 1 to n

-- what is said of a list's first number and of the others
pub outside_both : (n x : ℕ) (list : List ℕ) → some_outside n (x ∷ list) ≡ false → ((1 ≤ x) × (x ≤ n)) × (some_outside n list ≡ false)
unfolding some_outside
outside_both n x list o =
    let p = or_neither (outside 1 n x) (some_outside n list) o in
    (inside 1 n x p.0, p.1)

pub outside_cons : (n x : ℕ) (list : List ℕ) → 1 ≤ x → x ≤ n → some_outside n list ≡ false → some_outside n (x ∷ list) ≡ false
unfolding some_outside
outside_cons n x list l h o = simp (outside_no 1 n x l h, o)

pub inside_append : (n : ℕ) (s t : List ℕ) → some_outside n s ≡ false → some_outside n (s ++ t) ≡ some_outside n t
unfolding some_outside
inside_append n [] t o = refl
inside_append n (x ∷ s) t o =
    let p = or_neither (outside 1 n x) (some_outside n s) o in
    simp p.0 (inside_append n s t p.1)

pub outside_none : (n : ℕ) (list : List ℕ) → some_outside n list ≡ false → (i : ℕ) → i < length list → (1 ≤ get_or list i 0) × (get_or list i 0 ≤ n)
outside_none n [] o i h = absurd (omega arith)
outside_none n (x ∷ list) o zero h = (outside_both n x list o).0
outside_none n (x ∷ list) o (suc i) h = outside_none n list (outside_both n x list o).1 i (omega arith)

pub outside-take : (n m : ℕ) (list : List ℕ) → some_outside n list ≡ false → some_outside n (take m list) ≡ false
unfolding some_outside
outside-take n zero list o = refl
outside-take n (suc m) [] o = refl
outside-take n (suc m) (x ∷ list) o = let p = outside_both n x list o in outside_cons n x (take m list) p.0.0 p.0.1 (outside-take n m list p.1)

pub outside_more : (m n : ℕ) (list : List ℕ) → m ≤ n → some_outside m list ≡ false → some_outside n list ≡ false
unfolding some_outside
outside_more m n [] h o = refl
outside_more m n (x ∷ list) h o =
    let p = outside_both m x list o in
    outside_cons n x list p.0.0 (omega arith) (outside_more m n list h p.1)

-- ---- a number's being in a list

pub has_cons : (x : ℕ) (list : List ℕ) (j : ℕ) → is_in (x ∷ list) j ≡ (eqb x j || is_in list j)
unfolding place_in
has_cons x list j = go (eqb x j)
  where
    go : (b : Bool) → ltb (cond b 0 (suc (place_in list j))) (suc (length list)) ≡ (b || is_in list j)
    go true = lt-ltb 0 (suc (length list)) (omega arith)
    go false = leb-suc-suc (suc (place_in list j)) (length list)

pub has_inside : (n : ℕ) (list : List ℕ) (j : ℕ) → some_outside n list ≡ false → is_in list j ≡ true → (1 ≤ j) × (j ≤ n)
unfolding place_in
has_inside n [] j o h = absurd (false≢true h)
has_inside n (x ∷ list) j o h =
    let p = outside_both n x list o in
    ⊎_elim (λ (e : eqb x j ≡ true). rw (sym (eqb-true x j e)) p.0) (λ (t : is_in list j ≡ true). has_inside n list j p.1 t)
    (or_either (eqb x j) (is_in list j) (sym (has_cons x list j) ∙ h))
  where
    or_either : (a b : Bool) → (a || b) ≡ true → (a ≡ true) ⊎ (b ≡ true)
    or_either true b t = inl refl
    or_either false b t = inr t

-- ---- the marks of a list

pub length-set_live : (marks : List Bool) (list : List ℕ) → length (set_live marks list) ≡ length marks
unfolding set_live
length-set_live marks [] = refl
length-set_live marks (x ∷ list) = length-set_live (set marks x true) list ∙ length-set marks x true

set_mark : (marks : List Bool) (x j : ℕ) → x < length marks → is_live (set marks x true) j ≡ (eqb x j || is_live marks j)
set_mark marks x j h = go (eqb x j) refl
  where
    go : (b : Bool) → eqb x j ≡ b → is_live (set marks x true) j ≡ (b || is_live marks j)
    go true e = rw (sym (eqb-true x j e)) (get_or-set_same marks x true false h)
    go false e = get_or-set_other marks x j true false (λ q. eqb-false x j e (sym q))

set_live_lem : (marks : List Bool) (list : List ℕ) (j : ℕ) → length marks ≡ 256 → some_outside 255 list ≡ false → is_live (set_live marks list) j ≡ (is_in list j || is_live marks j)
unfolding set_live place_in
set_live_lem marks [] j l o = refl
set_live_lem marks (x ∷ list) j l o =
    let p = outside_both 255 x list o in
    set_live_lem (set marks x true) list j (length-set marks x true ∙ l) p.1
    ∙ ap (λ (b : Bool). is_in list j || b) (set_mark marks x j (omega arith))
    ∙ swap (is_in list j) (eqb x j) (is_live marks j)
    ∙ ap (λ (b : Bool). b || is_live marks j) (sym (has_cons x list j))
  where
    swap : (a b c : Bool) → (a || (b || c)) ≡ ((b || a) || c)
    swap true true c = refl
    swap true false c = refl
    swap false true c = refl
    swap false false c = refl

pub live_of_list : (list : List ℕ) (j : ℕ) → j < 256 → some_outside 255 list ≡ false → is_live (set_live none_live list) j ≡ is_in list j
live_of_list list j h o = set_live_lem none_live list j refl o ∙ ap (λ (b : Bool). is_in list j || b) (get_or-replicate 256 j false false h) ∙ or-false (is_in list j)

-- ---- lists that rise

-- the list rises, and starts at j or above
abbrev RisesFrom : ℕ → List ℕ → Type 0
RisesFrom j [] = Unit
RisesFrom j (x ∷ list) = (j ≤ x) × RisesFrom (suc x) list

rises_above : (x : ℕ) (list : List ℕ) → rises (x ∷ list) ≡ true → RisesFrom (suc x) list
unfolding rises
rises_above x [] r = tt
rises_above x (y ∷ list) r = (ltb-true x y (and_left (ltb x y) (rises (y ∷ list)) r), rises_above y list (and_right (ltb x y) (rises (y ∷ list)) r))

rises_from : (n : ℕ) (list : List ℕ) → some_outside n list ≡ false → rises list ≡ true → RisesFrom 1 list
rises_from n [] o r = tt
rises_from n (x ∷ list) o r = ((outside_both n x list o).0.0, rises_above x list r)

from_rises : (j : ℕ) (list : List ℕ) → RisesFrom j list → rises list ≡ true
unfolding rises
from_rises j [] r = refl
from_rises j (x ∷ []) r = refl
from_rises j (x ∷ y ∷ list) r = and_both (ltb x y) (rises (y ∷ list)) (lt-ltb x y r.1.0) (from_rises (suc x) (y ∷ list) r.1)

from_lower : (i j : ℕ) (list : List ℕ) → i ≤ j → RisesFrom j list → RisesFrom i list
from_lower i j [] h r = tt
from_lower i j (x ∷ list) h r = (omega arith, r.1)

few_from : (n j : ℕ) (list : List ℕ) → RisesFrom j list → some_outside n list ≡ false → length list ≤ n + 1 - j
few_from n j [] r o = omega arith
few_from n j (x ∷ list) r o = omega (arith, few_from n (suc x) list r.1 (outside_both n x list o).1, (outside_both n x list o).0)

pub rising_few : (n : ℕ) (list : List ℕ) → some_outside n list ≡ false → rises list ≡ true → length list ≤ n
rising_few n list o r = omega (arith, few_from n 1 list (rises_from n list o r) o)

-- the last number of a list that rises from 1 on says whether one is above n, and none is 0
last_most : (n x : ℕ) (list : List ℕ) → RisesFrom 1 (x ∷ list) → some_outside n (x ∷ list) ≡ ltb n (get_or (x ∷ list) (length list) 0)
unfolding some_outside
last_most n x [] r = simp (le-ltb x 1 r.0, or-false)
last_most n x (y ∷ list) r = go (ltb n x) refl (last_most n y list (from_lower 1 (suc x) (y ∷ list) (omega arith) r.1))
  where
    last : ℕ
    last = get_or (y ∷ list) (length list) 0

    go : (b : Bool) → ltb n x ≡ b → some_outside n (y ∷ list) ≡ ltb n last → some_outside n (x ∷ y ∷ list) ≡ ltb n last
    go true e later = simp (outside_high 1 n x (ltb-true n x e)) (simp (outside_high 1 n y (omega (arith, ltb-true n x e, r.1.0))) at later)
    go false e later = simp (outside_no 1 n x r.0 (ltb-false n x e)) later

pub last_outside : (n : ℕ) (list : List ℕ) → rises list ≡ true → 0 < length list → 1 ≤ get_or list 0 0 → some_outside n list ≡ ltb n (get_or list (length list - 1) 0)
last_outside n [] r h l = absurd (omega arith)
last_outside n (x ∷ list) r h l =
    let e : length (x ∷ list) - 1 ≡ length list = omega arith in
    rw e (last_most n x list (l, rises_above x list r))

has_below : (j : ℕ) (list : List ℕ) (i : ℕ) → RisesFrom j list → i < j → is_in list i ≡ false
unfolding place_in
has_below j [] i r h = refl
has_below j (x ∷ list) i r h = has_cons x list i ∙ simp (ne_eqb x i (λ e. omega arith), has_below (suc x) list i r.1 (omega arith))

-- a list rises after a number below all of it
pub rises_cons : (x : ℕ) (list : List ℕ) → ((y : ℕ) → Memᴰ y list → x < y) → rises list ≡ true → rises (x ∷ list) ≡ true
unfolding rises
rises_cons x [] h r = refl
rises_cons x (y ∷ list) h r = and_both (ltb x y) (rises (y ∷ list)) (lt-ltb x y (h y (Memᴰ.head refl))) r

-- in a list that rises the first number is not among the others, and these rise too
pub rises_both : (x : ℕ) (list : List ℕ) → rises (x ∷ list) ≡ true → (is_in list x ≡ false) × (rises list ≡ true)
rises_both x list r = let a = rises_above x list r in (has_below (suc x) list x a (omega arith), from_rises (suc x) list a)

-- ---- those of a range that pass a test, and the live nodes

-- by whether the first number passes
pub either : (P : List ℕ → Type 0) (b : Bool) (x : ℕ) (later : List ℕ) → (b ≡ true → P (x ∷ later)) → (b ≡ false → P later) → P (cond b (x ∷ later) later)
either P true x later y n = y refl
either P false x later y n = n refl

-- the numbers of a range that pass a test
module _ (test : ℕ → Bool) where
  pub those_few : (j m : ℕ) → length (those_from test j m) ≤ m
  unfolding those_from
  those_few j zero = omega arith
  those_few j (suc m) =
      let h = those_few (suc j) m in
      either (λ list. length list ≤ suc m) (test j) j (those_from test (suc j) m) (λ t. omega arith) (λ f. omega arith)

  -- where every one that passes lies in 1 to n, none is outside
  those_inside : (n j m : ℕ) → ((i : ℕ) → j ≤ i → i < j + m → test i ≡ true → (1 ≤ i) × (i ≤ n)) → some_outside n (those_from test j m) ≡ false
  unfolding those_from some_outside
  those_inside n j zero h = refl
  those_inside n j (suc m) h =
      let o = those_inside n (suc j) m (λ i l g. h i (omega arith) (omega arith)) in
      either (λ list. some_outside n list ≡ false) (test j) j (those_from test (suc j) m)
      (λ t. let p = h j (omega arith) (omega arith) t in outside_cons n j (those_from test (suc j) m) p.0 p.1 o) (λ f. o)

  those_rise : (j m : ℕ) → RisesFrom j (those_from test j m)
  unfolding those_from
  those_rise j zero = tt
  those_rise j (suc m) =
      let r = those_rise (suc j) m in
      either (RisesFrom j) (test j) j (those_from test (suc j) m) (λ t. (omega arith, r)) (λ f. from_lower j (suc j) (those_from test (suc j) m) (omega arith) r)

  pub has_those : (j m i : ℕ) → j ≤ i → i < j + m → is_in (those_from test j m) i ≡ test i
  unfolding those_from
  has_those j zero i l h = absurd (omega arith)
  has_those j (suc m) i l h = ⊎_elim here (λ (g : j < i). later g (has_those (suc j) m i g (omega arith))) (eq-or-lt_of_le l)
    where
      rest : List ℕ
      rest = those_from test (suc j) m

      here : j ≡ i → is_in (cond (test j) (j ∷ rest) rest) i ≡ test i
      here e = either (λ list. is_in list i ≡ test i) (test j) j rest (λ t. has_cons j rest i ∙ simp (eq-eqb j i e) (sym (rw e at t))) (λ f. has_below (suc j) rest i (those_rise (suc j) m) (omega arith) ∙ sym (rw e at f))

      later : j < i → is_in rest i ≡ test i → is_in (cond (test j) (j ∷ rest) rest) i ≡ test i
      later g s = either (λ list. is_in list i ≡ test i) (test j) j rest (λ t. has_cons j rest i ∙ simp (ne_eqb j i (λ e. omega arith)) s) (λ f. s)

  -- those of 1 to n
  pub nodes_inside : (n : ℕ) → some_outside n (those_from test 1 n) ≡ false
  nodes_inside n = those_inside n 1 n (λ i l g t. (l, omega arith))

  pub nodes_rise : (n : ℕ) → rises (those_from test 1 n) ≡ true
  nodes_rise n = from_rises 1 (those_from test 1 n) (those_rise 1 n)

  -- that pass exactly in a rising list are that list
  those_are : (n : ℕ) (list : List ℕ) (j m : ℕ) → j + m ≡ n + 1 → RisesFrom j list → some_outside n list ≡ false
      → ((i : ℕ) → j ≤ i → i ≤ n → test i ≡ is_in list i) → those_from test j m ≡ list
  unfolding those_from place_in
  those_are n [] j zero e r o h = refl
  those_are n (x ∷ list) j zero e r o h = absurd (omega (arith, (outside_both n x list o).0))
  those_are n [] j (suc m) e r o h = simp (h j (omega arith) (omega arith)) (those_are n [] (suc j) m (omega arith) tt o (λ i l g. h i (omega arith) g))
  those_are n (x ∷ list) j (suc m) e r o h =
      let p = outside_both n x list o in
      ⊎_elim
      (λ (q : j ≡ x).
      let t : test j ≡ true = h j (omega arith) (omega arith) ∙ has_cons x list j ∙ simp (eq-eqb x j (sym q)) in
      simp t
      (ap₂ ◌∷◌ q
      (those_are n list (suc j) m (omega arith) (from_lower (suc j) (suc x) list (omega arith) r.1) p.1
      (λ i l g. h i (omega arith) g ∙ has_cons x list i ∙ simp (ne_eqb x i (λ k. omega arith))))))
      (λ (q : j < x).
      let f : test j ≡ false = h j (omega arith) (omega arith) ∙ has_below (suc j) (x ∷ list) j (q, r.1) (omega arith) in
      simp f
      (those_are n (x ∷ list) (suc j) m (omega arith) (q, r.1) o (λ i l g. h i (omega arith) g)))
      (eq-or-lt_of_le r.0)

  pub nodes_are : (n : ℕ) (list : List ℕ) → some_outside n list ≡ false → rises list ≡ true → ((i : ℕ) → 1 ≤ i → i ≤ n → test i ≡ is_in list i) → those_from test 1 n ≡ list
  nodes_are n list o r h = those_are n list 1 n (omega arith) (rises_from n list o r) o h

module _ (marks : List Bool) where
  live_live : (j m : ℕ) → some_missing marks (those_from (is_live marks) j m) ≡ false
  unfolding those_from some_missing
  live_live j zero = refl
  live_live j (suc m) =
      let s = live_live (suc j) m in
      either (λ list. some_missing marks list ≡ false) (is_live marks j) j (those_from (is_live marks) (suc j) m) (λ t. simp (t, s)) (λ f. s)

  pub live_nodes_few : (n : ℕ) → length (live_nodes marks n) ≤ n
  live_nodes_few n = those_few (is_live marks) 1 n

  pub live_nodes_inside : (n : ℕ) → some_outside n (live_nodes marks n) ≡ false
  live_nodes_inside = nodes_inside (is_live marks)

  pub live_nodes_rise : (n : ℕ) → rises (live_nodes marks n) ≡ true
  live_nodes_rise = nodes_rise (is_live marks)

  pub live_nodes_live : (n : ℕ) → some_missing marks (live_nodes marks n) ≡ false
  live_nodes_live n = live_live 1 n

-- ---- numbers outside 1 to n that pass a test

module _ (n : ℕ) (test : ℕ → Bool) where
  -- where there is none, every number that passes lies in 1 to n
  pub passes_within : passes_outside n test ≡ false → (i : ℕ) → i < 256 → test i ≡ true → (1 ≤ i) × (i ≤ n)
  unfolding passes_outside
  passes_within o i h t = has_inside n (those_from test 0 256) i o (has_those test 0 256 i (omega arith) (omega arith) ∙ t)

  -- and the other way round
  pub passes_inside : ((i : ℕ) → i < 256 → test i ≡ true → (1 ≤ i) × (i ≤ n)) → passes_outside n test ≡ false
  unfolding passes_outside
  passes_inside h = those_inside test n 0 256 (λ i l g. h i (omega arith))

-- a test that passes at one number more, which lies in 1 to n
pub passes_one_more : (n : ℕ) (test more : ℕ → Bool) (j : ℕ) → 1 ≤ j → j ≤ n → ((i : ℕ) → (i ≡ j → ⊥) → more i ≡ test i)
    → passes_outside n test ≡ false → passes_outside n more ≡ false
passes_one_more n test more j h g same o = passes_inside n more (λ i l t. go i l t (ℕ_discrete i j))
  where
    go : (i : ℕ) → i < 256 → more i ≡ true → Dec (i ≡ j) → (1 ≤ i) × (i ≤ n)
    go i l t (yes e) = (omega arith, omega arith)
    go i l t (no e) = passes_within n test o i l (sym (same i e) ∙ t)

pub list_outside_none : (n : ℕ) (list : List ℕ) → n ≤ 255 → some_outside n list ≡ false → live_outside n (set_live none_live list) ≡ false
list_outside_none n list h o =
    passes_inside n (is_live (set_live none_live list)) (λ i l t. has_inside n list i o (sym (live_of_list list i l (outside_more n 255 list h o)) ∙ t))

-- a node set live is not outside
pub set-outside_none : (n : ℕ) (marks : List Bool) (j : ℕ) → 1 ≤ j → j ≤ n → live_outside n marks ≡ false → live_outside n (set marks j true) ≡ false
set-outside_none n marks j h g o = passes_one_more n (is_live marks) (is_live (set marks j true)) j h g (λ i e. get_or-set_other marks j i true false e) o

pub live_outside_none : (n : ℕ) (marks : List Bool) (list : List ℕ) → some_outside n list ≡ false → live_outside n marks ≡ false → live_outside n (set_live marks list) ≡ false
unfolding set_live
live_outside_none n marks [] l o = o
live_outside_none n marks (x ∷ list) l o =
    let p = outside_both n x list l in
    live_outside_none n (set marks x true) list p.1 (set-outside_none n marks x p.0.0 p.0.1 o)

-- ---- a rising list and its marks

pub live_nodes_of_list : (n : ℕ) (list : List ℕ) → n ≤ 255 → some_outside n list ≡ false → rises list ≡ true → live_nodes (set_live none_live list) n ≡ list
live_nodes_of_list n list h o r =
    nodes_are (is_live (set_live none_live list)) n list o r (λ i l g. live_of_list list i (omega arith) (outside_more n 255 list h o))

pub marks_of_live_nodes : (n : ℕ) (marks : List Bool) → length marks ≡ 256 → n ≤ 255 → live_outside n marks ≡ false → set_live none_live (live_nodes marks n) ≡ marks
marks_of_live_nodes n marks l h o =
    ext_get_or false (set_live none_live (live_nodes marks n)) marks (length-set_live none_live (live_nodes marks n) ∙ sym l)
    (λ i g.
    let k : i < 256 = omega (arith, length-set_live none_live (live_nodes marks n)) in
    live_of_list (live_nodes marks n) i k (outside_more n 255 (live_nodes marks n) h (live_nodes_inside marks n)) ∙ same i k)
  where
    node : (i : ℕ) → (1 ≤ i) × (i ≤ n) → is_in (live_nodes marks n) i ≡ is_live marks i
    node i w = has_those (is_live marks) 1 n i (omega arith) (omega arith)

    same : (i : ℕ) → i < 256 → is_in (live_nodes marks n) i ≡ is_live marks i
    same i g =
        same_answer (is_in (live_nodes marks n) i) (is_live marks i)
        (λ t. sym (node i (has_inside n (live_nodes marks n) i (live_nodes_inside marks n) t)) ∙ t)
        (λ t. node i (passes_within n (is_live marks) o i g t) ∙ t)
