-- What a walk has still to see of a list from a place on, or of the marks from a number on.
-- Assumes nothing.
use mathlib.Core.Path.{◌≡◌, refl, sym, ap, ◌∙◌}
use mathlib.Core.Bool.{Bool, true, false, cond, not, ◌&&◌, ◌||◌, and-true}
use mathlib.Core.List.{List, [], ◌∷◌, ◌++◌, append_assoc}
use Prim.Native.Nat.{ℕ, zero, suc, ◌+◌, ◌-◌, ◌≤◌, ◌<◌}
use native.Mathlib.Nat.{add-zero, add-suc, suc-add}
use native.Mathlib.Numerals.{add-one}
use native.Mathlib.Omega.{arith}
use borrow.Author.Tests.{eq-eqb, ne_eqb}
use mir.Val.{bool_byte}
use lib.Dec.{ltb}
use lib.ListN.{length, take, drop, get_or, set, replicate, drop_of_length-le, length-append, length-take, length-drop}
use lib.Seq.{drop-cons, get_or-take, get_or-drop, set-append_seam, set-set}
use Rattle.std.proofs.lemmas.Iterator.{index_from_first}
use Rattle.std.specs.List.{list_any, AllWithin, HoldsAt}
use Rattle.std.specs.Prelude.{Option}
use Rattle.std.specs.Option.{MatchOption, unwrap_or}
use Rattle.base.specs.Ranges.{those_from, outside}
use Rattle.base.proofs.RangeLaws.{those_append, those_more, those_same, outside_high}
use Rattle.lists.specs.Lists.{some_outside, rises, place_in, is_live, set_live, some_missing, live_nodes, passes_outside}
use Rattle.lists.proofs.Laws.{inside_append, nodes_inside, live_nodes_few}

-- ---- a list, asked number by number

pub outside_any : (n : ℕ) (list : List ℕ) → some_outside n list ≡ list_any (outside 1 n) list
unfolding some_outside
outside_any n [] = refl
outside_any n (x ∷ list) = rw (outside_any n list)

pub missing_any : (marks : List Bool) (list : List ℕ) → some_missing marks list ≡ list_any (λ j. not (is_live marks j)) list
unfolding some_missing
missing_any marks [] = refl
missing_any marks (x ∷ list) = rw (missing_any marks list)

-- the place of a number, by the first at which it is found
pub place_first : (j : ℕ) (list : List ℕ) (r : Option ℕ)
    → MatchOption r (AllWithin (λ i. i ≡ j → ⊥) list 0 (length list)) (λ i. (i < length list) × HoldsAt (λ i. i ≡ j) list i × AllWithin (λ i. i ≡ j → ⊥) list 0 i)
    → place_in list j ≡ unwrap_or r (length list)
unfolding place_in
place_first j =
    index_from_first (λ list. place_in list j) (λ i. i ≡ j) (λ i. i ≡ j → ⊥) refl (λ x list e. rw (eq-eqb x j e)) (λ x list n. rw (ne_eqb x j n) (omega arith))

-- ---- a list, from place i on

pub set_step : (list : List ℕ) (i : ℕ) → i < length list → (marks : List Bool) → set_live marks (drop i list) ≡ set_live (set marks (get_or list i 0) true) (drop (i + 1) list)
unfolding set_live
set_step list i h marks = rw (add-one, drop-cons list i 0)

pub set_end : (list : List ℕ) (i : ℕ) → length list ≤ i → (marks : List Bool) → set_live marks (drop i list) ≡ marks
unfolding set_live
set_end list i h marks = rw (drop_of_length-le list h)

pub rises_step : (list : List ℕ) (i : ℕ) → i + 1 < length list → rises (drop i list) ≡ (ltb (get_or list i 0) (get_or list (i + 1) 0) && rises (drop (i + 1) list))
unfolding rises
rises_step list i h =
    let g : i < length list = omega arith in
    let l : suc i < length list = omega arith in
    rw (add-one, drop-cons list i 0, drop-cons list (suc i) 0)

pub rises_end : (list : List ℕ) (i : ℕ) → length list ≤ i + 1 → rises (drop i list) ≡ true
unfolding rises
rises_end [] zero h = refl
rises_end [] (suc i) h = refl
rises_end (x ∷ []) zero h = refl
rises_end (x ∷ y ∷ list) zero h = absurd (omega arith)
rises_end (x ∷ list) (suc i) h = rises_end list i (omega arith)

-- whether a list rises, of which the part from place i - 1 on is left: one step more
pub rises_next : (b : Bool) (list : List ℕ) (i : ℕ) → 1 ≤ i → i < length list → (b && rises (drop (i - 1) list)) ≡ ((b && ltb (get_or list (i - 1) 0) (get_or list i 0)) && rises (drop i list))
rises_next b list i l h =
    let back : i - 1 + 1 ≡ i = omega arith in
    ap (λ (r : Bool). b && r) (rw back at (rises_step list (i - 1) (omega arith))) ∙ regroup b (ltb (get_or list (i - 1) 0) (get_or list i 0)) (rises (drop i list))
  where
    regroup : (a b c : Bool) → (a && (b && c)) ≡ ((a && b) && c)
    regroup true b c = refl
    regroup false b c = refl

-- ---- the numbers outside 1 to n that pass a test, from j on

module _ (n : ℕ) (test : ℕ → Bool) where
  outside_those : (j m : ℕ) → some_outside n (those_from test j (suc m)) ≡ ((test j && outside 1 n j) || some_outside n (those_from test (suc j) m))
  unfolding some_outside those_from
  outside_those j m = go (test j) (those_from test (suc j) m)
    where
      go : (b : Bool) (later : List ℕ) → some_outside n (cond b (j ∷ later) later) ≡ ((b && outside 1 n j) || some_outside n later)
      go true later = refl
      go false later = refl

  -- where each has its own element of a list, those are asked
  outside_each : {A : Type 0} (p : A → Bool) (d : A) (all : List A) (j : ℕ) → n < j → ((i : ℕ) → i < length all → test (j + i) ≡ p (get_or all i d)) → some_outside n (those_from test j (length all)) ≡ list_any p all
  unfolding some_outside those_from
  outside_each p d [] j h same = refl
  outside_each p d (x ∷ all) j h same =
      let first : test j ≡ p x = rw (← add-zero j) (same 0 (omega arith)) in
      outside_those j (length all)
      ∙ simp (first, outside_high 1 n j h, and-true, outside_each p d all (suc j) (omega arith) (λ i l. rw (suc-add j i, ← add-suc j i) (same (suc i) (omega arith))))

  -- 0 is asked, and those above n
  pub passes_each : {A : Type 0} (p : A → Bool) (d : A) (all : List A) → length all ≡ 256 → n ≤ 255 → ((i : ℕ) → i < 256 → test i ≡ p (get_or all i d)) → passes_outside n test ≡ (p (get_or all 0 d) || list_any p (drop (n + 1) all))
  unfolding passes_outside
  passes_each p d all l h same =
      let front : 255 ≡ n + length (drop (n + 1) all) = omega (arith, length-drop (n + 1) all) in
      let next : 1 + n ≡ n + 1 = omega arith in
      outside_those 0 255
      ∙ simp (same 0 (omega arith), and-true)
      (ap (λ (m : ℕ). p (get_or all 0 d) || some_outside n (those_from test 1 m)) front
      ∙ rw (those_append test 1 n (length (drop (n + 1) all)), inside_append n (those_from test 1 n) (those_from test (1 + n) (length (drop (n + 1) all))) (nodes_inside test n), next)
      (rw (outside_each p d (drop (n + 1) all) (n + 1) (omega arith) (λ i k. same (n + 1 + i) (omega (arith, length-drop (n + 1) all)) ∙ ap p (sym (get_or-drop (n + 1) all i d))))))

-- ---- a list filled up

-- a list with zeros after it, 256 numbers in all
abbrev pub padded : List ℕ → List ℕ
padded list = list ++ replicate (256 - length list) 0

pub pad_more : (list : List ℕ) (x : ℕ) → length list < 256 → set (padded list) (length list) x ≡ padded (list ++ x ∷ [])
pad_more list x h =
    let e : 256 - length list ≡ suc (256 - length (list ++ x ∷ [])) = omega (arith, length-append list (x ∷ [])) in
    rw e (set-append_seam list 0 _ x ∙ sym (append_assoc list (x ∷ []) _))

-- a zero over the first of the zeros changes nothing
pub pad_same : (list : List ℕ) → length list < 256 → set (padded list) (length list) 0 ≡ padded list
pad_same list h =
    let e : 256 - length list ≡ suc (255 - length list) = omega arith in
    rw e (set-append_seam list 0 _ 0)

-- ---- the live nodes, with one node more

module _ (marks : List Bool) where
  -- of the marks of 1 to n, the one at place i is node i + 1's
  pub mark_at : (n i : ℕ) → i < length (take n (drop 1 marks)) → (i < n) × (get_or (take n (drop 1 marks)) i false ≡ is_live marks (i + 1))
  mark_at n i h =
      let l : i < n = omega (arith, length-take n (drop 1 marks)) in
      let next : 1 + i ≡ i + 1 = omega arith in
      (l, get_or-take n (drop 1 marks) i false l ∙ get_or-drop 1 marks i false ∙ ap (is_live marks) next)

  pub count_next : (j : ℕ) → length (live_nodes marks (j + 1)) ≡ length (live_nodes marks j) + bool_byte (is_live marks (j + 1))
  count_next j = go (is_live marks (j + 1)) refl
    where
      go : (b : Bool) → is_live marks (j + 1) ≡ b → length (live_nodes marks (j + 1)) ≡ length (live_nodes marks j) + bool_byte b
      go true e = ap length (those_more (is_live marks) j e) ∙ length-append (live_nodes marks j) _
      go false e = ap length (those_same (is_live marks) j e) ∙ sym (add-zero (length (live_nodes marks j)))

  -- before node j is looked at, the list has the live nodes below it, and zeros after them
  pub record Listed (j place : ℕ) (list : List ℕ) : Type 0 where
    pub counted : place ≡ length (live_nodes marks (j - 1))
    pub laid : list ≡ padded (live_nodes marks (j - 1))

  pub listed_none : Listed 1 0 (replicate 256 0)
  unfolding those_from
  listed_none = record { counted = refl; laid = refl }

  module _ {j place : ℕ} {list : List ℕ} (w : Listed j place list) where
    pub listed_few : place ≤ j - 1
    listed_few = omega (arith, w.counted, live_nodes_few marks (j - 1))

    module _ (h : 1 ≤ j) where
      here : j - 1 + 1 ≡ j
      here = omega arith

      later : j + 1 - 1 ≡ j
      later = omega arith

      pub listed_live : j ≤ 255 → is_live marks j ≡ true → Listed (j + 1) (place + 1) (set list place j)
      listed_live l e =
          let nodes = live_nodes marks (j - 1) in
          let more = rw here at (those_more (is_live marks) (j - 1) (rw here e)) in
          record {
            counted = rw (later, more) (omega (arith, w.counted, length-append nodes (j ∷ [])));
            laid = rw (later, more, w.laid, w.counted) (pad_more nodes j (omega (arith, w.counted, listed_few)));
          }

      pub listed_missing : is_live marks j ≡ false → Listed (j + 1) place list
      listed_missing e =
          let same = rw here at (those_same (is_live marks) (j - 1) (rw here e)) in
          record { counted = rw (later, same) w.counted; laid = rw (later, same) w.laid }

  -- node j stored at the place, which its mark moves on or not, and a zero over what stands there then
  pub listed_next : {j place : ℕ} (list : List ℕ) → Listed j place (set list place 0) → 1 ≤ j → j ≤ 255 → (v : ℕ) → v ≡ bool_byte (is_live marks j) → Listed (j + 1) (place + v) (set (set list place j) (place + v) 0)
  listed_next {j} {place} list w h l v e = go (is_live marks j) refl
    where
      go : (b : Bool) → is_live marks j ≡ b → Listed (j + 1) (place + v) (set (set list place j) (place + v) 0)
      go true t =
          let more = rw (set-set list place 0 j) at (listed_live w h l t) in
          let one : v ≡ 1 = e ∙ ap bool_byte t in
          let nodes = live_nodes marks (j + 1 - 1) in
          let zero_over : set (set list place j) (place + 1) 0 ≡ set list place j =
          rw (more.laid, more.counted) (pad_same nodes (omega (arith, live_nodes_few marks (j + 1 - 1)))) in
          rw (one, zero_over) more
      go false t =
          let none : place + v ≡ place = rw (e, t) (add-zero place) in
          rw (none, set-set list place j 0) (listed_missing w h t)

  pub listed_all : {j place : ℕ} {list : List ℕ} (n : ℕ) → Listed j place list → j ≡ n + 1 → list ≡ padded (live_nodes marks n)
  listed_all {j} n w e =
      let last : j - 1 ≡ n = omega arith in
      w.laid ∙ ap (λ (m : ℕ). padded (live_nodes marks m)) last
