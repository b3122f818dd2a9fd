-- A list without one of its numbers: its length, and that of marks it is the list with that node missing.
-- Assumes nothing.
use mathlib.Core.Path.{◌≡◌, refl, sym, ap, ap₂, ◌∙◌}
use mathlib.Core.Bool.{Bool, true, false}
use mathlib.Core.List.{List, [], ◌∷◌, ◌++◌}
use Prim.Native.Nat.{ℕ, zero, suc, ◌+◌, ◌-◌, ◌≤◌, ◌<◌}
use native.Mathlib.Decide.{ℕ_discrete}
use native.Mathlib.Omega.{arith}
use lib.ListN.{length, set, take, drop, length-append, length-drop}
use lib.Seq.{take_at, length-take-le, get_or-set_other}
use Rattle.base.specs.Ranges.{those_from}
use Rattle.base.proofs.RangeLaws.{those_append, same_from}
use Rattle.base.proofs.Tests.{not_both}
use Rattle.lists.specs.Lists.{is_live, live_nodes}
use Rattle.lists.specs.Inner.{without_place}

-- ---- how long it is

module _ (start : List ℕ) (place : ℕ) (inside : place < length start) where
  abbrev kept : List ℕ
  kept = without_place place start

  head_length : length (take place start) ≡ place
  head_length = length-take-le place start (omega arith)

  kept_length : length kept ≡ length start - 1
  kept_length = omega (arith, length-append (take place start) (drop (suc place) start), head_length, length-drop (suc place) start)

-- ---- a mark set missing

-- a mark that is set missing is so, and every other one stays
pub unset_same : (marks : List Bool) (i : ℕ) → is_live (set marks i false) i ≡ false
unset_same [] i = refl
unset_same (x ∷ marks) zero = refl
unset_same (x ∷ marks) (suc i) = unset_same marks i

-- nothing becomes live by it
pub unset_live : (marks : List Bool) (i j : ℕ) → is_live (set marks i false) j ≡ true → (j ≡ i → ⊥) × (is_live marks j ≡ true)
unset_live marks i j h = go (ℕ_discrete j i)
  where
    go : Dec (j ≡ i) → (j ≡ i → ⊥) × (is_live marks j ≡ true)
    go (yes e) = absurd (not_both (is_live (set marks i false) j) h (rw e (unset_same marks i)))
    go (no n) = (n, sym (get_or-set_other marks i j false false n) ∙ h)

-- the live nodes are then the list without that one, which stands after the live nodes below it
pub without_live : (marks : List Bool) (n j : ℕ) → 1 ≤ j → j ≤ n → is_live marks j ≡ true
    → (live_nodes (set marks j false) n ≡ without_place (length (live_nodes marks (j - 1))) (live_nodes marks n)) × (length (live_nodes marks (j - 1)) < length (live_nodes marks n))
unfolding those_from
without_live marks n j l h v =
    let below = live_nodes marks (j - 1) in
    let above = those_from (is_live marks) (suc j) (n - j) in
    let split : (now : List Bool) → live_nodes now n ≡ live_nodes now (j - 1) ++ those_from (is_live now) j (suc (n - j)) =
    λ now.
    let e : n ≡ (j - 1) + suc (n - j) = omega arith in
    let g : 1 + (j - 1) ≡ j = omega arith in
    ap (live_nodes now) e ∙ those_append (is_live now) 1 (j - 1) (suc (n - j)) ∙ ap (λ (i : ℕ). live_nodes now (j - 1) ++ those_from (is_live now) i (suc (n - j))) g in
    let whole : live_nodes marks n ≡ below ++ j ∷ above = split marks ∙ rw v in
    let less : live_nodes (set marks j false) n ≡ below ++ above =
    split (set marks j false)
    ∙ ap₂ ◌++◌ (same_from (is_live (set marks j false)) (is_live marks) 1 (j - 1) (λ i a b. get_or-set_other marks j i false false (λ e. omega arith)))
    (rw (unset_same marks j) (same_from (is_live (set marks j false)) (is_live marks) (suc j) (n - j) (λ i a b. get_or-set_other marks j i false false (λ e. omega arith)))) in (
      less ∙ sym (ap₂ ◌++◌ (ap (take (length below)) whole ∙ take_at below (j ∷ above) (length below) refl) (ap (drop (suc (length below))) whole ∙ drop_next below j above)),
      omega (arith, ap length whole, length-append below (j ∷ above)),
    )
  where
    drop_next : (s : List ℕ) (x : ℕ) (t : List ℕ) → drop (suc (length s)) (s ++ x ∷ t) ≡ t
    drop_next [] x t = refl
    drop_next (y ∷ s) x t = drop_next s x t

-- and one fewer
pub fewer_live : (marks : List Bool) (n j : ℕ) → 1 ≤ j → j ≤ n → is_live marks j ≡ true → suc (length (live_nodes (set marks j false) n)) ≡ length (live_nodes marks n)
fewer_live marks n j l h v =
    let w = without_live marks n j l h v in
    omega (arith, ap length w.0, kept_length (live_nodes marks n) (length (live_nodes marks (j - 1))) w.1, w.1)
