-- A list that is filled from the front with another, element by element.
-- Assumes nothing.
use mathlib.Core.Path.{◌≡◌}
use mathlib.Core.List.{List, ◌++◌, append_assoc, append-nil}
use Prim.Native.Nat.{ℕ, suc, ◌+◌, ◌≤◌, ◌<◌}
use native.Mathlib.Numerals.{add-one}
use native.Mathlib.Omega.{arith}
use lib.ListN.{length, take, drop, get_or, set, drop_of_length-le}
use lib.Seq.{take_all, take-suc, drop-cons, length-take-le, set_at}

module _ {A : Type 0} where
  -- t with the first i elements of r for its own
  abbrev pub filled : List A → List A → ℕ → List A
  filled r t i = take i r ++ drop i t

  pub fill_more : (r t : List A) (i : ℕ) {v : A} (d : A) → i < length r → i < length t → v ≡ get_or r i d → set (filled r t i) i v ≡ filled r t (i + 1)
  fill_more r t i d h k e =
      rw (e, add-one, take-suc r i d h, append_assoc, drop-cons t i d k) (set_at (take i r) (get_or t i d) (drop (suc i) t) (get_or r i d) i (length-take-le i r (omega arith)))

  pub fill_done : (r t : List A) (i : ℕ) → length r ≡ length t → length t ≤ i → filled r t i ≡ r
  fill_done r t i e h = rw (take_all i r (omega arith), drop_of_length-le t h, append-nil)
