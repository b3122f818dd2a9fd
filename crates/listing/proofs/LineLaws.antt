-- Lines put one after the other, as far as they are put: each is at most so many bytes long.
-- Assumes nothing.
use mathlib.Core.Path.{◌≡◌, sym}
use mathlib.Core.List.{List, [], ◌∷◌, ◌++◌, append-nil, flat_map}
use Prim.Native.Nat.{ℕ, ◌+◌, ◌*◌, ◌≤◌, ◌<◌}
use native.Mathlib.Nat.{mul-suc, mul-le-mul_left}
use native.Mathlib.Numerals.{add-one}
use native.Mathlib.Omega.{arith}
use lib.ListN.{length, take-append-drop}
use Rattle.base.proofs.ListLaws.{flat_map-append}
use Rattle.listing.specs.Inner.{Put}
use Rattle.listing.proofs.PutLaws.{kept, then}

-- one element more has one line more
pub line_more : {A : Type 0} (line : A → List ℕ) (list : List A) (x : A) → flat_map line list ++ line x ≡ flat_map line (list ++ x ∷ [])
unfolding flat_map
line_more line list x = rw (flat_map-append line list (x ∷ []), append-nil)

-- of count lines the first i are put, which make the text at i
pub record Lined (text : ℕ → List ℕ) (most count : ℕ) (start : List ℕ) (at : ℕ) (out : List ℕ) (next i : ℕ) : Type 0 where
  pub within : i ≤ count
  pub short : next ≤ at + most * i
  pub done : Put start at (text i) out next

pub lined_none : {text : ℕ → List ℕ} {most count : ℕ} {start : List ℕ} {at : ℕ} → text 0 ≡ [] → at ≤ length start → Lined text most count start at start at 0
lined_none {text} {most} {count} {start} {at} e h =
    record {
      within = omega arith;
      short = omega arith;
      done = rw e (record { is = sym (take-append-drop at start); ends = omega arith; fits = h });
    }

module _ {text : ℕ → List ℕ} {most count : ℕ} {start : List ℕ} {at : ℕ} {out : List ℕ} {next i : ℕ} (w : Lined text most count start at out next i) where
  more : most * (i + 1) ≡ most * i + most
  more = rw (add-one i) (mul-suc most i)

  pub lined_room : i < count → {size : ℕ} → size ≤ most → at + most * count ≤ length start → next + size ≤ length out
  lined_room l small h = omega (arith, w.short, kept w.done, more, mul-le-mul_left {m = i + 1} {n = count} most (omega arith))

  pub lined_more : i < count → {line out' : List ℕ} {next' : ℕ} → Put out next line out' next' → length line ≤ most → text i ++ line ≡ text (i + 1)
      → Lined text most count start at out' next' (i + 1)
  lined_more l p small e =
      record {
        within = omega arith;
        short = omega (arith, w.short, p.ends, more);
        done = rw e at (then w.done p);
      }

  pub lined_done : count ≤ i → Put start at (text count) out next × (next ≤ at + most * count)
  lined_done l =
      let e : i ≡ count = omega (arith, w.within) in
      rw (← e) (w.done, w.short)
