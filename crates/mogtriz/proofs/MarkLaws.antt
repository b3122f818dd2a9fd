-- Marks and bytes: what becomes of a mark that is handed to C and back, and which bytes a mark is handed over as.
-- Assumes nothing.
use mathlib.Core.Path.{◌≡◌, refl, ap₂}
use mathlib.Core.Bool.{Bool, true, false, cond, ◌||◌}
use mathlib.Core.List.{List, [], ◌∷◌, map}
use Prim.Native.Nat.{ℕ, zero, suc}
use native.Mathlib.Omega.{arith}
use borrow.Author.Tests.{ltb-false}
use lib.Dec.{ltb}
use lib.ListN.{get_or}
use Rattle.base.proofs.Tests.{or_neither}
use Rattle.lists.specs.Lists.{is_live}
use Rattle.mogtriz.specs.Sessions.{byte_of, mark_of, some_above1}

-- a mark handed over and back
mark_back : (live : Bool) → mark_of (byte_of live) ≡ live
mark_back true = refl
mark_back false = refl

pub marks_back : (marks : List Bool) → map mark_of (map byte_of marks) ≡ marks
marks_back [] = refl
marks_back (live ∷ marks) = ap₂ ◌∷◌ (mark_back live) (marks_back marks)

-- a byte taken in and handed out
byte_back : (byte : ℕ) → ltb 1 byte ≡ false → byte_of (mark_of byte) ≡ byte
byte_back zero h = refl
byte_back (suc zero) h = refl
byte_back (suc (suc byte)) h = absurd (omega (arith, ltb-false 1 (suc (suc byte)) h))

pub bytes_back : (bytes : List ℕ) → some_above1 bytes ≡ false → map byte_of (map mark_of bytes) ≡ bytes
unfolding some_above1
bytes_back [] h = refl
bytes_back (byte ∷ bytes) h =
    let n = or_neither (ltb 1 byte) (some_above1 bytes) h in
    ap₂ ◌∷◌ (byte_back byte n.0) (bytes_back bytes n.1)

-- a mark is handed over as 0 or 1
mark_low : (live : Bool) → ltb 1 (byte_of live) ≡ false
mark_low true = refl
mark_low false = refl

pub marks_low : (marks : List Bool) → some_above1 (map byte_of marks) ≡ false
unfolding some_above1
marks_low [] = refl
marks_low (live ∷ marks) = ap₂ ◌||◌ (mark_low live) (marks_low marks)

-- 1 for a live node, 0 for any other number
pub byte_at : (marks : List Bool) (j : ℕ) → get_or (map byte_of marks) j 0 ≡ cond (is_live marks j) 1 0
byte_at [] j = refl
byte_at (live ∷ marks) zero = refl
byte_at (live ∷ marks) (suc j) = byte_at marks j
