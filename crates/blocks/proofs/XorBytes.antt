-- The bytewise XOR of blocks: like the XOR of numbers, byte by byte.
-- Assumes nothing.
use mathlib.Core.Path.{◌≡◌, refl, sym, ap, ap₂}
use mathlib.Core.List.{List, [], ◌∷◌, zip_with}
use Prim.Native.Nat.{ℕ, zero, suc, ◌<◌}
use native.Mathlib.Nat.{le_of_suc-le-suc, not-suc-le-zero}
use native.Mathlib.Omega.{arith}
use lib.ListN.{length, get_or, replicate}
use lib.Bits.{bit_xor, xor_comm, xor_self}
use Rattle.base.proofs.Xor.{xor_assoc}
use Rattle.blocks.specs.Blocks.{xor_bytes}

pub length-xor_bytes : (a b : List ℕ) → length a ≡ length b → length (xor_bytes a b) ≡ length a
unfolding xor_bytes zip_with
length-xor_bytes [] b h = refl
length-xor_bytes (x ∷ xs) [] h = sym h
length-xor_bytes (x ∷ xs) (y ∷ ys) h = ap suc (length-xor_bytes xs ys (omega arith))

pub get_or-xor_bytes : (a b : List ℕ) (i : ℕ) → i < length a → i < length b → get_or (xor_bytes a b) i 0 ≡ bit_xor (get_or a i 0) (get_or b i 0)
unfolding xor_bytes zip_with
get_or-xor_bytes [] b i h k = absurd (not-suc-le-zero h)
get_or-xor_bytes (x ∷ xs) [] i h k = absurd (not-suc-le-zero k)
get_or-xor_bytes (x ∷ xs) (y ∷ ys) zero h k = refl
get_or-xor_bytes (x ∷ xs) (y ∷ ys) (suc i) h k = get_or-xor_bytes xs ys i (le_of_suc-le-suc h) (le_of_suc-le-suc k)

pub xor_bytes_comm : (a b : List ℕ) → xor_bytes a b ≡ xor_bytes b a
unfolding xor_bytes zip_with
xor_bytes_comm [] [] = refl
xor_bytes_comm [] (y ∷ ys) = refl
xor_bytes_comm (x ∷ xs) [] = refl
xor_bytes_comm (x ∷ xs) (y ∷ ys) = ap₂ ◌∷◌ (xor_comm x y) (xor_bytes_comm xs ys)

pub xor_bytes_assoc : (a b c : List ℕ) → xor_bytes (xor_bytes a b) c ≡ xor_bytes a (xor_bytes b c)
unfolding xor_bytes zip_with
xor_bytes_assoc [] b c = refl
xor_bytes_assoc (x ∷ xs) [] c = refl
xor_bytes_assoc (x ∷ xs) (y ∷ ys) [] = refl
xor_bytes_assoc (x ∷ xs) (y ∷ ys) (z ∷ zs) = ap₂ ◌∷◌ (xor_assoc x y z) (xor_bytes_assoc xs ys zs)

pub xor_bytes_self : (a : List ℕ) → xor_bytes a a ≡ replicate (length a) 0
unfolding xor_bytes zip_with
xor_bytes_self [] = refl
xor_bytes_self (x ∷ xs) = ap₂ ◌∷◌ (xor_self x) (xor_bytes_self xs)
