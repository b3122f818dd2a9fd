-- The transpose: its length, its bytes, a buffer that has all of them, and transposes one after the other.
-- Assumes nothing.
use mathlib.Core.Path.{◌≡◌, sym, ap, ◌∙◌}
use mathlib.Core.List.{List}
use Prim.Native.Nat.{ℕ, zero, suc, ◌+◌, ◌-◌, ◌*◌, ◌/◌, ◌%◌, ◌^◌, ◌<◌}
use native.Mathlib.Nat.{mul_comm, mul_assoc, add-mul, add_assoc, one-mul, zero-mul, pow-suc, pow-succ'}
use native.Mathlib.Numerals.{add-one}
use native.Mathlib.Omega.{arith}
use lib.Pow.{pow-add}
use lib.ListN.{length, get_or}
use lib.Seq.{ext_get_or}
use Rattle.base.proofs.RangeLaws.{length-list_from, get_or-list_from}
use Rattle.transposition.specs.Inner.{transposed, Right}
use Rattle.transposition.proofs.Places.{place_div, place_mod, place_lt, place_of}

pub length-transposed : (rows columns : ℕ) (bytes : List ℕ) → length (transposed rows columns bytes) ≡ rows * columns
unfolding transposed
length-transposed rows columns bytes = length-list_from _ 0 (rows * columns)

-- byte r of row c is byte c of row r
pub transposed_at : (rows columns : ℕ) (bytes : List ℕ) (r c : ℕ) → r < rows → c < columns
    → get_or (transposed rows columns bytes) (c * rows + r) 0 ≡ get_or bytes (r * columns + c) 0
unfolding transposed
transposed_at rows columns bytes r c h g =
    get_or-list_from _ (rows * columns) (c * rows + r) 0 (place_lt c r columns rows g h)
    ∙ rw (place_div c r rows h, place_mod c r rows h)

-- a buffer of its length that is right in every row and column is the transpose
pub is_transposed : (rows columns : ℕ) (goal buffer : List ℕ) → length goal ≡ rows * columns → length buffer ≡ rows * columns
    → ((r c : ℕ) → r < rows → c < columns → Right goal buffer (c * rows + r)) → buffer ≡ goal
is_transposed rows columns goal buffer e f right = ext_get_or 0 buffer goal (f ∙ sym e) each
  where
    each : (u : ℕ) → u < length buffer → Right goal buffer u
    each u h =
        let p = place_of u columns rows (omega arith) in
        rw p.is at (right (u % rows) (u / rows) p.within p.row)

-- ---- one after the other

-- there and back
pub transposed_twice : (rows columns : ℕ) (bytes : List ℕ) → length bytes ≡ rows * columns → transposed columns rows (transposed rows columns bytes) ≡ bytes
transposed_twice rows columns bytes e =
    is_transposed columns rows bytes (transposed columns rows (transposed rows columns bytes)) (e ∙ mul_comm rows columns) (length-transposed columns rows _)
    (λ c r h g. transposed_at columns rows (transposed rows columns bytes) c r h g ∙ transposed_at rows columns bytes r c g h)

-- a single row, transposed, is the same bytes
pub transposed_one : (columns : ℕ) (bytes : List ℕ) → length bytes ≡ columns → transposed 1 columns bytes ≡ bytes
transposed_one columns bytes e = sym (is_transposed 1 columns (transposed 1 columns bytes) bytes (length-transposed 1 columns bytes) (e ∙ sym (one-mul columns)) each)
  where
    each : (r c : ℕ) → r < 1 → c < columns → Right (transposed 1 columns bytes) bytes (c * 1 + r)
    each zero c h g =
        let f : c * 1 + 0 ≡ 0 * columns + c = rw (zero-mul columns) (omega arith) in
        ap (λ (x : ℕ). get_or bytes x 0) f ∙ sym (transposed_at 1 columns bytes zero c h g)
    each (suc r) c h g = absurd (omega arith)

-- the transpose of a × b rows is that of a rows, and then that of b rows
pub transposed_product : (a b c : ℕ) (bytes : List ℕ) → transposed b (c * a) (transposed a (b * c) bytes) ≡ transposed (a * b) c bytes
transposed_product a b c bytes =
    is_transposed (a * b) c (transposed (a * b) c bytes) (transposed b (c * a) (transposed a (b * c) bytes))
    (length-transposed (a * b) c bytes) (length-transposed b (c * a) _ ∙ rw (mul_comm c a, mul_comm a b) (sym (mul_assoc b a c))) each
  where
    each : (r l : ℕ) → r < a * b → l < c → Right (transposed (a * b) c bytes) (transposed b (c * a) (transposed a (b * c) bytes)) (l * (a * b) + r)
    each r l h g =
        let i = r / b in
        let j = r % b in
        let p = place_of r a b (rw (mul_comm b a) h) in
        let first : l * (a * b) + r ≡ (l * a + i) * b + j = rw (add-mul (l * a) i b, mul_assoc l a b) (omega (arith, p.is)) in
        let second : j * (c * a) + (l * a + i) ≡ (j * c + l) * a + i = rw (add-mul (j * c) l a, mul_assoc j c a) (omega arith) in
        let third : i * (b * c) + (j * c + l) ≡ r * c + l = rw (← mul_assoc i b c, ← add_assoc (i * b * c) (j * c) l, ← add-mul (i * b) j c, p.is) in
        ap (λ (x : ℕ). get_or (transposed b (c * a) (transposed a (b * c) bytes)) x 0) first
        ∙ transposed_at b (c * a) (transposed a (b * c) bytes) j (l * a + i) p.within (rw (mul_comm c a) (place_lt l i c a g p.row))
        ∙ ap (λ (x : ℕ). get_or (transposed a (b * c) bytes) x 0) second
        ∙ transposed_at a (b * c) bytes i (j * c + l) p.row (rw (mul_comm b c) (place_lt j l b c p.within g))
        ∙ ap (λ (x : ℕ). get_or bytes x 0) third
        ∙ sym (transposed_at (a * b) c bytes r l h g)

-- one shuffle more doubles the rows
pub transposed_more : (i : ℕ) (bytes : List ℕ) → i < 7 → transposed 2 64 (transposed (2 ^ i) (2 ^ (7 - i)) bytes) ≡ transposed (2 ^ (i + 1)) (2 ^ (7 - (i + 1))) bytes
transposed_more i bytes h =
    let c = 2 ^ (7 - (i + 1)) in
    let double : 2 ^ (i + 1) ≡ 2 ^ i * 2 = rw (add-one i, pow-suc 2 i) in
    let six : 7 - (i + 1) + i ≡ 6 = omega arith in
    let all : c * 2 ^ i ≡ 64 = sym (pow-add 2 (7 - (i + 1)) i) ∙ ap (λ (x : ℕ). 2 ^ x) six in
    let next : 7 - i ≡ suc (7 - (i + 1)) = omega arith in
    rw (next, pow-succ' 2 (7 - (i + 1)), ← all, double) (transposed_product (2 ^ i) 2 c bytes)
