-- Tiles: one row more loaded, and a tile that goes from pieces of one buffer to pieces of another.
-- Assumes nothing.
use mathlib.Core.Path.{◌≡◌, sym, ap, ◌∙◌}
use mathlib.Core.List.{List}
use Prim.Native.Nat.{ℕ, zero, suc, ◌+◌, ◌-◌, ◌*◌, ◌/◌, ◌%◌, ◌^◌, ◌≤◌, ◌<◌}
use native.Mathlib.Nat.{zero-mul}
use native.Mathlib.Omega.{arith}
use borrow.Author.Count.{below_more}
use borrow.Rule.Slice.PartMut.{mid_of, put_mid}
use lib.Pow.{pow-add}
use lib.ListN.{length, get_or}
use Rattle.blocks.proofs.PartLaws.{length_mid, get_or_mid, put_inside, put_before}
use Rattle.transposition.specs.Inner.{transposed, PiecesIn, Nears, Loaded, Stored, Turned}
use Rattle.transposition.proofs.Places.{row_end, place_of}
use Rattle.transposition.proofs.TransposeLaws.{transposed_at}

-- one row more
pub loaded_more : {source tile : List ℕ} {from from-stride i size : ℕ} → from + i * from-stride + size ≤ length source → i * size + size ≤ length tile
    → Loaded source from from-stride i size tile → Loaded source from from-stride (i + 1) size (put_mid (i * size) size tile (mid_of (from + i * from-stride) size source))
loaded_more {source} {tile} {from} {from-stride} {i} {size} f g w =
    record {
      row = λ h j a b. below_more (λ (h : ℕ). get_or (put_mid (i * size) size tile v) (h * size + j) 0 ≡ get_or source (from + h * from-stride + j) 0) i
          (λ h l. put_before tile v (i * size) size g e (h * size + j) (omega (arith, row_end h size i l)) ∙ w.row h j l b)
          (put_inside tile v (i * size) size g e j b ∙ get_or_mid source (from + i * from-stride) size j b) h a;
    }
  where
    v : List ℕ
    v = mid_of (from + i * from-stride) size source

    e : length v ≡ size
    e = length_mid source (from + i * from-stride) size f

-- a tile has 128 bytes
pub tile_size : (log : ℕ) → log ≤ 7 → 2 ^ log * 2 ^ (7 - log) ≡ 128
tile_size log h = let e : log + (7 - log) ≡ 7 = omega arith in sym (pow-add 2 log (7 - log)) ∙ ap (λ (x : ℕ). 2 ^ x) e

-- a tile loaded, transposed and stored
pub moved : (log : ℕ) {source tile turned before after : List ℕ} {from from-stride to to-stride : ℕ} → Loaded source from from-stride (2 ^ log) (2 ^ (7 - log)) tile
    → turned ≡ transposed (2 ^ log) (2 ^ (7 - log)) tile → Stored turned before after to to-stride (2 ^ (7 - log)) (2 ^ log) → Turned source from from-stride before after to to-stride log
moved log {tile = tile} l t s =
    record { nears = λ goal e. s.nears goal (λ c r h g. rw t (transposed_at (2 ^ log) (2 ^ (7 - log)) tile r c g h) ∙ l.row r c g h ∙ e r c g h) }

-- ---- 64 rows of two bytes that lie side by side are one piece of 128

pub piece_in : (at total : ℕ) → at + 128 ≤ total → PiecesIn 1 128 at 0 total
piece_in at total h zero l = rw (zero-mul 0) (omega arith)
piece_in at total h (suc i) l = absurd (omega arith)

pub whole_loaded : {source tile : List ℕ} {from : ℕ} → Loaded source from 0 1 128 tile → Loaded source from 2 64 2 tile
whole_loaded {source} {tile} {from} w = record { row = each }
  where
    each : (i j : ℕ) → i < 64 → j < 2 → get_or tile (i * 2 + j) 0 ≡ get_or source (from + i * 2 + j) 0
    each i j h g =
        let e : 0 * 128 + (i * 2 + j) ≡ i * 2 + j = omega arith in
        let f : from + 0 * 0 + (i * 2 + j) ≡ from + i * 2 + j = omega arith in
        rw (e, f) at (w.row 0 (i * 2 + j) (omega arith) (omega arith))

pub whole_stored : {tile before after : List ℕ} {to : ℕ} → Stored tile before after to 0 1 128 → Stored tile before after to 2 64 2
whole_stored {tile} {before} {after} {to} w = record { nears = λ goal e. near goal (w.nears goal (piece goal e)) }
  where
    piece : (goal : List ℕ) → ((i j : ℕ) → i < 64 → j < 2 → get_or tile (i * 2 + j) 0 ≡ get_or goal (to + i * 2 + j) 0)
        → (i u : ℕ) → i < 1 → u < 128 → get_or tile (i * 128 + u) 0 ≡ get_or goal (to + i * 0 + u) 0
    piece goal e zero u h g =
        let p = place_of u 64 2 g in
        let a : 0 * 128 + u ≡ u / 2 * 2 + u % 2 = omega (arith, p.is) in
        let b : to + 0 * 0 + u ≡ to + u / 2 * 2 + u % 2 = omega (arith, p.is) in
        rw (a, b) (e (u / 2) (u % 2) p.row p.within)
    piece goal e (suc i) u h g = absurd (omega arith)

    near : (goal : List ℕ) → Nears goal before after 1 128 to 0 → Nears goal before after 64 2 to 2
    near goal n =
        record {
          length_stays = n.length_stays;
          stay = n.stay;
          right = λ i j h g. let f : to + 0 * 0 + (i * 2 + j) ≡ to + i * 2 + j = omega arith in rw f at (n.right 0 (i * 2 + j) (omega arith) (omega arith));
        }
