-- A matrix whose transpose a buffer nears: a column, a row or a tile of it that is moved, and rows done so far.
-- Assumes nothing.
use mathlib.Core.Path.{◌≡◌, sym, ap, subst, ◌∙◌}
use mathlib.Core.List.{List}
use mathlib.Core.Logic.{⊎_elim}
use Prim.Native.Nat.{ℕ, ◌+◌, ◌-◌, ◌*◌, ◌^◌, ◌≤◌, ◌<◌}
use native.Mathlib.Nat.{add-mul, mul_comm, mul-le-mul_right}
use native.Mathlib.Decide.{dec_lt}
use native.Mathlib.Omega.{arith}
use borrow.Author.Count.{below_more}
use lib.ListN.{length, get_or}
use Rattle.std.specs.Prelude.{min}
use Rattle.std.specs.Int.{div_ceil}
use Rattle.std.proofs.lemmas.Grind.{div_ceil_times}
use Rattle.transposition.specs.Inner.{transposed, PiecesIn, Right, Nears, TileIn, Start}
use Rattle.transposition.proofs.Places.{row_end}
use Rattle.transposition.proofs.TransposeLaws.{length-transposed, transposed_at, is_transposed}

-- the first rows are right, and the first columns
abbrev pub RowsRight : (goal buffer : List ℕ) (rows columns done : ℕ) → Type 0
RowsRight goal buffer rows columns done = (r c : ℕ) → r < done → c < columns → Right goal buffer (c * rows + r)

abbrev pub ColumnsRight : (goal buffer : List ℕ) (rows done : ℕ) → Type 0
ColumnsRight goal buffer rows done = (c r : ℕ) → c < done → r < rows → Right goal buffer (c * rows + r)

-- some rows more, from one that is done or the next on
pub rows_more : {goal before after : List ℕ} {rows columns done size r : ℕ} → RowsRight goal before rows columns done → Nears goal before after columns size r rows → r ≤ done
    → RowsRight goal after rows columns (r + size)
rows_more {goal} {before} {after} {rows} {columns} {done} {size} {r} w n l i c h g = go (dec_lt i r)
  where
    go : Dec (i < r) → Right goal after (c * rows + i)
    go (yes a) = n.stay (c * rows + i) (w i c (omega arith) g)
    go (no a) =
        let e : r + c * rows + (i - r) ≡ c * rows + i = omega arith in
        rw e at (n.right c (i - r) g (omega arith))

-- one column more
pub column_more : {goal before after : List ℕ} {rows done : ℕ} → ColumnsRight goal before rows done → Nears goal before after rows 1 (done * rows) 1 → ColumnsRight goal after rows (done + 1)
column_more {goal} {before} {after} {rows} {done} w n c r h g =
    below_more (λ (c : ℕ). Right goal after (c * rows + r)) done (λ c l. n.stay (c * rows + r) (w c r l g))
    (let e : done * rows + r * 1 + 0 ≡ done * rows + r = omega arith in rw e at (n.right r 0 g (omega arith))) c h

-- some columns more of a few rows, from one that is done or the next on
pub near_after : {goal s t u : List ℕ} {done count c size r rows : ℕ} → Nears goal s t done size r rows → Nears goal t u count size (r + c * rows) rows → c ≤ done
    → Nears goal s u (c + count) size r rows
near_after {goal} {s} {t} {u} {done} {count} {c} {size} {r} {rows} w n l =
    record { length_stays = n.length_stays ∙ w.length_stays; stay = λ x e. n.stay x (w.stay x e); right = λ i j h g. go i j h g (dec_lt i c) }
  where
    go : (i j : ℕ) → i < c + count → j < size → Dec (i < c) → Right goal u (r + i * rows + j)
    go i j h g (yes a) = n.stay (r + i * rows + j) (w.right i j (omega arith) g)
    go i j h g (no a) =
        let p : c + (i - c) ≡ i = omega arith in
        let q : c * rows + (i - c) * rows ≡ i * rows = sym (add-mul c (i - c) rows) ∙ ap (λ (x : ℕ). x * rows) p in
        let e : r + c * rows + (i - c) * rows + j ≡ r + i * rows + j = omega arith in
        rw e at (n.right (i - c) j (omega arith) g)

-- of the first rows
pub near_first : {goal s t u : List ℕ} {done count c size rows : ℕ} → Nears goal s t done size 0 rows → Nears goal t u count size (c * rows) rows → c ≤ done
    → Nears goal s u (c + count) size 0 rows
near_first {goal} {s} {t} {u} {done} {count} {c} {size} {rows} w n l =
    let e : c * rows ≡ 0 + c * rows = omega arith in
    near_after w (subst (λ (x : ℕ). Nears goal t u count size x rows) e n) l

-- ---- tiles one after the other

-- what the first t of them cover
abbrev pub covered : ℕ → ℕ → ℕ → ℕ
covered t size end = min (t * size) end

-- one of them begins no later than what is covered
pub start_covered : (t : ℕ) {size end start : ℕ} → Start (t * size) size end start → start ≤ covered t size end
start_covered t s = omega (arith, s.no_later, s.within)

-- one more covers what lies before its end
pub covered_more : (t : ℕ) {size end start : ℕ} → Start (t * size) size end start → covered (t + 1) size end ≡ start + size
covered_more t {size} {end} {start} s =
    let e : (t + 1) * size ≡ t * size + size = rw (add-mul t 1 size) (omega arith) in
    ⊎_elim (λ (f : start ≡ t * size). omega (arith, e, s.within)) (λ (f : start + size ≡ end). omega (arith, e, s.no_later)) s.last

-- all of them cover everything
pub covered_all : (t size end : ℕ) → 0 < size → div_ceil end size ≤ t → covered t size end ≡ end
covered_all t size end p h =
    let e : div_ceil end size * size ≤ t * size = mul-le-mul_right size h in
    omega (arith, (div_ceil_times end size p).0, e)

module _ (rows columns : ℕ) (source : List ℕ) (size : length source ≡ rows * columns) where
  -- all rows, or all columns
  pub all_rows : (buffer : List ℕ) (done : ℕ) → length buffer ≡ rows * columns → rows ≤ done → RowsRight (transposed rows columns source) buffer rows columns done
      → buffer ≡ transposed rows columns source
  all_rows buffer done e h w = is_transposed rows columns (transposed rows columns source) buffer (length-transposed rows columns source) e (λ r c l g. w r c (omega arith) g)

  pub all_columns : (buffer : List ℕ) (done : ℕ) → length buffer ≡ rows * columns → columns ≤ done → ColumnsRight (transposed rows columns source) buffer rows done
      → buffer ≡ transposed rows columns source
  all_columns buffer done e h w = is_transposed rows columns (transposed rows columns source) buffer (length-transposed rows columns source) e (λ r c l g. w c r (omega arith) l)

  -- a column, and a row
  pub column_goal : (c i : ℕ) → c < columns → i < rows → get_or source (c + i * columns) 0 ≡ get_or (transposed rows columns source) (c * rows + i * 1) 0
  column_goal c i h g =
      let e : c + i * columns ≡ i * columns + c = omega arith in
      let f : c * rows + i * 1 ≡ c * rows + i = omega arith in
      rw (e, f) (sym (transposed_at rows columns source i c g h))

  pub row_goal : (r i : ℕ) → r < rows → i < columns → get_or source (r * columns + i * 1) 0 ≡ get_or (transposed rows columns source) (r + i * rows) 0
  row_goal r i h g =
      let e : r * columns + i * 1 ≡ r * columns + i = omega arith in
      let f : r + i * rows ≡ i * rows + r = omega arith in
      rw (e, f) (sym (transposed_at rows columns source r i h g))

  -- a tile
  pub tile_goal : (r c i j : ℕ) → r + i < rows → c + j < columns
      → get_or source (r * columns + c + i * columns + j) 0 ≡ get_or (transposed rows columns source) (r + c * rows + j * rows + i) 0
  tile_goal r c i j h g =
      let e : r * columns + c + i * columns + j ≡ (r + i) * columns + (c + j) = rw (add-mul r i columns) (omega arith) in
      let f : r + c * rows + j * rows + i ≡ (c + j) * rows + (r + i) = rw (add-mul c j rows) (omega arith) in
      rw (e, f) (sym (transposed_at rows columns source (r + i) (c + j) h g))

  pub tile_in : (target : List ℕ) (log r c : ℕ) → length target ≡ rows * columns → r + 2 ^ log ≤ rows → c + 2 ^ (7 - log) ≤ columns
      → TileIn log (r * columns + c) columns (length source) (r + c * rows) rows (length target)
  tile_in target log r c e h g = record { reads = reads; writes = writes }
    where
      reads : PiecesIn (2 ^ log) (2 ^ (7 - log)) (r * columns + c) columns (length source)
      reads i l =
          let p : (r + i) * columns + columns ≤ rows * columns = row_end (r + i) columns rows (omega arith) in
          let q = rw (add-mul r i columns) at p in
          omega arith

      writes : PiecesIn (2 ^ (7 - log)) (2 ^ log) (r + c * rows) rows (length target)
      writes i l =
          let p : (c + i) * rows + rows ≤ columns * rows = row_end (c + i) rows columns (omega arith) in
          let q = rw (add-mul c i rows, mul_comm columns rows) at p in
          omega arith
