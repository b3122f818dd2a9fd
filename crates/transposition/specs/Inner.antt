-- For inner functions: the transpose of a matrix of bytes; a buffer that becomes another byte by byte, in any order; and tiles of 128
-- bytes, a power of two of rows each.
use Rattle.std.specs.Prelude.{◌≡◌, ⊤, Option, None, Some, List, ◌⊎◌, ℕ, ◌+◌, ◌-◌, ◌*◌, ◌/◌, ◌%◌, ◌^◌, ◌≤◌, ◌<◌, length, get_or}
use Rattle.base.specs.Ranges.{list_from}
use Rattle.transposition.specs.declared.Span.{Span}
use Rattle.transposition.specs.declared.Span.TheVariants.{Two, Four, Eight}

-- ---- the transpose

-- a matrix stands row by row: byte c of row r, both from 0, is at r × columns + c. Its transpose stands row by row too: byte u of it, byte
-- u mod rows of its row u div rows, is byte u div rows of row u mod rows
unfoldable pub transposed : ℕ → ℕ → List ℕ → List ℕ
transposed rows columns bytes = list_from (λ u. get_or bytes (u % rows * columns + u / rows) 0) 0 (rows * columns)

-- ---- pieces of a buffer

-- `count` pieces of `size` bytes, the first at `at` and each `stride` after the one before, lie in a buffer of so many bytes
abbrev pub PiecesIn : (count size at stride total : ℕ) → Type 0
PiecesIn count size at stride total = (i : ℕ) → i < count → at + i * stride + size ≤ total

-- ---- nearer to a goal

-- the byte at a place is the goal's
abbrev pub Right : List ℕ → List ℕ → ℕ → Type 0
Right goal bytes u = get_or bytes u 0 ≡ get_or goal u 0

-- what part of the work leaves: the length stays, bytes that were right stay so, and those of `count` pieces are right
pub record Nears (goal before after : List ℕ) (count size at stride : ℕ) : Type 0 where
  pub length_stays : length after ≡ length before
  pub stay : (u : ℕ) → Right goal before u → Right goal after u
  pub right : (i j : ℕ) → i < count → j < size → Right goal after (at + i * stride + j)

-- ---- moves

-- `count` bytes, `from-stride` apart, come to places `to-stride` apart: whatever goal has them there, the buffer nears it
pub record Strided (source : List ℕ) (from from-stride : ℕ) (before after : List ℕ) (to to-stride count : ℕ) : Type 0 where
  pub nears : (goal : List ℕ) → ((i : ℕ) → i < count → get_or source (from + i * from-stride) 0 ≡ get_or goal (to + i * to-stride) 0) → Nears goal before after count 1 to to-stride

-- the rows of a tile, `count` of `size` bytes, are pieces of a buffer
pub record Loaded (source : List ℕ) (from from-stride count size : ℕ) (tile : List ℕ) : Type 0 where
  pub row : (i j : ℕ) → i < count → j < size → get_or tile (i * size + j) 0 ≡ get_or source (from + i * from-stride + j) 0

-- the rows of a tile come to pieces of a buffer
pub record Stored (tile before after : List ℕ) (to to-stride count size : ℕ) : Type 0 where
  pub nears : (goal : List ℕ) → ((i j : ℕ) → i < count → j < size → get_or tile (i * size + j) 0 ≡ get_or goal (to + i * to-stride + j) 0) → Nears goal before after count size to to-stride

-- pieces of one buffer, the 2^log rows of a tile of 128 bytes, come to pieces of another as its columns
pub record Turned (source : List ℕ) (from from-stride : ℕ) (before after : List ℕ) (to to-stride log : ℕ) : Type 0 where
  pub nears : (goal : List ℕ) → ((r c : ℕ) → r < 2 ^ log → c < 2 ^ (7 - log) → get_or source (from + r * from-stride + c) 0 ≡ get_or goal (to + c * to-stride + r) 0)
      → Nears goal before after (2 ^ (7 - log)) (2 ^ log) to to-stride

-- a tile's pieces lie in the two buffers
pub record TileIn (log from from-stride source to to-stride target : ℕ) : Type 0 where
  pub reads : PiecesIn (2 ^ log) (2 ^ (7 - log)) from from-stride source
  pub writes : PiecesIn (2 ^ (7 - log)) (2 ^ log) to to-stride target

-- ---- which tiles

-- tiles of 2^log rows suit a matrix
pub record Suits (rows columns log : ℕ) : Type 0 where
  pub least : 2 ≤ log
  pub most : log ≤ 5
  pub high : 2 ^ log ≤ rows
  pub wide : 2 ^ (7 - log) ≤ columns

-- a tile that begins no later than `at` and ends by `end`; where it begins earlier, it ends there
pub record Start (at size end start : ℕ) : Type 0 where
  pub no_later : start ≤ at
  pub within : start + size ≤ end
  pub last : (start ≡ at) ⊎ (start + size ≡ end)

-- tiles of so many of the few and 128 / that of the many fit; those of two are for two alone
abbrev pub Spans : ℕ → ℕ → Option Span → Type 0
Spans few many None = ⊤
Spans few many (Some Two) = (few ≡ 2) × (64 ≤ many)
Spans few many (Some Four) = (4 ≤ few) × (32 ≤ many)
Spans few many (Some Eight) = (8 ≤ few) × (16 ≤ many)
