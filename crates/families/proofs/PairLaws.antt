-- Weight-two: the nodes are the pairs a < b of the numbers 0 to k, each once, in document 01's order, for every k.
-- Assumes nothing.
use mathlib.Core.Path.{◌≡◌, refl, sym, ap, ap₂, ◌∙◌}
use mathlib.Core.Bool.{Bool, true, cond, ◌&&◌}
use Prim.Native.Nat.{ℕ, zero, suc, ◌+◌, ◌-◌, ◌*◌, ◌/◌, ◌^◌, ◌≤◌, ◌<◌}
use native.Mathlib.Numerals.{add-one}
use native.Mathlib.Nat.{div-eq_of_lt, zero-lt-suc, le_of_suc-le-suc, not-suc-le-zero, pow-suc, mul-div_cancel, zero-add, mul-add, mul-le-mul}
use native.Mathlib.Decide.{dec_le, dec_lt}
use native.Mathlib.Omega.{arith}
use borrow.Author.Tests.{lt-ltb, le-ltb, le-leb, lt-leb, leb-true, ltb-true}
use lib.Count.{count_leading_zeros}
use lib.Dec.{leb, ltb}
use mir.Val.{bool_byte}
use lib.Pow.{pow-lt, pow_pos, pow_mono, pow-add, shl-shr}
use Rattle.base.proofs.Tests.{and_left, and_right, all_below, all_below_lem}
use Rattle.families.specs.Families.{pair_at, pair_node, node_count, column_of}
use Rattle.families.specs.Inner.{unit}
use Rattle.families.specs.declared.Family.TheVariants.{WeightTwo}

-- ---- the two numbers of the pair at a place

-- A data block's node counts as the pair of no block, 0, and its block, so the nodes are all the pairs a < b of
-- the numbers 0 to k, by a and then b. Where the row of the smaller number, a, has m pairs, here are the two numbers of the
-- pair at a place, from 0: the first m have a for the smaller, and those after them are the pairs of one number fewer.
unfoldable pub smaller_at : ℕ → ℕ → ℕ
smaller_at zero place = 0
smaller_at (suc m) place = cond (ltb place (suc m)) 0 (suc (smaller_at m (place - suc m)))

unfoldable pub larger_at : ℕ → ℕ → ℕ
larger_at zero place = 0
larger_at (suc m) place = cond (ltb place (suc m)) (suc place) (suc (larger_at m (place - suc m)))

-- in the first row
pub smaller_near : (m place : ℕ) → place < suc m → smaller_at (suc m) place ≡ 0
unfolding smaller_at
smaller_near m place h = rw (lt-ltb place (suc m) h)

pub larger_near : (m place : ℕ) → place < suc m → larger_at (suc m) place ≡ suc place
unfolding larger_at
larger_near m place h = rw (lt-ltb place (suc m) h)

-- beyond it
pub smaller_far : (m place : ℕ) → suc m ≤ place → smaller_at (suc m) place ≡ suc (smaller_at m (place - suc m))
unfolding smaller_at
smaller_far m place h = rw (le-ltb place (suc m) h)

pub larger_far : (m place : ℕ) → suc m ≤ place → larger_at (suc m) place ≡ suc (larger_at m (place - suc m))
unfolding larger_at
larger_far m place h = rw (le-ltb place (suc m) h)

-- how many pairs there are
abbrev pub pairs : ℕ → ℕ
pairs zero = 0
pairs (suc m) = suc m + pairs m

pairs_twice : (m : ℕ) → pairs m * 2 ≡ m * (m + 1)
pairs_twice zero = refl
pairs_twice (suc m) = omega (arith, pairs_twice m)

pub pair_count : (k : ℕ) → node_count WeightTwo k ≡ pairs k
unfolding node_count
pair_count k = ap (λ (x : ℕ). x / 2) (sym (pairs_twice k)) ∙ mul-div_cancel (pairs k) (zero-lt-suc 1)

pub pairs_le : (m : ℕ) → m ≤ pairs m
pairs_le zero = omega arith
pairs_le (suc m) = omega arith

-- the place of the pair a < b
abbrev pub place_of : ℕ → ℕ → ℕ → ℕ
place_of zero a b = 0
place_of (suc m) zero b = b - 1
place_of (suc m) (suc a) b = suc m + place_of m a (b - 1)

less_one : (x : ℕ) → suc x - 1 ≡ x
less_one x = omega arith

less_row : (m x : ℕ) → suc m + x - suc m ≡ x
less_row m x = omega arith

-- at each place stands a pair, whose place it is
pub record PairAt (m place : ℕ) : Type 0 where
  pub order : smaller_at m place < larger_at m place
  pub within : larger_at m place ≤ m
  pub back : place_of m (smaller_at m place) (larger_at m place) ≡ place

pub pair_at_lem : (m place : ℕ) → place < pairs m → PairAt m place
pair_at_lem zero place h = absurd (not-suc-le-zero h)
pair_at_lem (suc m) place h = go (dec_lt place (suc m)) (λ g. pair_at_lem m (place - suc m) g)
  where
    go : Dec (place < suc m) → (place - suc m < pairs m → PairAt m (place - suc m)) → PairAt (suc m) place
    go (yes d) rest =
        record {
          order = rw (smaller_near m place d, larger_near m place d) (omega arith);
          within = rw (larger_near m place d) (omega arith);
          back = rw (smaller_near m place d, larger_near m place d) (omega arith);
        }
    go (no d) rest =
        let p : PairAt m (place - suc m) = rest (omega arith) in
        let f : suc m ≤ place = omega arith in
        record {
          order = rw (smaller_far m place f, larger_far m place f) (omega (arith, p.order));
          within = rw (larger_far m place f) (omega (arith, p.within));
          back = rw (smaller_far m place f, larger_far m place f, less_one (larger_at m (place - suc m)), p.back) (omega arith);
        }

-- each pair stands at its place
pub record Placed (m a b : ℕ) : Type 0 where
  pub room : place_of m a b < pairs m
  pub smaller : smaller_at m (place_of m a b) ≡ a
  pub larger : larger_at m (place_of m a b) ≡ b

pub placed : (m a b : ℕ) → a < b → b ≤ m → Placed m a b
placed zero a b h g = absurd (omega arith)
placed (suc m) zero b h g =
    record { room = omega arith; smaller = smaller_near m (b - 1) (omega arith); larger = larger_near m (b - 1) (omega arith) ∙ omega arith }
placed (suc m) (suc a) b h g =
    let p : Placed m a (b - 1) = placed m a (b - 1) (omega arith) (omega arith) in
    record {
      room = omega (arith, p.room);
      smaller = smaller_far m (suc m + place_of m a (b - 1)) (omega arith) ∙ rw (less_row m (place_of m a (b - 1)), p.smaller);
      larger = larger_far m (suc m + place_of m a (b - 1)) (omega arith) ∙ rw (less_row m (place_of m a (b - 1)), p.larger) (omega arith);
    }

-- ---- the column of the pair at a place

bits_at : (m place : ℕ) → place < pairs m → pair_at (suc m) place ≡ 2 ^ smaller_at m place + 2 ^ larger_at m place
unfolding pair_at
bits_at zero place h = absurd (not-suc-le-zero h)
bits_at (suc m) place h = go (dec_lt place (suc m)) (λ g. bits_at m (place - suc m) g)
  where
    a : ℕ
    a = smaller_at m (place - suc m)

    b : ℕ
    b = larger_at m (place - suc m)

    go : Dec (place < suc m) → (place - suc m < pairs m → pair_at (suc m) (place - suc m) ≡ 2 ^ a + 2 ^ b)
        → pair_at (suc (suc m)) place ≡ 2 ^ smaller_at (suc m) place + 2 ^ larger_at (suc m) place
    go (yes d) rest = rw (lt-ltb place (suc m) d, smaller_near m place d, larger_near m place d)
    go (no d) rest =
        let f : suc m ≤ place = omega arith in
        rw (le-ltb place (suc m) f, smaller_far m place f, larger_far m place f) (omega (arith, rest (omega arith), pow-suc 2 a, pow-suc 2 b))

-- node j is the pair at place j − 1
pub column_at : (k j : ℕ) → 1 ≤ j → j ≤ node_count WeightTwo k → column_of WeightTwo k j ≡ unit (smaller_at k (j - 1)) + unit (larger_at k (j - 1))
unfolding column_of
column_at zero j h g = absurd (omega (arith, pair_count 0))
column_at (suc m) j h g = go (dec_lt (j - 1) (suc m))
  where
    go : Dec (j - 1 < suc m) → column_of WeightTwo (suc m) j ≡ unit (smaller_at (suc m) (j - 1)) + unit (larger_at (suc m) (j - 1))
    go (yes d) = rw (le-leb j (suc m) (omega arith), smaller_near m (j - 1) d, larger_near m (j - 1) d) (sym (zero-add (2 ^ (j - 1))))
    go (no d) =
        let f : suc m ≤ j - 1 = omega arith in
        rw (lt-leb j (suc m) (omega arith), smaller_far m (j - 1) f, larger_far m (j - 1) f) (bits_at m (j - 1 - suc m) (omega (arith, pair_count (suc m))))

pub placed_column : (k a b : ℕ) → a < b → b ≤ k → column_of WeightTwo k (suc (place_of k a b)) ≡ unit a + unit b
placed_column k a b h g =
    let p : Placed k a b = placed k a b h g in
    column_at k (suc (place_of k a b)) (omega arith) (omega (arith, p.room, pair_count k)) ∙ rw (less_one (place_of k a b), p.smaller, p.larger)

-- ---- the next pair, as the code goes from pair to pair

-- in a row of m pairs
pub in_row : (m place : ℕ) → place < m → (smaller_at m place ≡ 0) × (larger_at m place ≡ suc place)
in_row zero place h = absurd (not-suc-le-zero h)
in_row (suc m) place h = (smaller_near m place h, larger_near m place h)

place_right : (m a b : ℕ) → a < b → b < m → place_of m a (suc b) ≡ suc (place_of m a b)
place_right zero a b h g = absurd (not-suc-le-zero g)
place_right (suc m) zero b h g = omega arith
place_right (suc m) (suc a) zero h g = absurd (not-suc-le-zero h)
place_right (suc m) (suc a) (suc b) h g = rw (less_one b, less_one (suc b)) (omega (arith, place_right m a b (omega arith) (omega arith)))

place_down : (m a : ℕ) → suc (suc a) ≤ m → place_of m (suc a) (suc (suc a)) ≡ suc (place_of m a m)
place_down zero a h = absurd (not-suc-le-zero h)
place_down (suc zero) a h = absurd (omega arith)
place_down (suc (suc m)) zero h = omega arith
place_down (suc (suc m)) (suc a) h = rw (less_one (suc (suc a)), less_one (suc m)) (omega (arith, place_down (suc m) a (omega arith)))

place_last : (m a : ℕ) → suc a ≡ m → suc (place_of m a m) ≡ pairs m
place_last zero a e = absurd (omega arith)
place_last (suc zero) zero e = refl
place_last (suc zero) (suc a) e = absurd (omega arith)
place_last (suc (suc m)) zero e = absurd (omega arith)
place_last (suc (suc m)) (suc a) e = rw (less_one (suc m)) (omega (arith, place_last (suc m) a (omega arith)))

-- the pair after the one at a place: one to the right, or the first of the next row
pub record NextPair (k place : ℕ) : Type 0 where
  pub right : (larger_at k place ≡ k → ⊥) → (smaller_at k (suc place) ≡ smaller_at k place) × (larger_at k (suc place) ≡ suc (larger_at k place))
  pub down : larger_at k place ≡ k → (smaller_at k (suc place) ≡ suc (smaller_at k place)) × (larger_at k (suc place) ≡ suc (suc (smaller_at k place)))

pub next_pair : (k place : ℕ) → suc place < pairs k → NextPair k place
next_pair k place h = record { right = λ n. stands a (suc b) (omega (arith, p.order)) (omega (arith, p.within)) (place_right k a b p.order (omega (arith, p.within))); down = λ e. below e (dec_le (suc (suc a)) k) }
  where
    p : PairAt k place
    p = pair_at_lem k place (omega arith)

    a : ℕ
    a = smaller_at k place

    b : ℕ
    b = larger_at k place

    stands : (c d : ℕ) → c < d → d ≤ k → place_of k c d ≡ suc (place_of k a b) → (smaller_at k (suc place) ≡ c) × (larger_at k (suc place) ≡ d)
    stands c d l w e =
        let q : Placed k c d = placed k c d l w in
        let s : place_of k c d ≡ suc place = e ∙ ap suc p.back in
        (rw s at q.smaller, rw s at q.larger)

    below : b ≡ k → Dec (suc (suc a) ≤ k) → (smaller_at k (suc place) ≡ suc a) × (larger_at k (suc place) ≡ suc (suc a))
    below e (yes w) = stands (suc a) (suc (suc a)) (omega arith) w (place_down k a w ∙ ap (λ (x : ℕ). suc (place_of k a x)) (sym e))
    below e (no w) =
        let l : suc a ≡ k = omega (arith, p.order) in
        absurd (omega (arith, place_last k a l, p.back, ap (λ (x : ℕ). place_of k a x) e))

-- ---- document 01's numbers

place_twice : (m a b : ℕ) → a < b → b ≤ m → 2 * suc (place_of m a b) + a * a ≡ a * (2 * m + 1) + 2 * (b - a)
place_twice zero a b h g = absurd (omega arith)
place_twice (suc m) zero b h g = omega arith
place_twice (suc m) (suc a) b h g = omega (arith, place_twice m a (b - 1) (omega arith) (omega arith))

halved : (P X k y : ℕ) → 2 * P ≡ X + 2 * (k + y) → P ≡ k + X / 2 + y
halved P X k y h = omega arith

pub pair_place : (k i j : ℕ) → 1 ≤ i → i < j → j ≤ k → suc (place_of k i j) ≡ pair_node k i j
pair_place k zero j h g e = absurd (omega arith)
pair_place k (suc i) j h g e =
    rw (less_one i) (halved (suc (place_of k (suc i) j)) (i * (2 * k - suc i)) k (j - suc i)
    (omega (arith, twice (2 * k - suc i) (omega arith), place_twice k (suc i) j g e)))
  where
    twice : (w : ℕ) → w + suc i ≡ 2 * k → i * w + i * suc i ≡ i * (2 * k)
    twice w q = sym (mul-add i w (suc i)) ∙ ap (λ (z : ℕ). i * z) q

-- the pair i < j is the node that document 01 says
pub pair_column : (k i j : ℕ) → 1 ≤ i → i < j → j ≤ k → column_of WeightTwo k (pair_node k i j) ≡ 2 ^ (i - 1) + 2 ^ (j - 1)
pair_column k zero j h g e = absurd (omega arith)
pair_column k (suc i) zero h g e = absurd (omega arith)
pair_column k (suc i) (suc j) h g e =
    ap (column_of WeightTwo k) (sym (pair_place k (suc i) (suc j) h g e)) ∙ placed_column k (suc i) (suc j) g e ∙ rw (less_one i, less_one j)

-- a data block is the node of its own number
pub data_column : (k i : ℕ) → 1 ≤ i → i ≤ k → column_of WeightTwo k i ≡ 2 ^ (i - 1)
unfolding column_of
data_column k i h g = rw (le-leb i k g)

pub pair_is_node : (k i j : ℕ) → 1 ≤ i → i < j → j ≤ k → (1 ≤ pair_node k i j) × (pair_node k i j ≤ node_count WeightTwo k)
pair_is_node k i j h g e =
    let p : Placed k i j = placed k i j g e in
    (omega arith, omega (arith, p.room, pair_count k, pair_place k i j h g e))

-- ---- columns

pub unit_lt : (a b : ℕ) → a < b → unit a < unit b
unit_lt zero zero h = absurd (not-suc-le-zero h)
unit_lt zero (suc b) h = pow_pos b
unit_lt (suc a) zero h = absurd (not-suc-le-zero h)
unit_lt (suc a) (suc b) h = pow-lt (le_of_suc-le-suc h)

-- twice a unit is at most any unit beyond it
unit_twice : (b c : ℕ) → b < c → unit b + unit b ≤ unit c
unit_twice zero c h = omega arith
unit_twice (suc b) zero h = absurd (not-suc-le-zero h)
unit_twice (suc b) (suc c) h = omega (arith, pow-suc 2 b, pow_mono h)

larger_same : (a b c d : ℕ) → a < b → c < d → unit a + unit b ≡ unit c + unit d → b ≡ d
larger_same a b c d h g e = go (dec_lt b d) (dec_lt d b)
  where
    go : Dec (b < d) → Dec (d < b) → b ≡ d
    go (yes x) y = absurd (omega (arith, unit_twice b d x, unit_lt a b h))
    go (no x) (yes y) = absurd (omega (arith, unit_twice d b y, unit_lt c d g))
    go (no x) (no y) = omega arith

smaller_same : (a c : ℕ) → unit a ≡ unit c → a ≡ c
smaller_same a c e = go (dec_lt a c) (dec_lt c a)
  where
    go : Dec (a < c) → Dec (c < a) → a ≡ c
    go (yes x) y = absurd (omega (arith, unit_lt a c x))
    go (no x) (yes y) = absurd (omega (arith, unit_lt c a y))
    go (no x) (no y) = omega arith

-- two pairs with one column are one pair
pub pair_once : (a b c d : ℕ) → a < b → c < d → unit a + unit b ≡ unit c + unit d → (a ≡ c) × (b ≡ d)
pair_once a b c d h g e =
    let l : b ≡ d = larger_same a b c d h g e in
    (smaller_same a c (omega (arith, ap unit l)), l)

-- the pair of a node
pub record PairOf (k j : ℕ) : Type 0 where
  pub smaller : ℕ
  pub larger : ℕ
  pub order : smaller < larger
  pub within : larger ≤ k
  pub column : column_of WeightTwo k j ≡ unit smaller + unit larger
  pub node : j ≡ suc (place_of k smaller larger)

pub pair_of : (k j : ℕ) → 1 ≤ j → j ≤ node_count WeightTwo k → PairOf k j
pair_of k j h g =
    let p : PairAt k (j - 1) = pair_at_lem k (j - 1) (omega (arith, pair_count k)) in
    record {
      smaller = smaller_at k (j - 1);
      larger = larger_at k (j - 1);
      order = p.order;
      within = p.within;
      column = column_at k j h g;
      node = omega (arith, p.back);
    }

-- ---- as the code works them out

pub unit_small : (i : ℕ) → i ≤ 22 → unit i ≤ 2 ^ 22
unit_small zero h = omega arith
unit_small (suc i) h = pow_mono {j = 22} (omega arith)

pub pair_product : (k i : ℕ) → k ≤ 22 → i ≤ 22 → (i - 1) * (2 * k - i) ≤ 968
pair_product k i h g = mul-le-mul {n₂ = 22} {m₂ = 44} (omega arith) (omega arith)

-- ---- a node's pair by its place from the last, as the code finds it

-- so many rows end before the place
abbrev AfterRows : ℕ → ℕ → Type 0
AfterRows place rows = (node_count WeightTwo rows ≤ place) × (place < node_count WeightTwo (rows + 1))

-- the number of which the code takes the root, half its length in bits, and twice Heron's mean from 2 to that power
abbrev radicand : ℕ → ℕ
radicand place = 4 * place + 1

abbrev half_length : ℕ → ℕ
half_length place = (64 - count_leading_zeros 64 (radicand place)) / 2

abbrev twice_mean : ℕ → ℕ
twice_mean place = radicand place / 2 ^ half_length place + 2 ^ half_length place

-- the rows by it, where `part` is the code's factor, 45, in 128ths
abbrev estimate : ℕ → ℕ → ℕ
estimate part place = part * twice_mean place / 128

-- 1 where that is a row too many, else 0
abbrev excess : ℕ → ℕ → ℕ
excess part place = bool_byte (ltb place (node_count WeightTwo (estimate part place)))

abbrev rows_found : ℕ → ℕ → ℕ
rows_found part place = estimate part place - excess part place

-- what the code needs of its part, at a place
abbrev in_bounds : ℕ → ℕ → Bool
in_bounds part place = leb (estimate part place) 22 && leb (excess part place) (estimate part place)

abbrev row_right : ℕ → ℕ → Bool
row_right part place = leb (node_count WeightTwo (rows_found part place)) place && ltb place (node_count WeightTwo (rows_found part place + 1))

-- where it has that at every place, which one test computes
module _ (part : ℕ) (every : all_below (λ p. in_bounds part p && row_right part p) 253 ≡ true) (place : ℕ) (h : place ≤ 252) where
  bounds : in_bounds part place ≡ true
  bounds = and_left (in_bounds part place) (row_right part place) (all_below_lem (λ p. in_bounds part p && row_right part p) 253 every place (omega arith))

  right : row_right part place ≡ true
  right = and_right (in_bounds part place) (row_right part place) (all_below_lem (λ p. in_bounds part p && row_right part p) 253 every place (omega arith))

  pub estimate_le : estimate part place ≤ 22
  estimate_le = leb-true _ 22 (and_left (leb (estimate part place) 22) (leb (excess part place) (estimate part place)) bounds)

  pub excess_le : excess part place ≤ estimate part place
  excess_le = leb-true _ _ (and_right (leb (estimate part place) 22) (leb (excess part place) (estimate part place)) bounds)

  pub rows_found_lem : AfterRows place (rows_found part place)
  rows_found_lem =
      let a = leb (node_count WeightTwo (rows_found part place)) place in
      let b = ltb place (node_count WeightTwo (rows_found part place + 1)) in
      (leb-true _ _ (and_left a b right), ltb-true _ _ (and_right a b right))

pub mean_small : (place : ℕ) → place ≤ 252 → twice_mean place ≤ 100
unfolding all_below count_leading_zeros
mean_small place h = leb-true _ 100 (all_below_lem (λ p. leb (twice_mean p) 100) 253 refl place (omega arith))

pairs_mono : (i m : ℕ) → i ≤ m → pairs i ≤ pairs m
pairs_mono i m h = omega (arith, pairs_twice i, pairs_twice m, mul-le-mul h h)

-- there are at most 253 pairs
pub few_pairs : (k : ℕ) → k ≤ 22 → node_count WeightTwo k ≤ 253
few_pairs k h = rw (pair_count k) (pairs_mono k 22 h)

-- a place among the nodes of k: fewer than k rows end before it, and it is one of the rows + 1 places of its own row
pub record RowFromLast (k place rows : ℕ) : Type 0 where
  pub row_within : rows < k
  pub place_within : place - node_count WeightTwo rows ≤ rows

pub row_from_last : (k place rows : ℕ) → place < node_count WeightTwo k → AfterRows place rows → RowFromLast k place rows
row_from_last k place rows h a =
    record { row_within = go (dec_lt rows k); place_within = omega (arith, a.1, pair_count rows, pair_count (rows + 1), ap pairs (add-one rows)) }
  where
    go : Dec (rows < k) → rows < k
    go (yes d) = d
    go (no d) = absurd (omega (arith, a.0, pair_count k, pair_count rows, pairs_mono k rows (omega arith)))

-- after the pair of k − (rows + 1) and k − t come so many rows, and t pairs of its own row
place_from_last : (k rows t : ℕ) → t ≤ rows → rows < k → suc (place_of k (k - (rows + 1)) (k - t)) + (pairs rows + t) ≡ pairs k
place_from_last zero rows t h g = absurd (omega arith)
place_from_last (suc m) rows t h g = go (dec_lt rows m) (λ d. place_from_last m rows t h d)
  where
    go : Dec (rows < m) → (rows < m → suc (place_of m (m - (rows + 1)) (m - t)) + (pairs rows + t) ≡ pairs m)
        → suc (place_of (suc m) (suc m - (rows + 1)) (suc m - t)) + (pairs rows + t) ≡ pairs (suc m)
    go (yes d) rest =
        let a : suc m - (rows + 1) ≡ suc (m - (rows + 1)) = omega arith in
        let b : suc m - t - 1 ≡ m - t = omega arith in
        rw (a, b) (omega (arith, rest d))
    go (no d) rest =
        let a : suc m - (rows + 1) ≡ 0 = omega arith in
        let b : rows ≡ m = omega arith in
        rw (a, b) (omega arith)

-- the last data block's column shifted right by i is that of the block i before it, and 0 where there is none
pub unit_down : (m i : ℕ) → i ≤ suc m → 2 ^ m / 2 ^ i ≡ unit (suc m - i)
unit_down m i h = go (dec_le i m)
  where
    go : Dec (i ≤ m) → 2 ^ m / 2 ^ i ≡ unit (suc m - i)
    go (yes d) =
        let e : suc m - i ≡ suc (m - i) = omega arith in
        let s : m ≡ m - i + i = omega arith in
        rw e (ap (λ (x : ℕ). 2 ^ x / 2 ^ i) s ∙ rw (pow-add 2 (m - i) i) (shl-shr (2 ^ (m - i)) i))
    go (no d) = let e : suc m - i ≡ 0 = omega arith in rw e (div-eq_of_lt (pow-lt (omega arith)))

-- the column of the node at a place from the last
pub column_from_last : (k place rows : ℕ) → place < node_count WeightTwo k → AfterRows place rows
    → 2 ^ (k - 1) / 2 ^ (rows + 1) + 2 ^ (k - 1) / 2 ^ (place - node_count WeightTwo rows) ≡ column_of WeightTwo k (node_count WeightTwo k - place)
column_from_last zero place rows h a = absurd (not-suc-le-zero (row_from_last zero place rows h a).row_within)
column_from_last (suc m) place rows h a =
    let k : ℕ = suc m in
    let t : ℕ = place - node_count WeightTwo rows in
    let r : RowFromLast k place rows = row_from_last k place rows h a in
    let e : node_count WeightTwo k - place ≡ suc (place_of k (k - (rows + 1)) (k - t)) = omega (arith, place_from_last k rows t r.place_within r.row_within, a.0, pair_count k, pair_count rows) in
    rw (less_one m, e, placed_column k (k - (rows + 1)) (k - t) (omega (arith, r.place_within, r.row_within)) (omega arith))
    (ap₂ ◌+◌ (unit_down m (rows + 1) (omega (arith, r.row_within))) (unit_down m t (omega (arith, r.place_within, r.row_within))))
