-- What holds of every family and every k in its range: columns are between 1 and 2^k − 1, no two nodes have one column, node
-- and column undo each other, related nodes differ, and a node's column without its lowest bit is an earlier node's.
-- Assumes nothing.
use mathlib.Core.Path.{◌≡◌, refl, sym, ap, ap₂, ◌∙◌, subst}
use mathlib.Core.Bool.{Bool, true}
use mathlib.Core.Logic.{◌⊎◌}
use Prim.Native.Nat.{ℕ, zero, suc, ◌+◌, ◌-◌, ◌*◌, ◌^◌, ◌≤◌, ◌<◌}
use native.Mathlib.Nat.{pow-suc, zero-add, zero-mul, suc-mul}
use native.Mathlib.Omega.{arith}
use borrow.Author.Tests.{eq-eqb, ne_eqb, eqb-true}
use lib.Bits.{bit_xor, xor_self, xor_comm}
use lib.Count.{count_trailing_zeros}
use lib.Dec.{eqb}
use lib.Pow.{pow_pos, pow_mono, pow-lt}
use Rattle.base.proofs.Xor.{xor_third, xor_assoc}
use Rattle.base.proofs.LowestBit.{Lowest, lowest, lowest_power, lowest_sum, pow_below}
use Rattle.base.proofs.First.{first_of, first_none, found}
use Rattle.families.proofs.PairLaws.{PairOf, pair_of, pair_count, pair_once, unit_lt, data_column, pair_column, pair_is_node, pairs_le, few_pairs, place_of}
use Rattle.families.proofs.TetrahedronLaws.{Entry, entry}
use Rattle.families.proofs.TetrahedronLaws as tetra
use Rattle.families.specs.Families.{KInRange, IsNode, node_count, column_of, node_of, are_related, pair_node}
use Rattle.families.specs.Inner.{unit}
use Rattle.families.specs.declared.Family.{Family}
use Rattle.families.specs.declared.Family.TheVariants.{Simplex, WeightTwo, Tetrahedron}

-- there are at most 255 nodes
pub few : (f : Family) (k : ℕ) → KInRange f k → node_count f k ≤ 255
unfolding node_count
few Simplex k r = omega (arith, pow_mono r.most)
few WeightTwo k r = omega (arith, few_pairs k r.most)
few Tetrahedron k r = omega arith

-- so that a table of 256 has a place for each
pub below256 : {f : Family} {k : ℕ} {j : ℕ} → KInRange f k → IsNode f k j → j < 256
below256 {f} {k} r n = omega (arith, few f k r, n.last)

pub short : (f : Family) (k : ℕ) → KInRange f k → (2 ≤ k) × (k ≤ 22)
short Simplex k r = (r.least, omega (arith, r.most))
short WeightTwo k r = (r.least, r.most)
short Tetrahedron k r = (omega (arith, r.least), omega (arith, r.most))

four : (k : ℕ) → KInRange Tetrahedron k → 2 ^ k ≡ 16
four k r = let e : k ≡ 4 = omega (arith, r.least, r.most) in rw e

-- ---- columns

pub record Column (f : Family) (k j : ℕ) : Type 0 where
  pub positive : 1 ≤ column_of f k j
  pub below : column_of f k j < 2 ^ k

unit-below : (i k : ℕ) → i ≤ k → unit i + unit i ≤ 2 ^ k
unit-below zero k h = omega arith
unit-below (suc i) k h = omega (arith, pow-suc 2 i, pow_mono h)

pub column : (f : Family) (k j : ℕ) → KInRange f k → IsNode f k j → Column f k j
unfolding column_of node_count
column Simplex k j r n = record { positive = n.first; below = omega (arith, n.last, pow_pos k) }
column WeightTwo k j r n =
    let p : PairOf k j = pair_of k j n.first n.last in
    record {
      positive = omega (arith, p.column, unit_lt p.smaller p.larger p.order);
      below = omega (arith, p.column, unit_lt p.smaller p.larger p.order, unit-below p.larger k p.within);
    }
column Tetrahedron k j r n =
    let e : Entry j = entry j n.first n.last in
    record { positive = e.positive; below = rw (four k r) e.below }

-- so that a column fits four bytes
pub column_small : (f : Family) (k j : ℕ) → KInRange f k → IsNode f k j → column_of f k j < 2 ^ 22
column_small f k j r n = omega (arith, (column f k j r n).below, pow_mono {j = 22} (short f k r).1)

-- no two nodes have one column
pub column_once : (f : Family) (k i j : ℕ) → KInRange f k → IsNode f k i → IsNode f k j → column_of f k i ≡ column_of f k j → i ≡ j
unfolding column_of node_count
column_once Simplex k i j r m n e = e
column_once WeightTwo k i j r m n e =
    let p : PairOf k i = pair_of k i m.first m.last in
    let q : PairOf k j = pair_of k j n.first n.last in
    let o = pair_once p.smaller p.larger q.smaller q.larger p.order q.order (sym p.column ∙ e ∙ q.column) in
    p.node ∙ ap suc (ap₂ (place_of k) o.0 o.1) ∙ sym q.node
column_once Tetrahedron k i j r m n e =
    sym (entry i m.first m.last).back ∙ ap (node_of Tetrahedron 4) e ∙ (entry j n.first n.last).back

-- ---- the node of a column

-- c is 0 or a node's column
abbrev pub ZeroOrNode : Family → ℕ → ℕ → Type 0
ZeroOrNode f k c = (c ≡ 0) ⊎ (1 ≤ node_of f k c)

-- c is 0, or the column of a live node m
pub data Known (f : Family) (k : ℕ) (live : ℕ → Bool) (c : ℕ) : Type 0 where
  nothing : c ≡ 0 → Known f k live c
  of_node : (m : ℕ) → IsNode f k m → live m ≡ true → column_of f k m ≡ c → Known f k live c

module _ (f : Family) (k : ℕ) (r : KInRange f k) where
  test : ℕ → ℕ → Bool
  test c j = eqb (column_of f k j) c

  -- a node is the node of its column
  pub node_is : (c j : ℕ) → IsNode f k j → column_of f k j ≡ c → node_of f k c ≡ j
  unfolding node_of test
  node_is c j n e =
      first_of (test c) 1 (node_count f k) j n.first (omega (arith, n.last)) (eq-eqb (column_of f k j) c e)
      (λ h a b. ne_eqb (column_of f k h) c (λ g. differ h b (column_once f k h j r (record { first = a; last = omega (arith, n.last) }) n (g ∙ sym e))))
    where
      differ : (h : ℕ) → h < j → h ≡ j → ⊥
      differ h b e = omega arith

  -- a column that no node has
  pub node_none : (c : ℕ) → ((j : ℕ) → IsNode f k j → column_of f k j ≡ c → ⊥) → node_of f k c ≡ 0
  unfolding node_of test
  node_none c none = first_none (test c) 1 (node_count f k) (λ h a b. ne_eqb (column_of f k h) c (none h (record { first = a; last = omega arith })))

  -- what the node of a column is, where there is one
  pub record NodeOf (c : ℕ) : Type 0 where
    pub is_node : IsNode f k (node_of f k c)
    pub has : column_of f k (node_of f k c) ≡ c

  pub node_of_lem : (c : ℕ) → 1 ≤ node_of f k c → NodeOf c
  unfolding node_of test
  node_of_lem c h =
      let g = found (test c) 1 (node_count f k) h in
      record { is_node = record { first = h; last = omega (arith, g.below) }; has = eqb-true _ c g.passes }

  -- three related nodes differ
  pub related_differ : (a b c : ℕ) → IsNode f k c → are_related f k a b c ≡ true → a ≡ b → ⊥
  unfolding are_related
  related_differ a b c nc h e =
      let z : column_of f k c ≡ bit_xor (column_of f k a) (column_of f k b) = xor_third (column_of f k a) (column_of f k b) (column_of f k c) (eqb-true _ 0 h) in
      omega (arith, (column f k c r nc).positive, z ∙ ap (λ (x : ℕ). bit_xor (column_of f k a) (column_of f k x)) (sym e) ∙ xor_self (column_of f k a))

-- the relation, with the first node moved to the end
pub related_turn : (f : Family) (k a b c : ℕ) → are_related f k a b c ≡ true → are_related f k b c a ≡ true
unfolding are_related
related_turn f k a b c h =
    eq-eqb _ 0 (xor_comm (bit_xor (column_of f k b) (column_of f k c)) (column_of f k a) ∙ sym (xor_assoc (column_of f k a) (column_of f k b) (column_of f k c)) ∙ eqb-true _ 0 h)

-- the relation, with the first two exchanged
pub related_swap : (f : Family) (k a b c : ℕ) → are_related f k a b c ≡ true → are_related f k b a c ≡ true
unfolding are_related
related_swap f k a b c h = rw (xor_comm (column_of f k b) (column_of f k a)) h

-- ---- the two earlier nodes whose XOR a node is, where it holds more than one data block

-- the lowest bit of a column
abbrev pub low_bit : ℕ → ℕ
low_bit c = 2 ^ count_trailing_zeros 64 c

-- column c is that of a node before j
pub record Before (f : Family) (k j c : ℕ) : Type 0 where
  pub first : 1 ≤ node_of f k c
  pub before : node_of f k c < j

pub record Sources (f : Family) (k j c : ℕ) : Type 0 where
  pub low : Before f k j (low_bit c)
  pub rest : Before f k j (c - low_bit c)

before : (f : Family) (k j c i : ℕ) → KInRange f k → IsNode f k i → column_of f k i ≡ c → i < j → Before f k j c
before f k j c i r n e l = let d = node_is f k r c i n e in record { first = omega (arith, d, n.first); before = omega (arith, d) }

-- the lowest bit of one bit, and of two
low_single : (i : ℕ) → i < 64 → low_bit (0 + 2 ^ i) ≡ 2 ^ i
low_single i h = rw (zero-add (2 ^ i)) (ap (λ (x : ℕ). 2 ^ x) (lowest_power 64 i h))

low_double : (i j : ℕ) → i < j → j < 64 → low_bit (2 ^ i + 2 ^ j) ≡ 2 ^ i
low_double i j h g = ap (λ (x : ℕ). 2 ^ x) (lowest_sum 64 i j h (omega arith))

pair_sources : (k j a b : ℕ) → KInRange WeightTwo k → a < b → b ≤ k → j ≡ suc (place_of k a b)
    → (unit a + unit b - low_bit (unit a + unit b) ≡ 0 → ⊥) → Sources WeightTwo k j (unit a + unit b)
pair_sources k j zero zero r o w p n = absurd (omega arith)
pair_sources k j zero (suc b) r o w p n = absurd (n (rw (low_single b (omega (arith, r.most))) (omega arith)))
pair_sources k j (suc a) zero r o w p n = absurd (omega arith)
pair_sources zero j (suc a) (suc b) r o w p n = absurd (omega arith)
pair_sources (suc m) j (suc a) (suc b) r o w p n =
    let t = low_double a b (omega arith) (omega (arith, r.most)) in
    let d : 2 ^ a + 2 ^ b - 2 ^ a ≡ 2 ^ b = omega arith in
    record { low = rw t (data_before a (omega arith)); rest = rw (t, d) (data_before b (omega arith)) }
  where
    -- each data block's node comes before that of a pair
    data_before : (i : ℕ) → i ≤ b → Before WeightTwo (suc m) j (2 ^ i)
    data_before i h =
        before WeightTwo (suc m) j (2 ^ i) (suc i) r (record { first = omega arith; last = omega (arith, pair_count (suc m)) })
        (data_column (suc m) (suc i) (omega arith) (omega arith) ∙ ap (λ (x : ℕ). 2 ^ x) (omega arith)) (omega arith)

pub sources : (f : Family) (k j : ℕ) → KInRange f k → IsNode f k j → (column_of f k j - low_bit (column_of f k j) ≡ 0 → ⊥) → Sources f k j (column_of f k j)
unfolding column_of node_count node_of
sources Simplex k j r n h =
    let l : low_bit j < j = omega arith in
    record {
      low = before Simplex k j (low_bit j) (low_bit j) r (record { first = pow_pos (count_trailing_zeros 64 j); last = omega (arith, n.last) }) refl l;
      rest = before Simplex k j (j - low_bit j) (j - low_bit j) r (record { first = omega arith; last = omega (arith, n.last) }) refl (omega (arith, pow_pos (count_trailing_zeros 64 j)));
    }
sources WeightTwo k j r n h =
    let p : PairOf k j = pair_of k j n.first n.last in
    subst (λ (c : ℕ). (c - low_bit c ≡ 0 → ⊥) → Sources WeightTwo k j c) (sym p.column) (pair_sources k j p.smaller p.larger r p.order p.within p.node) h
sources Tetrahedron k j r n h =
    let s = tetra.sources j n.first n.last h in
    record {
      low = record { first = s.low.first; before = s.low.before };
      rest = record { first = s.rest.first; before = s.rest.before };
    }

-- ---- the node of a column, as the code finds it

-- every column is below 2^k and above 0
pub above_none : (f : Family) (k c : ℕ) → KInRange f k → 2 ^ k ≤ c → node_of f k c ≡ 0
above_none f k c r h = node_none f k r c (λ j n e. omega (arith, e, (column f k j r n).below))

pub zero_none : (f : Family) (k : ℕ) → KInRange f k → node_of f k 0 ≡ 0
zero_none f k r = node_none f k r 0 (λ j n e. omega (arith, e, (column f k j r n).positive))

pub simplex_below : (k c : ℕ) → KInRange Simplex k → c < 2 ^ k → node_of Simplex k c ≡ c
unfolding column_of node_count
simplex_below k zero r h = zero_none Simplex k r
simplex_below k (suc c) r h = node_is Simplex k r (suc c) (suc c) (record { first = omega arith; last = omega arith }) refl

less_one : (x : ℕ) → 2 ^ (x + 1 - 1) ≡ 2 ^ x
less_one x = ap (λ (y : ℕ). 2 ^ y) (omega arith)

factor_le : (a b : ℕ) → (a * b ≡ 0 → ⊥) → b ≤ a * b
factor_le zero b n = absurd (n (zero-mul b))
factor_le (suc a) b n = omega (arith, suc-mul a b)

-- a column of two bits is a pair's
pub record TwoBits (k c : ℕ) : Type 0 where
  pub order : count_trailing_zeros 64 c < count_trailing_zeros 64 (c - low_bit c)
  pub node : node_of WeightTwo k c ≡ pair_node k (count_trailing_zeros 64 c + 1) (count_trailing_zeros 64 (c - low_bit c) + 1)

-- weight-two, a column c above 0 and below 2^k
module _ (k c : ℕ) (r : KInRange WeightTwo k) (positive : 0 < c) (small : c < 2 ^ k) where
  wide : 2 ^ k ≤ 2 ^ 64
  wide = pow_mono {j = 64} (omega (arith, r.most))

  low : Lowest 64 c
  low = lowest 64 c positive (omega (arith, wide))

  pub low_within : count_trailing_zeros 64 c < k
  low_within = low.within k small

  pub low_le : low_bit c ≤ c
  low_le = omega (arith, low.split)

  -- one bit: a data block
  pub one_bit : c - low_bit c ≡ 0 → node_of WeightTwo k c ≡ count_trailing_zeros 64 c + 1
  one_bit e =
      node_is WeightTwo k r c (count_trailing_zeros 64 c + 1) (record { first = omega arith; last = omega (arith, low_within, pair_count k, pairs_le k) })
      (data_column k (count_trailing_zeros 64 c + 1) (omega arith) (omega (arith, low_within)) ∙ less_one (count_trailing_zeros 64 c) ∙ omega (arith, low_le))

  module _ (more : c - low_bit c ≡ 0 → ⊥) where
    high : Lowest 64 (c - low_bit c)
    high = lowest 64 (c - low_bit c) (omega arith) (omega (arith, wide))

    pub high_within : count_trailing_zeros 64 (c - low_bit c) < k
    high_within = high.within k (omega arith)

    pub high_le : low_bit (c - low_bit c) ≤ c - low_bit c
    high_le = omega (arith, high.split)

    pub two_bits : c - low_bit c ≡ low_bit (c - low_bit c) → TwoBits k c
    two_bits e = record { order = order; node = node_is WeightTwo k r c (pair_node k (t + 1) (u + 1)) (record { first = is.0; last = is.1 }) (pair_column k (t + 1) (u + 1) (omega arith) (omega (arith, order)) (omega (arith, high_within)) ∙ sum) }
      where
        t : ℕ
        t = count_trailing_zeros 64 c

        u : ℕ
        u = count_trailing_zeros 64 (c - low_bit c)

        rest : c - low_bit c ≡ low.above * 2 ^ suc t
        rest = omega (arith, low.split)

        order : t < u
        order = pow_below t u (omega (arith, rest, e, factor_le low.above (2 ^ suc t) (λ z. more (rest ∙ z)), pow-lt {i = t} {j = suc t} (omega arith)))

        is : (1 ≤ pair_node k (t + 1) (u + 1)) × (pair_node k (t + 1) (u + 1) ≤ node_count WeightTwo k)
        is = pair_is_node k (t + 1) (u + 1) (omega arith) (omega (arith, order)) (omega (arith, high_within))

        sum : 2 ^ (t + 1 - 1) + 2 ^ (u + 1 - 1) ≡ c
        sum = omega (arith, less_one t, less_one u, e, low_le)

    -- more than two bits: no node
    pub more_bits : (c - low_bit c ≡ low_bit (c - low_bit c) → ⊥) → node_of WeightTwo k c ≡ 0
    more_bits n = node_none WeightTwo k r c (λ j i e. let p = pair_of k j i.first i.last in shut p.smaller p.larger p.order (omega (arith, p.within, r.most)) (sym e ∙ p.column))
      where
        shut : (a b : ℕ) → a < b → b ≤ 22 → c ≡ unit a + unit b → ⊥
        shut a zero o w e = omega arith
        shut zero (suc b) o w e = more (rw e (rw (low_single b (omega arith)) (omega arith)))
        shut (suc a) (suc b) o w e =
            let l : low_bit c ≡ 2 ^ a = ap low_bit e ∙ low_double a b (omega arith) (omega arith) in
            let d : c - low_bit c ≡ 2 ^ b = omega (arith, l, e) in
            n (d ∙ sym (ap low_bit d ∙ ap (λ (x : ℕ). 2 ^ x) (lowest_power 64 b (omega arith))))

-- ---- the nodes of data blocks

-- every data block has a node of its own
pub unit_node : (f : Family) (k i : ℕ) → KInRange f k → i < k → 1 ≤ node_of f k (2 ^ i)
unfolding column_of node_count node_of
unit_node Simplex k i r h =
    omega (arith, node_is Simplex k r (2 ^ i) (2 ^ i) (record { first = pow_pos i; last = omega (arith, pow-lt h) }) refl, pow_pos i)
unit_node WeightTwo k i r h =
    omega (
      arith,
      node_is WeightTwo k r (2 ^ i) (suc i) (record { first = omega arith; last = omega (arith, pair_count k, pairs_le k) })
          (data_column k (suc i) (omega arith) h ∙ ap (λ (x : ℕ). 2 ^ x) (omega arith)),
    )
unit_node Tetrahedron k i r h = tetra.data_node_lem i (omega (arith, r.most))
