-- The pair that repairs a node: the larger node is the one with the XOR of the two columns, and the smaller is found among the
-- live nodes.
-- Assumes nothing.
use mathlib.Core.Path.{◌≡◌, refl, sym, ap, ◌∙◌}
use mathlib.Core.Bool.{Bool, true, false, cond, ◌&&◌}
use mathlib.Core.List.{List, [], ◌∷◌}
use Prim.Native.Nat.{ℕ, zero, suc, ◌+◌, ◌-◌, ◌≤◌, ◌<◌}
use mathlib.Core.Logic.{◌⊎◌, inl, inr}
use native.Mathlib.Decide.{dec_lt}
use native.Mathlib.Nat.{eq-zero-or-pos}
use native.Mathlib.Numerals.{add-one}
use native.Mathlib.Omega.{arith}
use borrow.Author.Tests.{lt-ltb, ltb-true, eqb-true, eq-eqb, ne_eqb}
use lib.Bits.{bit_xor}
use lib.Dec.{ltb}
use lib.ListN.{length, get_or, drop, drop_of_length-le}
use lib.Seq.{drop-cons}
use Rattle.base.specs.Ranges.{first_from, those_from}
use Rattle.base.proofs.Tests.{and_left, and_right, and_both, is_false}
use Rattle.base.proofs.Xor.{xor_third, xor_third_of}
use Rattle.families.specs.declared.Family.{Family}
use Rattle.families.specs.Families.{KInRange, IsNode, node_count, column_of, are_related}
use Rattle.base.proofs.First.{first_of, first_none, first_least, found}
use Rattle.families.proofs.Laws.{few, node_is, node_of_lem, related_differ, related_turn, related_swap}
use Rattle.lists.specs.Lists.{is_live, live_nodes}
use Rattle.pairing.specs.Pairs.{larger_node, smaller_node, pair_count, pairs_among, LiveNode}
use Rattle.families.specs.Inner.{third_node}
use Rattle.pairing.specs.Inner.{live_partner}

-- ---- the node related to two others

pub third_few : (f : Family) (k : ℕ) → KInRange f k → (a b : ℕ) → third_node f k a b < 256
third_few f k r a b = go (eq-zero-or-pos (third_node f k a b))
  where
    go : (third_node f k a b ≡ 0) ⊎ (0 < third_node f k a b) → third_node f k a b < 256
    go (inl e) = omega arith
    go (inr h) = omega (arith, (node_of_lem f k r (bit_xor (column_of f k a) (column_of f k b)) h).is_node.last, few f k r)

-- ---- the larger node

module _ (f : Family) (k : ℕ) (r : KInRange f k) (marks : List Bool) (j a : ℕ) where
  -- the only node that can be related to a and j
  abbrev pub partner : ℕ
  partner = third_node f k j a

  pub related_partner : (b : ℕ) → IsNode f k b → are_related f k a b j ≡ true → partner ≡ b
  unfolding are_related
  related_partner b nb h =
      let t = related_turn f k b j a (related_turn f k a b j h) in
      node_is f k r (bit_xor (column_of f k j) (column_of f k a)) b nb (xor_third (column_of f k j) (column_of f k a) (column_of f k b) (eqb-true _ 0 t))

  pub partner_related : 1 ≤ partner → are_related f k a partner j ≡ true
  unfolding are_related
  partner_related h =
      let n = node_of_lem f k r (bit_xor (column_of f k j) (column_of f k a)) h in
      related_turn f k j a partner (eq-eqb _ 0 (xor_third_of (column_of f k j) (column_of f k a) (column_of f k partner) n.has))

  test : ℕ → Bool
  test b = is_live marks b && are_related f k a b j

  -- a node above a that passes is the partner, and live
  only : a ≤ node_count f k → (b : ℕ) → suc a ≤ b → b < suc a + (node_count f k - a) → test b ≡ true → (partner ≡ b) × (is_live marks b ≡ true)
  unfolding test
  only h b l u t =
      (related_partner b (record { first = omega arith; last = omega arith }) (and_right (is_live marks b) (are_related f k a b j) t), and_left (is_live marks b) (are_related f k a b j) t)

  pub larger_is : IsNode f k a → a < partner → is_live marks partner ≡ true → larger_node f k marks j a ≡ partner
  unfolding larger_node test
  larger_is n l v =
      let p = (node_of_lem f k r (bit_xor (column_of f k j) (column_of f k a)) (omega arith)).is_node in
      first_of test (suc a) (node_count f k - a) partner l (omega (arith, p.last, n.last))
      (and_both (is_live marks partner) (are_related f k a partner j) v (partner_related (omega arith)))
      (λ b m u. is_false (test b) (λ t. below b u (only n.last b m (omega (arith, p.last, n.last)) t).0))
    where
      below : (b : ℕ) → b < partner → partner ≡ b → ⊥
      below b u e = omega arith

  -- what a larger node is, where there is one
  pub record Larger : Type 0 where
    pub above : a < larger_node f k marks j a
    pub last : larger_node f k marks j a ≤ node_count f k
    pub live : is_live marks (larger_node f k marks j a) ≡ true
    pub related : are_related f k a (larger_node f k marks j a) j ≡ true

  pub larger : 1 ≤ larger_node f k marks j a → Larger
  unfolding larger_node test
  larger h =
      let g = found test (suc a) (node_count f k - a) h in
      let b = first_from test (suc a) (node_count f k - a) in
      record {
        above = g.from;
        last = omega (arith, g.from, g.below);
        live = and_left (is_live marks b) (are_related f k a b j) g.passes;
        related = and_right (is_live marks b) (are_related f k a b j) g.passes;
      }

  -- the partner, found in the table and asked whether it is live
  pub live_is : {b : ℕ} → b ≡ partner → is_live marks b ≡ true → b ≡ live_partner f k marks j a
  unfolding live_partner
  live_is e v = rw (← e, v)

  pub live_none : {b : ℕ} → b ≡ partner → is_live marks b ≡ false → 0 ≡ live_partner f k marks j a
  unfolding live_partner
  live_none e v = rw (← e, v)

  -- what a live partner is, where there is one
  pub record Partner : Type 0 where
    pub is : live_partner f k marks j a ≡ partner
    pub live : is_live marks partner ≡ true

  pub live_partner_lem : 1 ≤ live_partner f k marks j a → Partner
  unfolding live_partner
  live_partner_lem h = go (is_live marks partner) refl h
    where
      go : (b : Bool) → is_live marks partner ≡ b → 1 ≤ cond b partner 0 → Partner
      go true e h = record { is = sym (live_is refl e); live = e }
      go false e h = absurd (omega arith)

  -- a live node related to a and j is the live partner
  pub partner_is : (b : ℕ) → IsNode f k b → is_live marks b ≡ true → are_related f k a b j ≡ true → b ≡ live_partner f k marks j a
  partner_is b nb v h = live_is (sym (related_partner b nb h)) v

-- ---- the first of a list that passes a test

unfoldable pub first_in : (ℕ → Bool) → List ℕ → ℕ
first_in test [] = 0
first_in test (x ∷ list) = cond (test x) x (first_in test list)

module _ (test : ℕ → Bool) (list : List ℕ) (i : ℕ) where
  pub first_step : i < length list → first_in test (drop i list) ≡ cond (test (get_or list i 0)) (get_or list i 0) (first_in test (drop (i + 1) list))
  unfolding first_in
  first_step h = rw (add-one, drop-cons list i 0 h)

  pub first_end : length list ≤ i → first_in test (drop i list) ≡ 0
  unfolding first_in
  first_end h = rw (drop_of_length-le list h)

-- the live numbers alone need be asked
pub first_live : (test : ℕ → Bool) (marks : List Bool) (j m : ℕ) → first_from (λ a. is_live marks a && test a) j m ≡ first_in test (those_from (is_live marks) j m)
unfolding first_from first_in those_from
first_live test marks j zero = refl
first_live test marks j (suc m) = go (is_live marks j) (first_live test marks (suc j) m)
  where
    later : ℕ
    later = first_from (λ a. is_live marks a && test a) (suc j) m

    go : (b : Bool) → later ≡ first_in test (those_from (is_live marks) (suc j) m)
        → cond (b && test j) j later ≡ first_in test (cond b (j ∷ those_from (is_live marks) (suc j) m) (those_from (is_live marks) (suc j) m))
    go true e = ap (cond (test j) j) e
    go false e = e

-- a has a larger node with which it repairs j
abbrev pub has_larger : Family → ℕ → List Bool → ℕ → ℕ → Bool
has_larger f k marks j a = ltb 0 (larger_node f k marks j a)

-- a has a live partner with which it repairs j
abbrev pub has_partner : Family → ℕ → List Bool → ℕ → ℕ → Bool
has_partner f k marks j a = ltb 0 (live_partner f k marks j a)

module _ (f : Family) (k : ℕ) (r : KInRange f k) (marks : List Bool) (j : ℕ) (nj : IsNode f k j) where
  by_larger : ℕ → Bool
  by_larger a = is_live marks a && has_larger f k marks j a

  by_partner : ℕ → Bool
  by_partner a = is_live marks a && has_partner f k marks j a

  paired : (a b : ℕ) → IsNode f k a → IsNode f k b → is_live marks a ≡ true → is_live marks b ≡ true → are_related f k a b j ≡ true → by_partner a ≡ true
  unfolding by_partner
  paired a b na nb va vb h =
      let e = partner_is f k r marks j a b nb vb h in
      and_both (is_live marks a) (has_partner f k marks j a) va (lt-ltb 0 (live_partner f k marks j a) (omega (arith, e, nb.first)))

  first : ℕ
  first = first_from by_partner 1 (node_count f k)

  -- one with a larger live node has a live partner
  sooner : (a : ℕ) → 1 ≤ a → a < 1 + node_count f k → by_larger a ≡ true → (1 ≤ first) × (first ≤ a)
  unfolding first by_larger
  sooner a l u t =
      let v = and_left (is_live marks a) (has_larger f k marks j a) t in
      let g = larger f k r marks j a (ltb-true 0 (larger_node f k marks j a) (and_right (is_live marks a) (has_larger f k marks j a) t)) in
      first_least by_partner 1 (node_count f k) a (omega arith) l u
      (paired a (larger_node f k marks j a) (record { first = l; last = omega arith }) (record { first = omega (arith, g.above); last = g.last }) v g.live g.related)

  -- the first with a live partner is below it
  below : 1 ≤ first → by_larger first ≡ true
  unfolding first by_larger by_partner
  below h =
      let g = found by_partner 1 (node_count f k) h in
      let v = and_left (is_live marks first) (has_partner f k marks j first) g.passes in
      let one = ltb-true 0 (live_partner f k marks j first) (and_right (is_live marks first) (has_partner f k marks j first) g.passes) in
      let p = live_partner_lem f k r marks j first one in
      let b = partner f k r marks j first in
      let n : IsNode f k first = record { first = h; last = omega (arith, g.below) } in
      let o : 1 ≤ b = omega (arith, p.is, one) in
      let m = (node_of_lem f k r (bit_xor (column_of f k j) (column_of f k first)) o).is_node in
      let t = partner_related f k r marks j first o in
      let s = (first_least by_partner 1 (node_count f k) b (omega arith) o (omega (arith, m.last)) (paired b first m n p.live v (related_swap f k first b j t))).1 in
      let ne : first ≡ b → ⊥ = related_differ f k r first b j nj t in
      let e = larger_is f k r marks j first n (omega (arith, s, ne)) p.live in
      and_both (is_live marks first) (has_larger f k marks j first) v (lt-ltb 0 (larger_node f k marks j first) (omega (arith, e, o)))

  -- so that the first live node with a live partner is the smaller of the pair
  smaller_is : smaller_node f k marks j ≡ first
  unfolding smaller_node by_larger first
  smaller_is = go (eq-zero-or-pos first)
    where
      go : (first ≡ 0) ⊎ (0 < first) → first_from by_larger 1 (node_count f k) ≡ first
      go (inl e) = first_none by_larger 1 (node_count f k) (λ a l u. is_false (by_larger a) (λ t. omega (arith, e, sooner a l u t))) ∙ sym e
      go (inr h) =
          let b = below h in
          first_of by_larger 1 (node_count f k) first h (omega (arith, (found by_partner 1 (node_count f k) h).below)) b
          (λ a l u. is_false (by_larger a) (λ t. omega (arith, u, sooner a l (omega (arith, u, (found by_partner 1 (node_count f k) h).below)) t)))

  pub smaller_first : smaller_node f k marks j ≡ first_in (has_partner f k marks j) (live_nodes marks (node_count f k))
  unfolding first by_partner
  smaller_first = smaller_is ∙ first_live (has_partner f k marks j) marks 1 (node_count f k)

-- ---- what a node's pair is, where it has one

module _ (f : Family) (k : ℕ) (r : KInRange f k) (marks : List Bool) (j : ℕ) where
  abbrev small : ℕ
  small = smaller_node f k marks j

  abbrev large : ℕ
  large = larger_node f k marks j small

  pub record PairOf : Type 0 where
    pub order : small < large
    pub smaller : IsNode f k small
    pub larger : IsNode f k large
    pub smaller_live : is_live marks small ≡ true
    pub larger_live : is_live marks large ≡ true
    pub related : are_related f k small large j ≡ true

  pub pair_of : 1 ≤ small → PairOf
  unfolding smaller_node
  pair_of h =
      let g = found (λ a. is_live marks a && has_larger f k marks j a) 1 (node_count f k) h in
      let l = larger f k r marks j small (ltb-true 0 large (and_right (is_live marks small) (ltb 0 large) g.passes)) in
      record {
        order = l.above;
        smaller = record { first = h; last = omega (arith, g.below) };
        larger = record { first = omega (arith, l.above); last = l.last };
        smaller_live = and_left (is_live marks small) (ltb 0 large) g.passes;
        larger_live = l.live;
        related = l.related;
      }

  -- what the search gives of it, whichever other nodes are live
  pub pairs_are : (all : List Bool) → 1 ≤ small → pairs_among f k all marks j ≡ record { smaller = small; larger = large; count = pair_count f k all j }
  unfolding pairs_among
  pairs_are all h = rw (ne_eqb small 0 (λ z. omega arith))

-- of the pair that the search gives the smaller node is this, in any case
pub among_smaller : (f : Family) (k : ℕ) (marks free : List Bool) (j : ℕ) → (pairs_among f k marks free j).smaller ≡ smaller_node f k free j
unfolding pairs_among
among_smaller f k marks free j = go (eq-zero-or-pos (smaller_node f k free j))
  where
    go : (smaller_node f k free j ≡ 0) ⊎ (0 < smaller_node f k free j) → (pairs_among f k marks free j).smaller ≡ smaller_node f k free j
    go (inl e) = rw e
    go (inr h) = rw (ne_eqb (smaller_node f k free j) 0 (λ z. omega arith))

-- ---- two live nodes related to a node give it a pair

module _ (f : Family) (k : ℕ) (marks : List Bool) (j : ℕ) where
  -- of which the smaller node is not above theirs
  pub smaller_least : (a b : ℕ) → LiveNode f k marks a → LiveNode f k marks b → a < b → are_related f k a b j ≡ true
      → (1 ≤ smaller_node f k marks j) × (smaller_node f k marks j ≤ a)
  unfolding smaller_node larger_node
  smaller_least a b la lb l h =
      let above : 1 ≤ larger_node f k marks j a =
      (first_least (λ x. is_live marks x && are_related f k a x j) (suc a) (node_count f k - a) b (omega arith) l (omega (arith, lb.node.last)) (and_both (is_live marks b) (are_related f k a b j) lb.live h)).0 in
      first_least (λ x. is_live marks x && has_larger f k marks j x) 1 (node_count f k) a (omega arith) la.node.first (omega (arith, la.node.last))
      (and_both (is_live marks a) (has_larger f k marks j a) la.live (lt-ltb 0 (larger_node f k marks j a) above))

  -- in either order
  pub smaller_some : KInRange f k → IsNode f k j → (a b : ℕ) → LiveNode f k marks a → LiveNode f k marks b → are_related f k a b j ≡ true → 1 ≤ smaller_node f k marks j
  smaller_some r n a b la lb h = go (dec_lt a b) (dec_lt b a)
    where
      go : Dec (a < b) → Dec (b < a) → 1 ≤ smaller_node f k marks j
      go (yes l) d = (smaller_least a b la lb l h).0
      go (no c) (yes l) = (smaller_least b a lb la l (related_swap f k a b j h)).0
      go (no c) (no d) = absurd (related_differ f k r a b j n h (omega arith))

-- ---- the next number that passes a test, of those from j to n

module _ (test : ℕ → Bool) (n j : ℕ) where
  left : j ≤ n → n + 1 - j ≡ suc (n + 1 - (j + 1))
  left h = omega arith

  pub next_skip : j ≤ n → test j ≡ false → first_from test j (n + 1 - j) ≡ first_from test (j + 1) (n + 1 - (j + 1))
  unfolding first_from
  next_skip h e = ap (first_from test j) (left h) ∙ rw (add-one j, e)

  pub next_is : j ≤ n → test j ≡ true → first_from test j (n + 1 - j) ≡ j
  unfolding first_from
  next_is h e = ap (first_from test j) (left h) ∙ rw e

  pub next_end : n < j → first_from test j (n + 1 - j) ≡ 0
  unfolding first_from
  next_end h =
      let e : n + 1 - j ≡ 0 = omega arith in
      ap (first_from test j) e
