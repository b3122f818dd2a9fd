-- How many related pairs of a node are both of a kind, as live or missing: by sums over the nodes; by the pairs within a list; and the
-- pairs of live nodes by those of missing ones.
-- Assumes nothing.
use mathlib.Core.Path.{◌≡◌, refl, sym, ap, ap₂, ◌∙◌}
use mathlib.Core.Bool.{Bool, true, false, cond, not, ◌&&◌}
use mathlib.Core.List.{List, [], ◌∷◌, ◌++◌, map, map-map, map-append, flat_map}
use mathlib.Core.Logic.{◌⊎◌, inl, inr}
use Prim.Native.Nat.{ℕ, zero, suc, ◌+◌, ◌-◌, ◌*◌, ◌≤◌, ◌<◌}
use native.Mathlib.Decide.{dec_lt}
use native.Mathlib.Nat.{eq-zero-or-pos, zero-add}
use native.Mathlib.Omega.{arith}
use borrow.Author.Tests.{eq-eqb, eqb-true, lt-ltb, le-ltb}
use lib.Bits.{bit_xor}
use lib.Dec.{eqb, ltb}
use lib.ListN.{length, length-append, length-replicate, get_or-replicate}
use Rattle.base.specs.Ranges.{those_from}
use Rattle.base.proofs.Sums.{sum_from, count_sum, sum_same, sum_most, sum_add, sum_none, sum_only, sum_turn}
use Rattle.base.proofs.Tests.{same_answer}
use Rattle.families.specs.declared.Family.{Family}
use Rattle.families.specs.declared.Family.TheVariants.{Simplex}
use Rattle.families.specs.Families.{KInRange, IsNode, node_count, column_of, are_related}
use Rattle.families.proofs.Laws.{few, node_of_lem, related_differ, related_turn, related_swap}
use Rattle.lists.specs.Lists.{missing_nodes, is_live, live_nodes}
use Rattle.counts.specs.Counts.{no_counts, count_of, count_all, sum_of}
use Rattle.lists.proofs.Laws.{those_few}
use Rattle.counts.proofs.Laws.{count_times}
use Rattle.pairing.specs.Pairs.{related_above, pair_count, most_pairs}
use Rattle.families.specs.Inner.{third_node}
use Rattle.pairing.specs.Inner.{thirds, with_third, live_partner, live_ends}
use Rattle.pairing.proofs.MostLaws.{thirds_count, all_one}
use Rattle.pairing.proofs.Thirds.{counted}
use Rattle.pairing.proofs.PairLaws.{related_partner, partner_related}

-- ---- sums over a list

-- over the numbers of a range that pass
pub sum_those : (g : ℕ → ℕ) (test : ℕ → Bool) (j m : ℕ) → sum_of (map g (those_from test j m)) ≡ sum_from (λ a. cond (test a) (g a) 0) j m
unfolding sum_of those_from sum_from
sum_those g test j zero = refl
sum_those g test j (suc m) = go (test j) (those_from test (suc j) m) (sum_those g test (suc j) m)
  where
    go : (b : Bool) (later : List ℕ) {s : ℕ} → sum_of (map g later) ≡ s → sum_of (map g (cond b (j ∷ later) later)) ≡ cond b (g j) 0 + s
    go true later e = ap (λ (x : ℕ). g j + x) e
    go false later e = omega (arith, e)

-- the length of lists one after the other
flat_length : (g : ℕ → List ℕ) (list : List ℕ) → length (flat_map g list) ≡ sum_of (map (λ a. length (g a)) list)
unfolding flat_map sum_of
flat_length g [] = refl
flat_length g (a ∷ list) = length-append (g a) (flat_map g list) ∙ ap (λ (x : ℕ). length (g a) + x) (flat_length g list)

sum_append : (s t : List ℕ) → sum_of (s ++ t) ≡ sum_of s + sum_of t
unfolding sum_of
sum_append [] t = omega arith
sum_append (x ∷ s) t = omega (arith, sum_append s t)

-- two tests one after the other, in either order
swap : (x y : Bool) (m : ℕ) → cond x (cond y m 0) 0 ≡ cond y (cond x m 0) 0
swap true y m = refl
swap false true m = refl
swap false false m = refl

both_tests : (x y : Bool) → ◌≡◌ {A = ℕ} (cond (x && y) 1 0) (cond x (cond y 1 0) 0)
both_tests true y = refl
both_tests false y = refl

-- ---- the pairs of node j of which both are of a kind

module _ (f : Family) (k : ℕ) (r : KInRange f k) (j : ℕ) (nj : IsNode f k j) where
  abbrev n : ℕ
  n = node_count f k

  -- the third node of j and another
  abbrev pub turn : ℕ → ℕ
  turn a = third_node f k j a

  within : (a : ℕ) → turn a ≤ n
  within a = go (eq-zero-or-pos (turn a))
    where
      go : (turn a ≡ 0) ⊎ (0 < turn a) → turn a ≤ n
      go (inl e) = omega arith
      go (inr h) = (node_of_lem f k r (bit_xor (column_of f k j) (column_of f k a)) h).is_node.last

  -- a and b are related to j exactly where b is the third node
  related_third : (a b : ℕ) → IsNode f k b → are_related f k a b j ≡ eqb b (turn a)
  related_third a b nb =
      same_answer (are_related f k a b j) (eqb b (turn a))
      (λ h. eq-eqb b (turn a) (sym (related_partner f k r [] j a b nb h)))
      (λ h. let e = eqb-true b (turn a) h in rw e (partner_related f k r [] j a (omega (arith, e, nb.first))))

  -- the third node of j and the third node is the first again
  back : (a : ℕ) → 1 ≤ a → a ≤ n → 1 ≤ turn a → turn (turn a) ≡ a
  back a l u h = related_partner f k r [] j (turn a) a (record { first = l; last = u }) (related_swap f k a (turn a) j (partner_related f k r [] j a h))

  not_same : (a : ℕ) → 1 ≤ turn a → a ≡ turn a → ⊥
  not_same a h = related_differ f k r a (turn a) j nj (partner_related f k r [] j a h)

  module _ (kind : ℕ → Bool) where
    -- those above a that are related to a and j: the third node, where it is above
    abbrev above : ℕ → List ℕ
    above a = related_above f k kind j a

    -- how many pairs
    unfoldable pub pairs_by : ℕ
    pairs_by = length (flat_map above (those_from kind 1 n))

    -- 1 where a and the third node are both of the kind
    abbrev pub both : ℕ → ℕ
    both a = cond (kind a) (cond (kind (turn a)) 1 0) 0

    one_above : (a : ℕ) → a ≤ n → length (above a) ≡ cond (ltb a (turn a)) (cond (kind (turn a)) 1 0) 0
    one_above a h =
        count_sum (λ b. kind b && are_related f k a b j) (suc a) (n - a)
        ∙ sum_same _ (λ b. cond (eqb b (turn a)) (cond (kind b) 1 0) 0) (suc a) (n - a) (λ b l u. term b (record { first = omega arith; last = omega arith }))
        ∙ go (dec_lt a (turn a))
      where
        term : (b : ℕ) → IsNode f k b → ◌≡◌ {A = ℕ} (cond (kind b && are_related f k a b j) 1 0) (cond (eqb b (turn a)) (cond (kind b) 1 0) 0)
        term b nb = rw (related_third a b nb) (both_tests (kind b) (eqb b (turn a)) ∙ swap (kind b) (eqb b (turn a)) 1)

        go : Dec (a < turn a) → sum_from (λ b. cond (eqb b (turn a)) (cond (kind b) 1 0) 0) (suc a) (n - a) ≡ cond (ltb a (turn a)) (cond (kind (turn a)) 1 0) 0
        go (yes l) = rw (lt-ltb a (turn a) l) (sum_only (λ b. cond (kind b) 1 0) (suc a) (n - a) (turn a) l (omega (arith, within a)))
        go (no l) = rw (le-ltb a (turn a) (omega arith)) (sum_none (λ b. cond (kind b) 1 0) (suc a) (n - a) (turn a) (λ g u. l g))

    -- 1 where they are, and the third node is above a
    up : ℕ → ℕ
    up a = cond (ltb a (turn a)) (both a) 0

    pairs_up : pairs_by ≡ sum_from (λ a. cond (ltb 0 (turn a)) (up a) 0) 1 n
    unfolding pairs_by up
    pairs_up =
        flat_length above (those_from kind 1 n) ∙ sum_those (λ a. length (above a)) kind 1 n
        ∙ sum_same _ _ 1 n (λ a l u. rw (one_above a (omega arith)) (go a (kind a) (eq-zero-or-pos (turn a))))
      where
        go : (a : ℕ) (x : Bool) → (turn a ≡ 0) ⊎ (0 < turn a)
            → ◌≡◌ {A = ℕ} (cond x (cond (ltb a (turn a)) (cond (kind (turn a)) 1 0) 0) 0) (cond (ltb 0 (turn a)) (cond (ltb a (turn a)) (cond x (cond (kind (turn a)) 1 0) 0) 0) 0)
        go a x (inl e) = rw (le-ltb 0 (turn a) (omega arith), le-ltb a (turn a) (omega arith)) (none x)
          where
            none : (x : Bool) → ◌≡◌ {A = ℕ} (cond x 0 0) 0
            none true = refl
            none false = refl
        go a x (inr h) = rw (lt-ltb 0 (turn a) h) (swap x (ltb a (turn a)) (cond (kind (turn a)) 1 0))

    -- a pair is seen from both its nodes
    two : (a : ℕ) → 1 ≤ a → a ≤ n → cond (ltb 0 (turn a)) (up a) 0 + cond (ltb 0 (turn a)) (up (turn a)) 0 ≡ cond (ltb 0 (turn a)) (both a) 0
    unfolding up
    two a l u = go (eq-zero-or-pos (turn a))
      where
        go : (turn a ≡ 0) ⊎ (0 < turn a) → cond (ltb 0 (turn a)) (up a) 0 + cond (ltb 0 (turn a)) (up (turn a)) 0 ≡ cond (ltb 0 (turn a)) (both a) 0
        go (inl e) = rw (le-ltb 0 (turn a) (omega arith))
        go (inr h) = rw (lt-ltb 0 (turn a) h, back a l u h) (side (dec_lt a (turn a)))
          where
            side : Dec (a < turn a) → cond (ltb a (turn a)) (both a) 0 + cond (ltb (turn a) a) (cond (kind (turn a)) (cond (kind a) 1 0) 0) 0 ≡ both a
            side (yes g) = rw (lt-ltb a (turn a) g, le-ltb (turn a) a (omega arith)) (omega arith)
            side (no g) = rw (le-ltb a (turn a) (omega arith), lt-ltb (turn a) a (omega (arith, not_same a h))) (omega (arith, swap (kind (turn a)) (kind a) 1))

    pub pairs_twice : 2 * pairs_by ≡ sum_from (λ a. cond (ltb 0 (turn a)) (both a) 0) 1 n
    pairs_twice =
        let other = sum_turn n turn (λ a l u. within a) back up in
        let sum = sum_add (λ a. cond (ltb 0 (turn a)) (up a) 0) (λ a. cond (ltb 0 (turn a)) (up (turn a)) 0) 1 n in
        let all = sum_same _ (λ a. cond (ltb 0 (turn a)) (both a) 0) 1 n (λ a l u. two a l (omega arith)) in
        omega (arith, pairs_up, other, sum, all)

  -- ---- at most as many as where every node is of the kind

  all_seen : sum_from (λ a. cond (ltb 0 (turn a)) 1 0) 1 n ≡ 2 * most_pairs f k
  all_seen = sym (count_sum (λ a. ltb 0 (turn a)) 1 n) ∙ thirds_count f k r j nj

  pub pairs_most : (kind : ℕ → Bool) → pairs_by kind ≤ most_pairs f k
  pairs_most kind =
      let most = sum_most (λ a. cond (ltb 0 (turn a)) (both kind a) 0) (λ a. cond (ltb 0 (turn a)) 1 0) 1 n (λ a l u. one (ltb 0 (turn a)) (kind a) (kind (turn a))) in
      omega (arith, pairs_twice kind, all_seen, most)
    where
      one : (t x y : Bool) → cond t (cond x (cond y 1 0) 0) 0 ≤ cond t 1 0
      one true true true = omega arith
      one true true false = omega arith
      one true false y = omega arith
      one false x y = omega arith

  pub pairs_all : (kind : ℕ → Bool) → ((a : ℕ) → IsNode f k a → kind a ≡ true) → pairs_by kind ≡ most_pairs f k
  pairs_all kind every =
      let same = sum_same (λ a. cond (ltb 0 (turn a)) (both kind a) 0) (λ a. cond (ltb 0 (turn a)) 1 0) 1 n (λ a l u. one a l (omega arith) (eq-zero-or-pos (turn a))) in
      omega (arith, pairs_twice kind, all_seen, same)
    where
      one : (a : ℕ) → 1 ≤ a → a ≤ n → (turn a ≡ 0) ⊎ (0 < turn a) → cond (ltb 0 (turn a)) (both kind a) 0 ≡ cond (ltb 0 (turn a)) 1 0
      one a l u (inl e) = rw (le-ltb 0 (turn a) (omega arith))
      one a l u (inr h) = rw (every a (record { first = l; last = u }), every (turn a) (record { first = h; last = within a }))

  -- ---- by the pairs within a list

  third_related : (a b : ℕ) → IsNode f k a → IsNode f k b → are_related f k a b j ≡ eqb (third_node f k a b) j
  third_related a b na nb =
      same_answer (are_related f k a b j) (eqb (third_node f k a b) j)
      (λ h. eq-eqb (third_node f k a b) j (related_partner f k r [] a b j nj (related_turn f k a b j h)))
      (λ h.
      let e = eqb-true (third_node f k a b) j h in
      let t = rw e at (partner_related f k r [] a b (omega (arith, e, nj.first))) in
      related_turn f k j a b (related_turn f k b j a t))

  module _ (kind : ℕ → Bool) where
    -- how often j is related to two numbers of a range that are of the kind; the range ends before `end`
    often : (end i m : ℕ) → end ≡ i + m → end ≤ suc n → 1 ≤ i
        → sum_of (map (λ x. cond (eqb x j) 1 0) (thirds f k (those_from kind i m)))
        ≡ sum_from (λ a. cond (kind a) (length (those_from (λ b. kind b && are_related f k a b j) (suc a) (end - suc a))) 0) i m
    unfolding those_from thirds sum_of sum_from
    often end i zero e h l = refl
    often end i (suc m) e h l = go (kind i) (often end (suc i) m (omega arith) h (omega arith))
      where
        later : List ℕ
        later = those_from kind (suc i) m

        term : (b : ℕ) → suc i ≤ b → b < suc i + m → ◌≡◌ {A = ℕ} (cond (kind b) (cond (eqb (third_node f k i b) j) 1 0) 0) (cond (kind b && are_related f k i b j) 1 0)
        term b u v = rw (third_related i b (record { first = l; last = omega arith }) (record { first = omega arith; last = omega arith })) (sym (both_tests (kind b) (eqb (third_node f k i b) j)))

        here : sum_of (map (λ x. cond (eqb x j) 1 0) (map (third_node f k i) (those_from kind (suc i) m))) ≡ length (those_from (λ b. kind b && are_related f k i b j) (suc i) (end - suc i))
        here =
            let t : end - suc i ≡ m = omega arith in
            ap sum_of (map-map (λ x. cond (eqb x j) 1 0) (third_node f k i) (those_from kind (suc i) m))
            ∙ sum_those (λ b. cond (eqb (third_node f k i b) j) 1 0) kind (suc i) m
            ∙ sum_same _ _ (suc i) m term
            ∙ sym (count_sum (λ b. kind b && are_related f k i b j) (suc i) m)
            ∙ ap (λ (x : ℕ). length (those_from (λ b. kind b && are_related f k i b j) (suc i) x)) (sym t)

        go : (x : Bool) {s : ℕ} → sum_of (map (λ x. cond (eqb x j) 1 0) (thirds f k (those_from kind (suc i) m))) ≡ s
            → sum_of (map (λ x. cond (eqb x j) 1 0) (thirds f k (cond x (i ∷ those_from kind (suc i) m) (those_from kind (suc i) m))))
            ≡ cond x (length (those_from (λ b. kind b && are_related f k i b j) (suc i) (end - suc i))) 0 + s
        go true q =
            ap sum_of (map-append (λ x. cond (eqb x j) 1 0) (map (third_node f k i) (those_from kind (suc i) m)) (thirds f k (those_from kind (suc i) m)))
            ∙ sum_append (map (λ x. cond (eqb x j) 1 0) (map (third_node f k i) (those_from kind (suc i) m))) (map (λ x. cond (eqb x j) 1 0) (thirds f k (those_from kind (suc i) m)))
            ∙ ap₂ ◌+◌ here q
        go false q = omega (arith, q)

    pub within_pairs : count_of (count_all no_counts (thirds f k (those_from kind 1 n))) j ≡ pairs_by kind
    unfolding pairs_by
    within_pairs =
        let few256 : j < 256 = omega (arith, nj.last, few f k r) in
        count_times no_counts (thirds f k (those_from kind 1 n)) j (rw (length-replicate {A = ℕ} 256 0) few256)
        ∙ ap₂ ◌+◌ (get_or-replicate 256 j 0 0 few256) (often (suc n) 1 n (omega arith) (omega arith) (omega arith))
        ∙ zero-add _
        ∙ sum_same _ _ 1 n (λ a l u. ap (λ (x : ℕ). cond (kind a) (length (those_from (λ b. kind b && are_related f k a b j) (suc a) x)) 0) (omega arith))
        ∙ sym (flat_length (above kind) (those_from kind 1 n) ∙ sum_those (λ a. length (above kind a)) kind 1 n)

  -- ---- the pairs of live nodes, by those of missing ones

  module _ (live : ℕ → Bool) where
    abbrev missing : ℕ → Bool
    missing a = not (live a)

    -- how many missing nodes have a third node with j
    abbrev pub missing_thirds : ℕ
    missing_thirds = sum_from (λ a. cond (ltb 0 (turn a)) (cond (missing a) 1 0) 0) 1 n

    missing_seen : with_third f k (those_from missing 1 n) j ≡ missing_thirds
    missing_seen = sum_those (λ a. cond (ltb 0 (turn a)) 1 0) missing 1 n ∙ sum_same _ _ 1 n (λ a l u. swap (missing a) (ltb 0 (turn a)) 1)

    -- each third node is missing once, either way, and where both are missing once more
    pub live_by_missing : pairs_by live + with_third f k (those_from missing 1 n) j ≡ most_pairs f k + pairs_by missing
    live_by_missing =
        let turned = sum_turn n turn (λ a l u. within a) back (λ a. cond (missing a) 1 0) in
        let left =
        sum_add (λ a. cond (ltb 0 (turn a)) (both live a) 0) (λ a. cond (ltb 0 (turn a)) (cond (missing a) 1 0) 0 + cond (ltb 0 (turn a)) (cond (missing (turn a)) 1 0) 0) 1 n in
        let two = sum_add (λ a. cond (ltb 0 (turn a)) (cond (missing a) 1 0) 0) (λ a. cond (ltb 0 (turn a)) (cond (missing (turn a)) 1 0) 0) 1 n in
        let right = sum_add (λ a. cond (ltb 0 (turn a)) 1 0) (λ a. cond (ltb 0 (turn a)) (both missing a) 0) 1 n in
        let same = sum_same (λ a. cond (ltb 0 (turn a)) (both live a) 0 + (cond (ltb 0 (turn a)) (cond (missing a) 1 0) 0 + cond (ltb 0 (turn a)) (cond (missing (turn a)) 1 0) 0))
        (λ a. cond (ltb 0 (turn a)) 1 0 + cond (ltb 0 (turn a)) (both missing a) 0) 1 n (λ a l u. each (ltb 0 (turn a)) (live a) (live (turn a))) in
        omega (arith, turned, all_seen, left, two, right, same, missing_seen, pairs_twice live, pairs_twice missing)
      where
        each : (t x y : Bool)
            → ◌≡◌ {A = ℕ} (cond t (cond x (cond y 1 0) 0) 0 + (cond t (cond (not x) 1 0) 0 + cond t (cond (not y) 1 0) 0)) (cond t 1 0 + cond t (cond (not x) (cond (not y) 1 0) 0) 0)
        each true true true = refl
        each true true false = refl
        each true false true = refl
        each true false false = refl
        each false x y = refl

-- in simplex all missing nodes but j itself have a third node with it
pub simplex_missing : (k : ℕ) (r : KInRange Simplex k) (j : ℕ) → IsNode Simplex k j → (missing : ℕ → Bool)
    → with_third Simplex k (those_from missing 1 (node_count Simplex k)) j + cond (missing j) 1 0 ≡ length (those_from missing 1 (node_count Simplex k))
unfolding counted
simplex_missing k r j nj missing =
    let n = node_count Simplex k in
    let seen = sum_those (λ a. cond (ltb 0 (third_node Simplex k j a)) 1 0) missing 1 n in
    let own = sum_only (λ a. cond (missing a) 1 0) 1 n j nj.first (omega (arith, nj.last)) in
    let both = sum_add (λ a. cond (missing a) (cond (ltb 0 (third_node Simplex k j a)) 1 0) 0) (λ a. cond (eqb a j) (cond (missing a) 1 0) 0) 1 n in
    let same = sum_same (λ a. cond (missing a) (cond (ltb 0 (third_node Simplex k j a)) 1 0) 0 + cond (eqb a j) (cond (missing a) 1 0) 0) (λ a. cond (missing a) 1 0) 1 n
    (λ a l u. each (missing a) (ltb 0 (third_node Simplex k j a)) (eqb a j) (all_one k r j nj a (record { first = l; last = omega arith }))) in
    omega (arith, seen, own, both, same, count_sum missing 1 n)
  where
    each : (x y z : Bool) → cond y 1 0 + cond z 1 0 ≡ 1 → ◌≡◌ {A = ℕ} (cond x (cond y 1 0) 0 + cond z (cond x 1 0) 0) (cond x 1 0)
    each true y z e = e
    each false y true e = refl
    each false y false e = refl

-- the count as a sum over the smaller nodes
pub count_sums : (f : Family) (k : ℕ) (marks : List Bool) (j : ℕ)
    → pair_count f k marks j ≡ sum_from (λ a. cond (is_live marks a) (length (related_above f k (is_live marks) j a)) 0) 1 (node_count f k)
unfolding pair_count
count_sums f k marks j =
    flat_length (related_above f k (is_live marks) j) (live_nodes marks (node_count f k))
    ∙ sum_those (λ a. length (related_above f k (is_live marks) j a)) (is_live marks) 1 (node_count f k)

-- the count of the definition
pub count_is : (f : Family) (k : ℕ) (r : KInRange f k) (marks : List Bool) (j : ℕ) (nj : IsNode f k j) → pair_count f k marks j ≡ pairs_by f k r j nj (is_live marks)
unfolding pair_count pairs_by
count_is f k r marks j nj = refl

-- the live nodes that have a live third node with j are twice as many
pub ends_twice : (f : Family) (k : ℕ) (r : KInRange f k) (marks : List Bool) (j : ℕ) → IsNode f k j → live_ends f k marks (live_nodes marks (node_count f k)) j ≡ 2 * pair_count f k marks j
unfolding live_partner
ends_twice f k r marks j nj =
    sum_those (λ a. cond (ltb 0 (live_partner f k marks j a)) 1 0) (is_live marks) 1 (node_count f k)
    ∙ sum_same _ _ 1 (node_count f k) (λ a l u. each (is_live marks a) (is_live marks (third_node f k j a)) (third_node f k j a))
    ∙ sym (pairs_twice f k r j nj (is_live marks))
    ∙ ap (λ (x : ℕ). 2 * x) (sym (count_is f k r marks j nj))
  where
    each : (x y : Bool) (t : ℕ) → ◌≡◌ {A = ℕ} (cond x (cond (ltb 0 (cond y t 0)) 1 0) 0) (cond (ltb 0 t) (cond x (cond y 1 0) 0) 0)
    each true true t = refl
    each true false t = none (ltb 0 t)
      where
        none : (b : Bool) → ◌≡◌ {A = ℕ} 0 (cond b 0 0)
        none true = refl
        none false = refl
    each false y t = none (ltb 0 t)
      where
        none : (b : Bool) → ◌≡◌ {A = ℕ} 0 (cond b 0 0)
        none true = refl
        none false = refl

-- ---- a node's count, by the table of pairs within the live nodes or the missing ones

module _ (f : Family) (k : ℕ) (r : KInRange f k) (marks : List Bool) (j : ℕ) (nj : IsNode f k j) where
  -- the table's count of j, of the nodes that are of a kind
  abbrev tabled : (ℕ → Bool) → ℕ
  tabled kind = count_of (count_all no_counts (thirds f k (those_from kind 1 (node_count f k)))) j

  pub by_live : tabled (is_live marks) ≡ pair_count f k marks j
  by_live = within_pairs f k r j nj (is_live marks) ∙ sym (count_is f k r marks j nj)

  pub by_missing : pair_count f k marks j + with_third f k (missing_nodes marks (node_count f k)) j ≡ most_pairs f k + tabled (λ i. not (is_live marks i))
  by_missing =
      ap (λ (x : ℕ). x + with_third f k (missing_nodes marks (node_count f k)) j) (count_is f k r marks j nj)
      ∙ live_by_missing f k r j nj (is_live marks)
      ∙ ap (λ (x : ℕ). most_pairs f k + x) (sym (within_pairs f k r j nj (λ i. not (is_live marks i))))

  pub tabled_few : (kind : ℕ → Bool) → tabled kind ≤ most_pairs f k
  tabled_few kind = omega (arith, within_pairs f k r j nj kind, pairs_most f k r j nj kind)

  pub count_most : pair_count f k marks j ≤ most_pairs f k
  count_most = omega (arith, count_is f k r marks j nj, pairs_most f k r j nj (is_live marks))

  pub most_few : most_pairs f k ≤ 127
  most_few = omega (arith, few f k r, thirds_count f k r j nj, those_few (λ a. ltb 0 (third_node f k j a)) 1 (node_count f k))
