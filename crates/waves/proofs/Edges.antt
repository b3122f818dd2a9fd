-- Weight-two: a node joins two of the numbers 0 to k, and a sum that is the node of a and b has a walk from a to b in it. The walk's nodes
-- are taken out one by one at its beginning, so that the sum can be cut anywhere.
-- Assumes nothing.
use mathlib.Core.Path.{◌≡◌, refl, sym, ap, ap₂, ◌∙◌}
use mathlib.Core.Bool.{Bool}
use mathlib.Core.List.{List, [], ◌∷◌}
use Prim.Native.Nat.{ℕ, zero, suc, ◌+◌, ◌≤◌}
use native.Mathlib.Decide.{ℕ_discrete}
use native.Mathlib.Omega.{arith}
use lib.Bits.{bit_xor, xor_comm, xor_self}
use lib.ListN.{length}
use Rattle.base.specs.Numbers.{Each, xor_of}
use Rattle.base.proofs.EachLaws.{each_cons, each_first, each_rest}
use Rattle.base.proofs.Xor.{xor_cancel, xor_left_comm}
use Rattle.families.specs.declared.Family.TheVariants.{WeightTwo}
use Rattle.families.specs.Families.{KInRange, column_of}
use Rattle.families.specs.Inner.{unit}
use Rattle.families.proofs.EdgeLaws.{both, both_through, joined, smaller_within, column_both}
use Rattle.families.proofs.PairLaws.{PairOf, pair_of}
use Rattle.encoding.proofs.EndLaws.{ends, ends_xor, ends_both, ends_none, ends_no, Has, has, other_end}
use Rattle.pairing.specs.Pairs.{LiveNode}
use Rattle.waves.specs.Waves.{SumOf}
use Rattle.waves.proofs.Sums.{sum_more, sum_is, sum_none, sum_one, sum_join}
use Rattle.waves.proofs.Halves.{Halving}

module _ (k : ℕ) (marks : List Bool) where
  abbrev Live : ℕ → Type 0
  Live = LiveNode WeightTwo k marks

  abbrev col : ℕ → ℕ
  col = column_of WeightTwo k

  -- ---- the nodes at a number

  -- a list without one of its nodes, which joins a to another number
  record Out (a : ℕ) (list : List ℕ) : Type 0 where
    node : ℕ
    live : Live node
    end : ℕ
    within : end ≤ k
    joins : col node ≡ both a end
    rest : List ℕ
    size : suc (length rest) ≡ length list
    each : Each Live rest
    sum : xor_of col list ≡ bit_xor (col node) (xor_of col rest)

  take_out : (a : ℕ) (list : List ℕ) → Each Live list → ends k a (xor_of col list) ≡ 1 → Out a list
  take_out a [] l h = absurd (omega (arith, ends_none k a))
  take_out a (x ∷ list) l h = go (has p a) (λ g. take_out a list (each_rest Live x list l) g)
    where
      live : Live x
      live = each_first Live x list l

      p : PairOf k x
      p = pair_of k x (each_first Live x list l).node.first (each_first Live x list l).node.last

      first : (end : ℕ) → end ≤ k → col x ≡ both a end → Out a (x ∷ list)
      first end w e = record { node = x; live = live; end = end; within = w; joins = e; rest = list; size = refl; each = each_rest Live x list l; sum = refl }

      next : Out a list → Out a (x ∷ list)
      next o =
          record {
            node = o.node;
            live = o.live;
            end = o.end;
            within = o.within;
            joins = o.joins;
            rest = x ∷ o.rest;
            size = ap suc o.size;
            each = each_cons Live x o.rest live o.each;
            sum = ap (bit_xor (col x)) o.sum ∙ xor_left_comm (col x) (col o.node) (xor_of col o.rest);
          }

      go : Dec (Has p a) → (ends k a (xor_of col list) ≡ 1 → Out a list) → Out a (x ∷ list)
      go (yes e) later = let o = other_end p a e in first o.end o.within o.joins
      go (no n) later = next (later (sym (ends_xor k a (col x) (xor_of col list) ∙ ap (λ (y : ℕ). bit_xor y (ends k a (xor_of col list))) (ends_no p a n)) ∙ h))

  -- ---- a walk cut in two

  -- at most p nodes from a to the middle, and q from there to b
  record Middle (p q a b : ℕ) : Type 0 where
    at : ℕ
    within : at ≤ k
    first : SumOf WeightTwo k marks p (both a at)
    second : SumOf WeightTwo k marks q (both at b)

  -- a walk from a number to itself needs no node
  stay : (a b : ℕ) {m : ℕ} → a ≡ b → SumOf WeightTwo k marks m (both a b)
  stay a b e = sum_is (sym (ap (both a) (sym e) ∙ xor_self (unit a))) sum_none

  middle : (p q a b : ℕ) → a ≤ k → b ≤ k → SumOf WeightTwo k marks (p + q) (both a b) → Middle p q a b
  middle zero q a b ha hb s = record { at = a; within = ha; first = stay a a refl; second = sum_more (omega arith) s }
  middle (suc p) q a b ha hb s = go (ℕ_discrete a b) (λ d hd t. middle p q d b hd hb t)
    where
      begin : (a ≡ b → ⊥) → Out a s.nodes
      begin n = take_out a s.nodes s.live (ap (ends k a) s.sum ∙ ends_both k a b ha hb n)

      go : Dec (a ≡ b) → ((d : ℕ) → d ≤ k → SumOf WeightTwo k marks (p + q) (both d b) → Middle p q d b) → Middle (suc p) q a b
      go (yes e) later = record { at = a; within = ha; first = stay a a refl; second = stay a b e }
      go (no n) later =
          let o = begin n in
          let sum : xor_of col o.rest ≡ both o.end b =
          sym (xor_cancel (col o.node) (xor_of col o.rest)) ∙ ap₂ bit_xor (o.joins ∙ xor_comm (unit a) (unit o.end)) (sym o.sum ∙ s.sum) ∙ both_through o.end a b in
          let w = later o.end o.within (record { nodes = o.rest; few = omega (arith, o.size, s.few); live = o.each; sum = sum }) in
          record {
            at = w.at;
            within = w.within;
            first =
                sum_is (ap (λ (y : ℕ). bit_xor y (both o.end w.at)) o.joins ∙ both_through a o.end w.at)
                (sum_more (omega arith) (sum_join (sum_one o.node o.live) w.first));
            second = w.second;
          }

pub pair_halving : (k : ℕ) → KInRange WeightTwo k → (marks : List Bool) → Halving WeightTwo k marks
pair_halving k r marks m j h n s =
    let p : PairOf k j = pair_of k j n.first n.last in
    let w = middle k marks m m p.smaller p.larger (smaller_within p) p.within (sum_is (column_both p) s) in
    record {
      parts = record {
        left = both p.smaller w.at;
        right = both w.at p.larger;
        left_sum = w.first;
        right_sum = w.second;
        whole = both_through p.smaller w.at p.larger ∙ sym (column_both p);
      };
      left_column = joined k r p.smaller w.at (smaller_within p) w.within;
      right_column = joined k r w.at p.larger w.within p.within;
    }
