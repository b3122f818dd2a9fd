-- Sums of live nodes: with more of them allowed, put together, cut in two, and of few nodes in the place of many.
-- Assumes nothing.
use mathlib.Core.Path.{◌≡◌, refl, sym, ap, ◌∙◌}
use mathlib.Core.Bool.{Bool}
use mathlib.Core.List.{List, [], ◌∷◌, ◌++◌}
use Prim.Native.Nat.{ℕ, ◌+◌, ◌^◌, ◌≤◌, ◌<◌}
use native.Mathlib.Omega.{arith}
use lib.Bits.{bit_xor, xor_zero_r}
use lib.ListN.{length, take, drop, length-append, length-take, length-drop, take-append-drop}
use Rattle.base.specs.Numbers.{Each, xor_of}
use Rattle.base.proofs.EachLaws.{each_none, each_cons, each_first, each_append, each_take, each_drop}
use Rattle.base.proofs.Reduce.{Below, xor_of-append, xor_of-below, reduce}
use Rattle.families.specs.declared.Family.{Family}
use Rattle.families.specs.Families.{KInRange, column_of}
use Rattle.families.proofs.Laws.{Known, nothing, of_node, column}
use Rattle.lists.specs.Lists.{is_live}
use Rattle.pairing.specs.Pairs.{LiveNode}
use Rattle.waves.specs.Waves.{SumOf}

-- two sums, of m and n nodes, whose XOR is c
pub record Parts (f : Family) (k : ℕ) (marks : List Bool) (m n c : ℕ) : Type 0 where
  pub left : ℕ
  pub right : ℕ
  pub left_sum : SumOf f k marks m left
  pub right_sum : SumOf f k marks n right
  pub whole : bit_xor left right ≡ c

module _ {f : Family} {k : ℕ} {marks : List Bool} where
  pub sum_more : {m n c : ℕ} → m ≤ n → SumOf f k marks m c → SumOf f k marks n c
  sum_more h s = record { nodes = s.nodes; few = omega (arith, s.few); live = s.live; sum = s.sum }

  pub sum_is : {m c d : ℕ} → c ≡ d → SumOf f k marks m c → SumOf f k marks m d
  sum_is e s = record { nodes = s.nodes; few = s.few; live = s.live; sum = s.sum ∙ e }

  pub sum_none : {m : ℕ} → SumOf f k marks m 0
  sum_none = record { nodes = []; few = omega arith; live = each_none (LiveNode f k marks); sum = refl }

  pub sum_one : (j : ℕ) → LiveNode f k marks j → SumOf f k marks 1 (column_of f k j)
  sum_one j l =
      record { nodes = j ∷ []; few = omega arith; live = each_cons (LiveNode f k marks) j [] l (each_none (LiveNode f k marks)); sum = xor_zero_r (column_of f k j) }

  pub one_is : {c : ℕ} → SumOf f k marks 1 c → Known f k (is_live marks) c
  one_is {c} s = go s.nodes s.few s.live s.sum
    where
      go : (list : List ℕ) → length list ≤ 1 → Each (LiveNode f k marks) list → xor_of (column_of f k) list ≡ c → Known f k (is_live marks) c
      go [] l a e = nothing (sym e)
      go (x ∷ []) l a e = let n = each_first (LiveNode f k marks) x [] a in of_node x n.node n.live (sym (xor_zero_r (column_of f k x)) ∙ e)
      go (x ∷ y ∷ list) l a e = absurd (omega arith)

  pub sum_join : {m n c d : ℕ} → SumOf f k marks m c → SumOf f k marks n d → SumOf f k marks (m + n) (bit_xor c d)
  sum_join s t =
      record {
        nodes = s.nodes ++ t.nodes;
        few = omega (arith, length-append s.nodes t.nodes, s.few, t.few);
        live = each_append (LiveNode f k marks) s.nodes t.nodes s.live t.live;
        sum = xor_of-append (column_of f k) s.nodes t.nodes ∙ rw (s.sum, t.sum);
      }

  pub sum_cut : (m n : ℕ) {c : ℕ} → SumOf f k marks (m + n) c → Parts f k marks m n c
  sum_cut m n s =
      record {
        left = xor_of (column_of f k) (take m s.nodes);
        right = xor_of (column_of f k) (drop m s.nodes);
        left_sum = record {
          nodes = take m s.nodes;
          few = omega (arith, length-take m s.nodes);
          live = each_take (LiveNode f k marks) m s.nodes s.live;
          sum = refl;
        };
        right_sum = record {
          nodes = drop m s.nodes;
          few = omega (arith, length-drop m s.nodes, s.few);
          live = each_drop (LiveNode f k marks) m s.nodes s.live;
          sum = refl;
        };
        whole = sym (xor_of-append (column_of f k) (take m s.nodes) (drop m s.nodes)) ∙ ap (xor_of (column_of f k)) (take-append-drop m s.nodes) ∙ s.sum;
      }

-- the columns have k digits
module _ (f : Family) (k : ℕ) (range : KInRange f k) (marks : List Bool) where
  digits : (list : List ℕ) → Each (LiveNode f k marks) list → Below (column_of f k) k list
  digits list a i h = (column f k _ range (a i h).node).below

  pub sum_below : {m c : ℕ} → SumOf f k marks m c → c < 2 ^ k
  sum_below s = rw (sym s.sum) (xor_of-below (column_of f k) k s.nodes (digits s.nodes s.live))

  -- so that k nodes are always enough
  pub sum_few : {m c : ℕ} → SumOf f k marks m c → SumOf f k marks k c
  sum_few s =
      let q = reduce (LiveNode f k marks) k (column_of f k) s.nodes s.live (digits s.nodes s.live) in
      record { nodes = q.some; few = q.few; live = q.each; sum = q.same ∙ s.sum }
