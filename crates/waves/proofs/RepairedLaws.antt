-- A node is repaired in a wave exactly when it is missing and has a related pair, in either order, of which both are live.
-- Assumes nothing.
use mathlib.Core.Path.{◌≡◌}
use mathlib.Core.Bool.{Bool, true, false}
use mathlib.Core.List.{List}
use Prim.Native.Nat.{ℕ}
use Rattle.families.specs.declared.Family.{Family}
use Rattle.families.specs.Families.{KInRange, IsNode, are_related}
use Rattle.lists.specs.Lists.{is_live}
use Rattle.pairing.specs.Pairs.{smaller_node, larger_node, LiveNode}
use Rattle.pairing.proofs.PairLaws.{PairOf, pair_of, smaller_some}
use Rattle.planning.proofs.MakeLaws.{is_repaired, repaired_smaller, pair_repairs}

-- two live nodes that are related to node j
pub record LivePair (f : Family) (k : ℕ) (marks : List Bool) (j : ℕ) : Type 0 where
  pub one : ℕ
  pub other : ℕ
  pub one_live : LiveNode f k marks one
  pub other_live : LiveNode f k marks other
  pub related : are_related f k one other j ≡ true

module _ (f : Family) (k : ℕ) (range : KInRange f k) (marks : List Bool) (j : ℕ) where
  pub repaired_pair : is_repaired f k marks marks j ≡ true → LivePair f k marks j
  repaired_pair e =
      let p : PairOf f k range marks j = pair_of f k range marks j (repaired_smaller f k marks marks j e) in
      record {
        one = smaller_node f k marks j;
        other = larger_node f k marks j (smaller_node f k marks j);
        one_live = record { node = p.smaller; live = p.smaller_live };
        other_live = record { node = p.larger; live = p.larger_live };
        related = p.related;
      }

  pub pair_repaired : IsNode f k j → is_live marks j ≡ false → LivePair f k marks j → is_repaired f k marks marks j ≡ true
  pair_repaired n e p = pair_repairs f k marks marks j e (smaller_some f k marks j range n p.one p.other p.one_live p.other_live p.related)
