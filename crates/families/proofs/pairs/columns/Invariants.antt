-- `families::pairs::columns` meets its contract: before each turn the table has the columns of the nodes before a place, and `pair`
-- is the pair of the node at it.
use mathlib.Core.Path.{◌≡◌}
use Prim.Native.Nat.{ℕ, ◌<◌}
use Rattle.families.proofs.PairLaws.{smaller_at, larger_at}
use Rattle.families.proofs.TableLaws.{columns_to}
use Rattle.families.specs.declared.Family.TheVariants.{WeightTwo}
use Rattle.families.specs.declared.pairs.Pair.{Pair}
use Rattle.families.proofs.pairs.columns.Given as goal

pub record Stands (k j : ℕ) (pair : Pair) : Type 0 where
  pub smaller : pair.smaller ≡ smaller_at k j
  pub larger : pair.larger ≡ larger_at k j

abbrev pub invariant-loop-place : goal.invariant-loop-place
invariant-loop-place l = (l.table ≡ columns_to WeightTwo l.k l.place) × (l.place < l.n → Stands l.k l.place l.pair)
