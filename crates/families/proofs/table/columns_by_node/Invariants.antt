-- `families::table::columns_by_node` meets its contract: before each turn the table has the columns of the nodes before j.
use mathlib.Core.Path.{◌≡◌}
use Prim.Native.Nat.{◌-◌}
use Rattle.families.proofs.TableLaws.{columns_to}
use Rattle.families.proofs.table.columns_by_node.Given as goal

abbrev pub invariant-loop-j : goal.invariant-loop-j
invariant-loop-j l = l.table ≡ columns_to l.code.family l.code.k (l.j - 1)
