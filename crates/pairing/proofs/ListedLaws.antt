-- The live and the missing nodes as the code lists them: the first of an array of 256 numbers, with zeros after them.
-- Assumes nothing.
use mathlib.Core.Path.{◌≡◌, refl, ap}
use mathlib.Core.Bool.{Bool, false}
use mathlib.Core.List.{List, [], ◌∷◌, ◌++◌}
use Prim.Native.Nat.{ℕ, zero, suc, ◌-◌, ◌≤◌, ◌<◌}
use native.Mathlib.Omega.{arith}
use lib.ListN.{length, get_or, take, drop, length-take, replicate}
use lib.Seq.{take_at}
use Rattle.base.proofs.RangeLaws.{others_count}
use Rattle.families.specs.declared.Family.{Family}
use Rattle.families.specs.Families.{IsNode, node_count}
use Rattle.lists.specs.Lists.{some_outside, is_live, live_nodes, missing_nodes}
use Rattle.lists.proofs.Laws.{outside_both, outside_none}

-- the numbers before the zeros
pub listed : (count : ℕ) (all list : List ℕ) → count ≡ length list → all ≡ list ++ replicate (256 - length list) 0 → take count all ≡ list
listed count all list e a = rw (a, e) (take_at _ _ _ refl)

-- lie in the array
pub fits_in : (count : ℕ) (all list : List ℕ) → count ≡ length list → take count all ≡ list → count ≤ length all
fits_in count all list e t = omega (arith, ap length t, length-take count all)

-- as many nodes are missing as are not live
pub missing_count : (marks : List Bool) (n : ℕ) → n - length (live_nodes marks n) ≡ length (missing_nodes marks n)
missing_count marks n = omega (arith, others_count (is_live marks) 1 n)

-- what is listed is a node, where nothing else is listed
pub node_listed : (f : Family) (k : ℕ) (list : List ℕ) (i : ℕ) → some_outside (node_count f k) list ≡ false → i < length list → IsNode f k (get_or list i 0)
node_listed f k list i o h = let p = outside_none _ list o i h in record { first = p.0; last = p.1 }

-- as are those after a place
pub rest_inside : (n i : ℕ) (list : List ℕ) → some_outside n list ≡ false → some_outside n (drop i list) ≡ false
rest_inside n zero list o = o
rest_inside n (suc i) [] o = o
rest_inside n (suc i) (x ∷ list) o = rest_inside n i list (outside_both n x list o).1
