-- Where repairs have ended, the missing nodes are the open ones, at every block length.
-- Assumes nothing.
use mathlib.Core.Path.{◌≡◌, refl, ap}
use mathlib.Core.Bool.{Bool, false, not}
use mathlib.Core.List.{List}
use mathlib.Core.Logic.{◌↔◌}
use Prim.Native.Nat.{ℕ, ◌≤◌, ◌<◌}
use borrow.Author.Tests.{not-true}
use lib.ListN.{length, get_or}
use Rattle.base.specs.Ranges.{those_from}
use Rattle.base.proofs.Tests.{is_false}
use Rattle.families.specs.declared.Family.{Family}
use Rattle.families.specs.declared.Family.TheVariants.{Simplex, WeightTwo, Tetrahedron}
use Rattle.families.specs.Families.{KInRange, IsNode, node_count}
use Rattle.families.proofs.FullLaws.{simplex_full, tetrahedron_full}
use Rattle.pairing.specs.Pairs.{NoPairLeft}
use Rattle.leftover.specs.Open.{Open, OpenCount}
use Rattle.leftover.proofs.Cut.{Cut, cut_open}
use Rattle.leftover.proofs.Full.{full_cut}
use Rattle.leftover.proofs.Pairs.{pair_cut}
use Rattle.leftover.proofs.Reached.{Ended, reached_shut}

missing_cut : (f : Family) (k : ℕ) → KInRange f k → (live : ℕ → Bool) → NoPairLeft f k live → (j : ℕ) → IsNode f k j → live j ≡ false → Cut f k live j
missing_cut Simplex k r live done j n l = full_cut Simplex k 0 r (simplex_full k r) live done j n l
missing_cut WeightTwo k r live done j n l = pair_cut k r live done j n l
missing_cut Tetrahedron k r live done j n l = full_cut Tetrahedron k 15 r (tetrahedron_full k r) live done j n l

module _ (f : Family) (k : ℕ) (r : KInRange f k) (list : List ℕ) (nodes : (i : ℕ) → i < length list → IsNode f k (get_or list i 0))
    (live : ℕ → Bool) (ended : Ended f k list live) (L : ℕ) (h : 1 ≤ L) where
  pub missing_is_open : (j : ℕ) → IsNode f k j → (live j ≡ false) ↔ Open f k L list j
  missing_is_open j n = (
    (λ l. cut_open (missing_cut f k r live ended.done j n l) L list nodes ended.keeps h),
    (λ o. is_false (live j) (λ l. reached_shut o (ended.reached j n l))),
  )

  pub missing_count : OpenCount f k L list (length (those_from (λ j. not (live j)) 1 (node_count f k)))
  missing_count =
      record {
        test = λ j. not (live j);
        decides = λ j n. ((λ t. (missing_is_open j n).0 (not-true (live j) t)), (λ o. ap not ((missing_is_open j n).1 o)));
        counts = refl;
      }
