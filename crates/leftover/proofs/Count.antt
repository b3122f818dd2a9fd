-- Counts over nodes: two tests that agree at every node count alike, so the number of open nodes is one number.
-- Assumes nothing.
use mathlib.Core.Path.{◌≡◌, sym, ap, ◌∙◌}
use mathlib.Core.Bool.{Bool}
use mathlib.Core.List.{List}
use Prim.Native.Nat.{ℕ}
use native.Mathlib.Omega.{arith}
use lib.ListN.{length}
use Rattle.base.specs.Ranges.{those_from}
use Rattle.base.proofs.RangeLaws.{same_from}
use Rattle.base.proofs.Tests.{same_answer}
use Rattle.families.specs.declared.Family.{Family}
use Rattle.families.specs.Families.{IsNode, node_count}
use Rattle.leftover.specs.Open.{OpenCount}

pub alike_count : (f : Family) (k : ℕ) (s t : ℕ → Bool) → ((j : ℕ) → IsNode f k j → s j ≡ t j) → length (those_from s 1 (node_count f k)) ≡ length (those_from t 1 (node_count f k))
alike_count f k s t h = ap length (same_from s t 1 (node_count f k) (λ i a b. h i (record { first = a; last = omega arith })))

pub one_count : (f : Family) (k L : ℕ) (list : List ℕ) (c d : ℕ) → OpenCount f k L list c → OpenCount f k L list d → c ≡ d
one_count f k L list c d p q =
    sym p.counts
    ∙ alike_count f k p.test q.test
    (λ j n. same_answer (p.test j) (q.test j) (λ t. (q.decides j n).1 ((p.decides j n).0 t)) (λ t. (p.decides j n).1 ((q.decides j n).0 t)))
    ∙ q.counts
