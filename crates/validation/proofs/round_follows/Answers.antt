-- `validation::round_follows` meets its contract: its tests are those of the definition, one by one.
use Prim.Native.Nat.{suc, ◌-◌}
use native.Mathlib.Omega.{arith}
use borrow.Author.Tests.{leb-true, le-leb, lt-leb, ltb-true, lt-ltb}
use lib.Dec.{leb, ltb}
use Rattle.base.proofs.Tests.{same_answer}
use Rattle.validation.specs.Good.{follows}
use Rattle.validation.proofs.round_follows.Goals as goal
use Rattle.validation.proofs.round_follows.Goals.{then-round-ge1, else-round-ge1}

pub returns-then-last-round : goal.returns-then-last-round
unfolding follows
returns-then-last-round c =
    let r = c.args.round in
    let last = c.args.last in
    rw (le-leb 1 r (omega arith), le-leb last r (omega arith))
    (same_answer (ltb (r - last) 2) (leb r (suc last)) (λ h. le-leb r (suc last) (omega (arith, ltb-true (r - last) 2 h))) (λ h. lt-ltb (r - last) 2 (omega (arith, leb-true r (suc last) h))))

pub returns-else-last-round : goal.returns-else-last-round
unfolding follows
returns-else-last-round c =
    let r = c.args.round in
    let last = c.args.last in
    elim c.if-round-ge1.branch [
      | then-round-ge1 w ↦ rw (le-leb 1 r (omega arith)) (grind (arith, lt-leb))
      | else-round-ge1 w ↦ grind (arith, lt-leb)
    ]
