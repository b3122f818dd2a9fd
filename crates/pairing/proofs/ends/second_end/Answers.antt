-- `pairing::ends::second_end` meets its contract: a number that is not 0 has a lowest bit.
use mathlib.Core.Path.{◌≡◌, ap, ◌∙◌}
use Prim.Native.Nat.{ℕ, ◌-◌, ◌^◌, ◌<◌}
use native.Mathlib.Omega.{arith}
use borrow.Author.Tests.{eq-eqb, ne_eqb}
use lib.Count.{count_trailing_zeros}
use Rattle.base.proofs.LowestBit.{Lowest, lowest}
use Rattle.pairing.specs.Inner.{second_end}
use Rattle.pairing.proofs.ends.second_end.Goals as goal
use Rattle.pairing.proofs.ends.second_end.Goals.{After-power, Start}

low : (e : Start) → e.args.column < 2 ^ 64 → Lowest 64 e.args.column
low e h = lowest 64 e.args.column e.requires h

-- the lowest bit
bit_is : (c : After-power) → c.power.result ≡ 2 ^ count_trailing_zeros 64 c.args.column
bit_is c = c.power.ensures ∙ ap (λ (x : ℕ). 2 ^ x) c.lowest_bit.ensures

pub overflow_sub-rest : goal.overflow_sub-rest
overflow_sub-rest c =
    let h : c.args.column < 2 ^ 64 = omega arith in
    omega (arith, bit_is (goal.at.overflow_sub-rest c).After-power, (low (goal.at.overflow_sub-rest c).Start h).split)

pub returns-then-rest-eq0 : goal.returns-then-rest-eq0
unfolding second_end
returns-then-rest-eq0 c =
    rw (eq-eqb (c.args.column - 2 ^ count_trailing_zeros 64 c.args.column) 0 (omega (arith, bit_is (goal.at.returns-then-rest-eq0 c).After-power, c.if-rest-eq0.true)))

pub returns : goal.returns
unfolding second_end
returns c =
    rw (ne_eqb (c.args.column - 2 ^ count_trailing_zeros 64 c.args.column) 0 (λ z. c.if-rest-eq0.false (omega (arith, bit_is (goal.at.returns c).After-power, z))), c.lowest_bit-2.ensures, bit_is (goal.at.returns c).After-power)
