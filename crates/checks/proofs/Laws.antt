-- What a list of checks gives: the number of a check where its condition is met and no earlier one is, and nowhere else.
-- Assumes nothing.
use mathlib.Core.Path.{◌≡◌, refl, ap, ◌∙◌}
use mathlib.Core.Bool.{Bool, true, false, ◌&&◌, true≢false, false≢true}
use mathlib.Core.List.{List, [], ◌∷◌, ◌++◌}
use mathlib.Core.Logic.{◌⊎◌, inl, inr, ⊎_elim}
use Prim.Native.Nat.{ℕ, zero, suc, ◌*◌, ◌≤◌}
use native.Mathlib.Nat.{mul-le-mul}
use native.Mathlib.Omega.{arith}
use lib.Dec.{ltb}
use Rattle.base.proofs.Tests.{and_right}
use Rattle.families.specs.Families.{family_of, least_k, most_k}
use Rattle.families.proofs.Laws.{short}
use Rattle.checks.specs.Checks.{Check, ◌gives◌, first_met}
use Rattle.checks.specs.Claims.{NoneMet, Due, ChecksClaim, InRange, RangeClaim}
use Rattle.base.proofs.RangeLaws.{inside, outside_no}
use Rattle.checks.specs.Parameters.{most_l, parameter_checks}

-- where no earlier condition is met, the number of one that is met is given
given : (earlier : List Check) (number : ℕ) (later : List Check) → NoneMet earlier → first_met (earlier ++ (true gives number) ∷ later) ≡ number
unfolding first_met
given [] number later none = refl
given ((true gives n) ∷ earlier) number later none = absurd (true≢false none.0)
given ((false gives n) ∷ earlier) number later none = given earlier number later none.1

-- a number other than 0 is given only so
only : (checks : List Check) (r : ℕ) → first_met checks ≡ suc r → Due checks (suc r)
unfolding first_met
only [] r e = absurd (omega arith)
only ((true gives n) ∷ checks) r e = record { earlier = []; later = checks; none = tt; is = ap (λ (x : ℕ). (true gives x) ∷ checks) e }
only ((false gives n) ∷ checks) r e =
    let g = only checks r e in
    record { earlier = (false gives n) ∷ g.earlier; later = g.later; none = (refl, g.none); is = ap (λ (x : List Check). (false gives n) ∷ x) g.is }

pub checks_claim : ChecksClaim
checks_claim = record { given = λ checks number d. ap first_met d.is ∙ given d.earlier number d.later d.none; only = only }

-- every number of the list is above 0, so that 0 says that none is met
abbrev pub numbered : List Check → Bool
numbered [] = true
numbered ((met gives number) ∷ checks) = ltb 0 number && numbered checks

pub accepted : (checks : List Check) → numbered checks ≡ true → first_met checks ≡ 0 → NoneMet checks
unfolding first_met
accepted [] n e = tt
accepted ((true gives zero) ∷ checks) n e = absurd (false≢true n)
accepted ((true gives suc r) ∷ checks) n e = absurd (omega arith)
accepted ((false gives r) ∷ checks) n e = (refl, accepted checks (and_right (ltb 0 r) (numbered checks) n) e)

-- two lists, one after the other
pub none_zero : (checks : List Check) → NoneMet checks → first_met checks ≡ 0
unfolding first_met
none_zero [] n = refl
none_zero ((true gives r) ∷ checks) n = absurd (true≢false n.0)
none_zero ((false gives r) ∷ checks) n = none_zero checks n.1

-- of two lists of which none is met
pub none_left : (checks later : List Check) → NoneMet (checks ++ later) → NoneMet checks
none_left [] later n = tt
none_left ((met gives r) ∷ checks) later n = (n.0, none_left checks later n.1)

pub none_right : (checks later : List Check) → NoneMet (checks ++ later) → NoneMet later
none_right [] later n = n
none_right ((met gives r) ∷ checks) later n = none_right checks later n.1

pub none_append : (checks later : List Check) → NoneMet checks → first_met (checks ++ later) ≡ first_met later
unfolding first_met
none_append [] later none = refl
none_append ((true gives n) ∷ checks) later none = absurd (true≢false none.0)
none_append ((false gives n) ∷ checks) later none = none_append checks later none.1

pub some_append : (checks later : List Check) → (first_met checks ≡ 0 → ⊥) → first_met (checks ++ later) ≡ first_met checks
unfolding first_met
some_append [] later n = absurd (n refl)
some_append ((true gives r) ∷ checks) later n = refl
some_append ((false gives r) ∷ checks) later n = some_append checks later n

-- two checks that follow each other, in either order: the same is given, or both are met and none before them is
pub exchanged : (checks : List Check) (a b : Bool) (m n : ℕ) (later : List Check)
    → (NoneMet checks × (a ≡ true) × (b ≡ true)) ⊎ (first_met (checks ++ (a gives m) ∷ (b gives n) ∷ later) ≡ first_met (checks ++ (b gives n) ∷ (a gives m) ∷ later))
unfolding first_met
exchanged [] true true m n later = inl (tt, refl, refl)
exchanged [] true false m n later = inr refl
exchanged [] false b m n later = inr refl
exchanged ((true gives r) ∷ checks) a b m n later = inr refl
exchanged ((false gives r) ∷ checks) a b m n later = ⊎_elim (λ e. inl ((refl, e.0), e.1, e.2)) inr (exchanged checks a b m n later)

-- ---- 1 to 3

pub parameters_none : (family k L : ℕ) → first_met (parameter_checks family k L) ≡ 0 → NoneMet (parameter_checks family k L)
unfolding parameter_checks
parameters_none family k L e = accepted (parameter_checks family k L) refl e

pub range_of : (family k L : ℕ) → NoneMet (parameter_checks family k L) → InRange family k L
unfolding parameter_checks
range_of family k L n =
    let f = inside 1 3 family n.0 in
    let b = inside (least_k (family_of family)) (most_k (family_of family)) k n.1.0 in
    let l = inside 1 most_l L n.1.1.0 in
    record { first = f.0; last = f.1; blocks = record { least = b.0; most = b.1 }; some = l.0; most = l.1 }

pub in_range : (family k L : ℕ) → first_met (parameter_checks family k L) ≡ 0 → InRange family k L
in_range family k L e = range_of family k L (parameters_none family k L e)

pub parameters_in : (family k L : ℕ) → InRange family k L → first_met (parameter_checks family k L) ≡ 0
unfolding parameter_checks
parameters_in family k L r =
    none_zero (parameter_checks family k L) (
      outside_no 1 3 family r.first r.last,
      (
        outside_no (least_k (family_of family)) (most_k (family_of family)) k r.blocks.least r.blocks.most,
        (outside_no 1 most_l L r.some r.most, tt),
      ),
    )

-- a number of blocks, and so many of the largest L
pub bytes_most : {family k L : ℕ} (count most : ℕ) → count ≤ most → InRange family k L → count * L ≤ most * most_l
bytes_most count most h r = mul-le-mul {n₂ = most} {m₂ = most_l} h r.most

-- the bytes of an object
pub object_most : {family k L : ℕ} → InRange family k L → k * L ≤ 22 * most_l
object_most {family} {k} r = bytes_most k 22 (short (family_of family) k r.blocks).1 r

pub range_claim : RangeClaim
range_claim family k L = (in_range family k L, parameters_in family k L)
