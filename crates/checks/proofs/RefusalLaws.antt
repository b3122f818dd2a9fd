-- Refusals and their numbers, and the family of a number.
-- Assumes nothing.
use mathlib.Core.Path.{◌≡◌, refl, sym, ◌∙◌}
use mathlib.Core.Bool.{Bool, true, false}
use Prim.Native.Nat.{ℕ, ◌≤◌}
use native.Mathlib.Decide.{dec_le}
use native.Mathlib.Omega.{arith}
use borrow.Author.Tests.{eqb-true, eqb-false}
use lib.Dec.{eqb}
use mathlib.Core.List.{List, ◌++◌}
use Rattle.std.specs.Prelude.{Result, Ok, Err}
use Rattle.std.specs.Result.{IsErrAnd}
use Rattle.std.proofs.lemmas.Result.{err_from_is_err_and}
use Rattle.base.specs.Ranges.{outside}
use Rattle.base.proofs.RangeLaws.{outside_low, outside_high, outside_no}
use Rattle.families.specs.Families.{family_of}
use Rattle.families.specs.Numbers.{family_numbered}
use Rattle.families.specs.declared.Family.{Family}
use Rattle.families.specs.declared.UnknownFamily.{UnknownFamily}
use Rattle.checks.specs.Checks.{Check, first_met}
use Rattle.checks.specs.Refusals.{number_of, number_in}
use Rattle.checks.proofs.Laws.{some_append}
use Rattle.checks.specs.declared.Refusal.{Refusal}
use Rattle.checks.specs.declared.Refusal.TheVariants.{UnknownFamily as NoFamily, BlockCount, BlockLength, UnknownNode, ListNotRising, BufferLength, BoxLength, NotZero, HeldCount, NotRelated, NodeLive, NodeMissing, UnsoundSession, BlockMissing}

-- no refusal has the number 0
pub refused : (refusal : Refusal) → number_of refusal ≡ 0 → ⊥
refused NoFamily h = omega arith
refused BlockCount h = omega arith
refused BlockLength h = omega arith
refused UnknownNode h = omega arith
refused ListNotRising h = omega arith
refused BufferLength h = omega arith
refused BoxLength h = omega arith
refused NotZero h = omega arith
refused HeldCount h = omega arith
refused NotRelated h = omega arith
refused NodeLive h = omega arith
refused NodeMissing h = omega arith
refused UnsoundSession h = omega arith
refused (BlockMissing block) h = omega arith

-- a refusal that is passed on by `?` keeps its number
pub passed_on : {A : Type 0} (refusal : Refusal) (result : Result A Refusal) → IsErrAnd result (λ e. e ≡ refusal) → number_in result ≡ number_of refusal
passed_on refusal result h = let p = err_from_is_err_and result h in rw (p.1, p.2)

-- a refusal by the first checks of a list is the list's
pub refused_first : (refusal : Refusal) (checks rest : List Check) → number_of refusal ≡ first_met checks → number_of refusal ≡ first_met (checks ++ rest)
refused_first refusal checks rest e = e ∙ sym (some_append checks rest (λ z. refused refusal (e ∙ z)))

-- a number that is a family's is in the range of the numbers
pub known : (number : ℕ) (family : Family) → family_numbered number ≡ Ok family → (outside 1 3 number ≡ false) × (family ≡ family_of number)
known number family e = go (eqb number 1) refl (eqb number 2) refl (eqb number 3) refl
  where
    in_range : 1 ≤ number → number ≤ 3 → outside 1 3 number ≡ false
    in_range = outside_no 1 3 number

    go : (a : Bool) → eqb number 1 ≡ a → (b : Bool) → eqb number 2 ≡ b → (c : Bool) → eqb number 3 ≡ c → (outside 1 3 number ≡ false) × (family ≡ family_of number)
    go true p b q c r = let n = eqb-true number 1 p in (in_range (omega arith) (omega arith), grind arith)
    go false p true q c r = let n = eqb-true number 2 q in (in_range (omega arith) (omega arith), grind arith)
    go false p false q true r = let n = eqb-true number 3 r in (in_range (omega arith) (omega arith), grind arith)
    go false p false q false r = grind arith

-- and one that is none is outside it
pub unknown : (number : ℕ) (none : UnknownFamily) → family_numbered number ≡ Err none → outside 1 3 number ≡ true
unknown number none e = go (eqb number 1) refl (eqb number 2) refl (eqb number 3) refl
  where
    go : (a : Bool) → eqb number 1 ≡ a → (b : Bool) → eqb number 2 ≡ b → (c : Bool) → eqb number 3 ≡ c → outside 1 3 number ≡ true
    go true p b q c r = grind arith
    go false p true q c r = grind arith
    go false p false q true r = grind arith
    go false p false q false r = go' (dec_le number 3)
      where
        go' : Dec (number ≤ 3) → outside 1 3 number ≡ true
        go' (yes l) = let a = eqb-false number 1 p in let b = eqb-false number 2 q in let c = eqb-false number 3 r in outside_low 1 3 number (omega arith)
        go' (no g) = outside_high 1 3 number (omega arith)
