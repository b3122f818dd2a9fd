-- The order of checks (document 01, "Order of checks") as data: a list of conditions, each with the number that it gives.
use Rattle.std.specs.Prelude.{ℕ, Bool, cond, List, [], ◌∷◌, eqb}

-- a check: where its condition is met, its number is given
infix 30 ◌gives◌
pub data Check : Type 0 where
  ◌gives◌ : Bool → ℕ → Check

-- the number of the first check that is met; 0 where none is, and the call is accepted
unfoldable pub first_met : List Check → ℕ
first_met [] = 0
first_met ((met gives number) ∷ checks) = cond met number (first_met checks)

-- what a call gives: served where no check is met, else refused with the number of the first that is
abbrev pub answer : {A : Type 0} → List Check → A → (ℕ → A) → A
answer checks served refused = cond (eqb (first_met checks) 0) served (refused (first_met checks))

-- one list where no check is met, else another: what a lent buffer holds afterwards, the other being what it held
abbrev pub afterwards : List Check → List ℕ → List ℕ → List ℕ
afterwards checks served before = cond (eqb (first_met checks) 0) served before
