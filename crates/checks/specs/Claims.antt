-- What is proved of every order of checks, and of 1 to 3; `checks_claim` and `range_claim` of proofs/Laws.antt are the proofs.
use Rattle.std.specs.Prelude.{◌≡◌, true, false, List, [], ◌∷◌, ◌++◌, ◌↔◌, ℕ, suc, ◌≤◌}
use Rattle.families.specs.Families.{family_of, KInRange}
use Rattle.checks.specs.Checks.{Check, ◌gives◌, first_met}
use Rattle.checks.specs.Parameters.{most_l, parameter_checks}

-- no condition of the list is met
abbrev pub NoneMet : List Check → Type 0
NoneMet [] = Unit {0}
NoneMet ((met gives number) ∷ checks) = (met ≡ false) × NoneMet checks

-- a check that is met, after checks that are not
pub record Due (checks : List Check) (number : ℕ) : Type 0 where
  pub earlier : List Check
  pub later : List Check
  pub none : NoneMet earlier
  pub is : checks ≡ earlier ++ (true gives number) ∷ later

-- each number is given where its condition is met and no earlier one is, and nowhere else
pub record ChecksClaim : Type 0 where
  pub given : (checks : List Check) (number : ℕ) → Due checks number → first_met checks ≡ number
  pub only : (checks : List Check) (r : ℕ) → first_met checks ≡ suc r → Due checks (suc r)

-- the family, k and L are in range
pub record InRange (family k L : ℕ) : Type 0 where
  pub first : 1 ≤ family
  pub last : family ≤ 3
  pub blocks : KInRange (family_of family) k
  pub some : 1 ≤ L
  pub most : L ≤ most_l

-- none of 1, 2 and 3 is given exactly where they are
abbrev pub RangeClaim : Type 0
RangeClaim = (family k L : ℕ) → (first_met (parameter_checks family k L) ≡ 0) ↔ InRange family k L
