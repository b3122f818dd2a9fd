-- The numbers of the families.
use Rattle.std.specs.Prelude.{ℕ, Result, Ok, Err, cond, eqb}
use Rattle.families.specs.declared.Family.{Family}
use Rattle.families.specs.declared.Family.TheVariants.{Simplex, WeightTwo, Tetrahedron}
use Rattle.families.specs.declared.UnknownFamily.{UnknownFamily}

-- the family with a number; any other number is no family's
abbrev pub family_numbered : ℕ → Result Family UnknownFamily
family_numbered number = cond (eqb number 1) (Ok Simplex) (cond (eqb number 2) (Ok WeightTwo) (cond (eqb number 3) (Ok Tetrahedron) (Err (record { 0 = number }))))
