-- What a refused step or read out gives, as `stepped` and `read_out_of` have it.
-- Assumes nothing.
use mathlib.Core.Bool.{cond}
use Prim.Native.Nat.{ℕ}
use lib.Dec.{eqb}
use Rattle.repair.specs.declared.Session.{Session}
use Rattle.repair.specs.Answers.{Stepped, ReadOut}
use Rattle.repair.specs.ReadOut.{missing_in}

abbrev pub refused_step : Session → ℕ → Stepped
refused_step s number = record { refusal = number; session = s }

abbrev pub refused_out : Session → ℕ → ReadOut
refused_out s number = record { refusal = number; block = cond (eqb number 14) (missing_in s) 0; session = s }
