-- `mogtriz::repairs::mogtriz_pairs` meets its contract: it is the session's own search, with the session as handed in.
use mathlib.Core.Path.{◌≡◌, refl, ap}
use Rattle.std.specs.Prelude.{Result, Ok, Err}
use Rattle.std.specs.Result.{result_unwrap_or}
use Rattle.checks.specs.declared.Refusal.{Refusal}
use Rattle.pairing.specs.declared.Pairs.{Pairs}
use Rattle.repair.specs.Answers.{PairsFound, pairs_with}
use Rattle.mogtriz.specs.declared.repairs.PairsAnswer.{PairsAnswer}
use Rattle.mogtriz.specs.Repairs.{pairs_found_c}
use Rattle.mogtriz.proofs.repairs.mogtriz_pairs.Goals as goal

zeros : (result : Result Pairs Refusal) → result_unwrap_or result (record { smaller = 0; larger = 0; count = 0 }) ≡ pairs_with result
zeros (Ok pairs) = refl
zeros (Err refusal) = refl

pub returns : goal.returns
unfolding pairs_found_c
returns c =
    let for_c : PairsFound → PairsAnswer = λ own. record { refusal = own.refusal; smaller = own.smaller; larger = own.larger; count = own.count; session = c.args.session } in
    rw (c.number.ensures, c.unwrap_or-pairs.ensures, zeros c.pairs-found.result.result) (ap for_c (rw c.from.ensures at c.pairs-found.ensures))
