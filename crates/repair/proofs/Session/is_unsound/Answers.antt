-- `repair::Session::is_unsound` meets its contract: a sound session has a code.
use mathlib.Core.Path.{sym}
use Rattle.repair.proofs.CodeLaws.{code_sound, code_unsound}
use Rattle.repair.proofs.Session.is_unsound.Goals as goal

pub returns-in-Ok : goal.returns-in-Ok
returns-in-Ok c = sym (code_sound _ c.in-Ok.ensures.number)

pub returns-in-Err : goal.returns-in-Err
returns-in-Err c = sym (code_unsound _ _ c.in-Err.ensures.number)
