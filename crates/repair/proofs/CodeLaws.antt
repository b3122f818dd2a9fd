-- What the code of a session says: that it is sound, and n.
-- Assumes nothing.
use mathlib.Core.Path.{◌≡◌, refl, sym, ◌∙◌}
use mathlib.Core.Bool.{Bool, true, false}
use mathlib.Core.List.{[], ◌∷◌}
use Prim.Native.Nat.{ℕ, ◌≤◌}
use native.Mathlib.Omega.{arith}
use Rattle.std.specs.Prelude.{Result}
use Rattle.std.specs.Result.{IsErrAnd}
use Rattle.std.proofs.lemmas.Result.{err_from_is_err_and}
use Rattle.families.specs.Families.{node_count}
use Rattle.families.proofs.Laws.{few}
use Rattle.families.specs.declared.Code.{Code}
use Rattle.checks.specs.Checks.{◌gives◌, first_met}
use Rattle.checks.specs.Refusals.{number_of, IsCodeOf}
use Rattle.checks.specs.declared.Refusal.{Refusal}
use Rattle.checks.proofs.RefusalLaws.{refused}
use Rattle.repair.specs.declared.Session.{Session}
use Rattle.repair.specs.Answers.{started_as}
use Rattle.repair.specs.Session.{node_count_of, unsound, refused_start}

module _ (s : Session) where
  pub meets_13 : unsound s ≡ true → 13 ≡ first_met ((unsound s gives 13) ∷ [])
  unfolding first_met
  meets_13 e = rw e

  pub meets_none : unsound s ≡ false → 0 ≡ first_met ((unsound s gives 13) ∷ [])
  unfolding first_met
  meets_none e = rw e

  -- a session that has a code is sound
  pub code_sound : 0 ≡ first_met ((unsound s gives 13) ∷ []) → unsound s ≡ false
  code_sound h = go (unsound s) refl
    where
      go : (b : Bool) → unsound s ≡ b → unsound s ≡ false
      go true e = absurd (omega (arith, h, meets_13 e))
      go false e = e

  -- and one that has none is not
  pub code_unsound : (refusal : Refusal) → number_of refusal ≡ first_met ((unsound s gives 13) ∷ []) → unsound s ≡ true
  code_unsound refusal h = go (unsound s) refl
    where
      go : (b : Bool) → unsound s ≡ b → unsound s ≡ true
      go true e = e
      go false e = absurd (refused refusal (h ∙ sym (meets_none e)))

  pub code_13 : (refusal : Refusal) → number_of refusal ≡ first_met ((unsound s gives 13) ∷ []) → number_of refusal ≡ 13
  code_13 refusal h = h ∙ sym (meets_13 (code_unsound refusal h))

-- n of the code is the session's
pub nodes_of_code : (s : Session) (code : Code) (n : ℕ) → IsCodeOf s.family s.k code → n ≡ node_count code.family code.k → n ≡ node_count_of s
nodes_of_code s code n p e = rw (e, p.family_is, p.k_is)

-- and at most 255
pub nodes_few : (code : Code) (n : ℕ) → n ≡ node_count code.family code.k → n ≤ 255
nodes_few code n e = omega (arith, e, few _ _ code.in_range)

-- a start that is passed on by `?`
pub start_refused : (refusal : Refusal) (result : Result Session Refusal) → IsErrAnd result (λ e. e ≡ refusal) → started_as result ≡ refused_start (number_of refusal)
start_refused refusal result h = let p = err_from_is_err_and result h in rw (p.1, p.2)
