-- The laws of an answer and of a lent buffer: where no check is met the call is served, else it is refused with the number of the
-- first that is.
-- Assumes nothing.
use mathlib.Core.Path.{◌≡◌, refl, sym, ap, ◌∙◌}
use mathlib.Core.Bool.{Bool, true, false, cond}
use mathlib.Core.List.{List, [], ◌∷◌}
use Prim.Native.Nat.{ℕ}
use borrow.Author.Tests.{eqb-true, ne_eqb}
use lib.Dec.{eqb}
use Rattle.checks.specs.Checks.{Check, ◌gives◌, first_met, answer, afterwards}

-- ---- a lent buffer

module _ (checks : List Check) (served before : List ℕ) where
  pub after_served : first_met checks ≡ 0 → afterwards checks served before ≡ served
  after_served e = rw e

  pub after_refused : (first_met checks ≡ 0 → ⊥) → afterwards checks served before ≡ before
  after_refused h = rw (ne_eqb (first_met checks) 0 h)

-- ---- a number that is not given

-- a check that gives it is not met
abbrev pub Never : ℕ → List Check → Type 0
Never n [] = Unit {0}
Never n ((met gives number) ∷ checks) = (met ≡ true → number ≡ n → ⊥) × Never n checks

pub never_met : (n : ℕ) (checks : List Check) → (n ≡ 0 → ⊥) → Never n checks → first_met checks ≡ n → ⊥
unfolding first_met
never_met n [] z v e = z (sym e)
never_met n ((true gives number) ∷ checks) z v e = v.0 refl e
never_met n ((false gives number) ∷ checks) z v e = never_met n checks z v.1 e

-- ---- an answer

module _ {A : Type 0} (checks : List Check) (served : A) (refused : ℕ → A) where
  pub answer_served : first_met checks ≡ 0 → answer checks served refused ≡ served
  answer_served e = rw e

  pub answer_refused : (first_met checks ≡ 0 → ⊥) → answer checks served refused ≡ refused (first_met checks)
  answer_refused h = rw (ne_eqb (first_met checks) 0 h)

  -- what holds of the service and of every refusal holds of the answer
  pub answer_either : (P : A → Type 0) → P served → ((number : ℕ) → P (refused number)) → P (answer checks served refused)
  answer_either P s r = go (eqb (first_met checks) 0)
    where
      go : (b : Bool) → P (cond b served (refused (first_met checks)))
      go true = s
      go false = r (first_met checks)

  -- ---- an answer with its number: that of a refusal, and 0 of the service

  module _ (number : A → ℕ) (number_is : (n : ℕ) → number (refused n) ≡ n) where
    -- accepted, no check is met
    pub none_met : number (answer checks served refused) ≡ 0 → first_met checks ≡ 0
    none_met h = go (eqb (first_met checks) 0) refl h
      where
        go : (b : Bool) → eqb (first_met checks) 0 ≡ b → number (cond b served (refused (first_met checks))) ≡ 0 → first_met checks ≡ 0
        go true p h = eqb-true (first_met checks) 0 p
        go false p h = sym (number_is (first_met checks)) ∙ h

    -- a number that is not given is not the answer's
    pub never_answered : number served ≡ 0 → (n : ℕ) → (n ≡ 0 → ⊥) → Never n checks → number (answer checks served refused) ≡ n → ⊥
    never_answered served-0 n z v e = go (eqb (first_met checks) 0) e
      where
        go : (b : Bool) → number (cond b served (refused (first_met checks))) ≡ n → ⊥
        go true h = z (sym h ∙ served-0)
        go false h = never_met n checks z v (sym (number_is (first_met checks)) ∙ h)

    module _ (served-0 : number served ≡ 0) (h : number (answer checks served refused) ≡ 0 → ⊥) where
      -- refused, one is
      pub one_met : first_met checks ≡ 0 → ⊥
      one_met z = h (rw z served-0)

      -- and the answer is the refusal with its own number
      pub refusal_is : answer checks served refused ≡ refused (number (answer checks served refused))
      refusal_is = rw (ne_eqb (first_met checks) 0 one_met) (ap refused (sym (number_is (first_met checks))))

      -- and a buffer that was lent is as it was
      pub refusal_keeps : (left before : List ℕ)
          → (answer checks served refused ≡ refused (number (answer checks served refused))) × (afterwards checks left before ≡ before)
      refusal_keeps left before = (refusal_is, after_refused checks left before one_met)

-- ---- a call with a lent buffer

-- what holds of the service and what it leaves, and of every refusal and what was there, holds of the two together
pub call_either : {A B : Type 0} (checks : List Check) (served : A) (refused : ℕ → A) (left before : B) (P : A → B → Type 0)
    → P served left → ((number : ℕ) → P (refused number) before) → P (answer checks served refused) (cond (eqb (first_met checks) 0) left before)
call_either checks served refused left before P s r = go (eqb (first_met checks) 0)
  where
    go : (b : Bool) → P (cond b served (refused (first_met checks))) (cond b left before)
    go true = s
    go false = r (first_met checks)

-- what was given and what the buffer holds are the call's answer and what it leaves
pub record Gives {A : Type 0} (answers : A) (leaves : List ℕ) (given : A) (after : List ℕ) : Type 0 where
  pub answer_is : given ≡ answers
  pub buffer_is : after ≡ leaves

module _ {A : Type 0} (checks : List Check) (served : A) (refused : ℕ → A) (left before : List ℕ) where
  pub serves : first_met checks ≡ 0 → Gives (answer checks served refused) (afterwards checks left before) served left
  serves e = record { answer_is = sym (answer_served checks served refused e); buffer_is = sym (after_served checks left before e) }

  pub refuses : (number : ℕ) → number ≡ first_met checks → (number ≡ 0 → ⊥) → Gives (answer checks served refused) (afterwards checks left before) (refused number) before
  refuses number e h =
      let n : first_met checks ≡ 0 → ⊥ = λ z. h (e ∙ z) in
      record { answer_is = ap refused e ∙ sym (answer_refused checks served refused n); buffer_is = sym (after_refused checks left before n) }
