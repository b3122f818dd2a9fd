-- What the search for a pair answers, check by check.
-- Assumes nothing.
use mathlib.Core.Path.{◌≡◌, refl, sym, ◌∙◌}
use mathlib.Core.Bool.{true, false}
use Prim.Native.Nat.{ℕ}
use native.Mathlib.Omega.{arith}
use Rattle.base.specs.Ranges.{outside}
use Rattle.base.proofs.RangeLaws.{inside, outside_no}
use Rattle.families.specs.Families.{family_of, IsNode}
use Rattle.checks.specs.Checks.{first_met}
use Rattle.checks.proofs.Laws.{accepted}
use Rattle.checks.proofs.AnswerLaws.{answer_served, answer_refused, none_met}
use Rattle.repair.specs.declared.Session.{Session}
use Rattle.repair.specs.Answers.{PairsFound}
use Rattle.repair.specs.Session.{node_count_of, unsound}
use Rattle.repair.specs.Pairs.{pairs_checks, served_pairs, refused_pairs, pairs_found}

module _ (s : Session) (j : ℕ) where
  refused : (number : ℕ) → first_met (pairs_checks s j) ≡ number → (number ≡ 0 → ⊥) → refused_pairs s number ≡ pairs_found s j
  unfolding pairs_found
  refused number e ne = sym (answer_refused (pairs_checks s j) _ (refused_pairs s) (λ z. ne (sym e ∙ z)) ∙ rw e)

  pub pairs_13 : unsound s ≡ true → refused_pairs s 13 ≡ pairs_found s j
  unfolding pairs_checks first_met
  pairs_13 e = refused 13 (rw e) (λ z. omega arith)

  module _ (e : unsound s ≡ false) where
    pub pairs_4 : outside 1 (node_count_of s) j ≡ true → refused_pairs s 4 ≡ pairs_found s j
    unfolding pairs_checks first_met
    pairs_4 o = refused 4 (rw (e, o)) (λ z. omega arith)

    pub pairs_served : outside 1 (node_count_of s) j ≡ false → served_pairs s j ≡ pairs_found s j
    unfolding pairs_found pairs_checks first_met
    pairs_served o = sym (answer_served (pairs_checks s j) _ (refused_pairs s) (rw (e, o)))

  -- ---- where it is accepted

  pub record AcceptedPairs : Type 0 where
    pub sound : unsound s ≡ false
    pub node : IsNode (family_of s.family) s.k j

  pub pairs_accepted : (pairs_found s j).refusal ≡ 0 → AcceptedPairs
  unfolding pairs_found pairs_checks
  pairs_accepted h =
      let n = accepted (pairs_checks s j) refl (none_met (pairs_checks s j) _ (refused_pairs s) (λ (r : PairsFound). r.refusal) (λ n. refl) h) in
      let i = inside 1 (node_count_of s) j n.1.0 in
      record { sound = n.0; node = record { first = i.0; last = i.1 } }

  -- and what it then gives
  pub pairs_given : unsound s ≡ false → IsNode (family_of s.family) s.k j → pairs_found s j ≡ served_pairs s j
  pairs_given e n = sym (pairs_served e (outside_no 1 (node_count_of s) j n.first n.last))
