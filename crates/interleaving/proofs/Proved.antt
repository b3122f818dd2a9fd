-- The claims of specs/Claims.antt.
-- Assumes nothing.
use mathlib.Core.Path.{◌≡◌, sym, ap, ◌∙◌}
use mathlib.Core.List.{List}
use Prim.Native.Nat.{ℕ, ◌*◌, ◌<◌}
use native.Mathlib.Decide.{ℕ_discrete}
use native.Mathlib.Omega.{arith}
use lib.ListN.{length, get_or}
use Rattle.families.proofs.Laws.{short}
use Rattle.checks.specs.Checks.{first_met}
use Rattle.checks.specs.Parameters.{parameter_checks}
use Rattle.checks.specs.Claims.{InRange}
use Rattle.checks.proofs.Laws.{parameters_in}
use Rattle.checks.proofs.BufferLaws.{by_parameters, by_first, by_second, by_none}
use Rattle.interleaving.specs.Interleaved.{interleaved, deinterleaved, interleave_checks, interleave_answer, out_moved}
use Rattle.interleaving.specs.Claims.{RuleClaim, ThinClaim, AcceptedClaim, ServedClaim, RefusalClaim, Undone, UndoneClaim}
use Rattle.interleaving.proofs.Laws as laws
use Rattle.interleaving.proofs.Answers.{accepted_call, kept, written}

pub rule_claim : RuleClaim
rule_claim k L bytes e =
    record {
      there_size = laws.length-interleaved k L bytes;
      back_size = laws.length-deinterleaved k L bytes;
      there = λ t h. sym (laws.deinterleaved_at k L (interleaved k L bytes) t h) ∙ ap (λ (x : List ℕ). get_or x t 0) (laws.there_and_back k L bytes e);
      back = laws.deinterleaved_at k L bytes;
      there_and_back = laws.there_and_back k L bytes e;
      back_and_there = laws.back_and_there k L bytes e;
    }

-- k is 2 or more
two : (family k L : ℕ) → InRange family k L → 1 < k
two family k L r = omega (arith, short _ k r.blocks)

pub thin_claim : ThinClaim
thin_claim =
    record {
      others_right = laws.others_right;
      apart = laws.apart;
      one_right = laws.one_right;
      neighbours = λ family k L r t. laws.apart k t 1 (omega arith) (two family k L r);
      neighbour_right = λ family k L i blocks others r lost t. laws.one_right k L i blocks others lost t 1 (omega arith) (two family k L r);
    }

pub accepted_claim : AcceptedClaim
unfolding interleave_answer interleave_checks
accepted_claim family k L bytes out = (
  (λ e. let a = accepted_call family k L bytes out e in (a.range, a.first, a.second)),
  (λ p. by_none family k L (length bytes) (k * L) (length out) (k * L) (parameters_in family k L p.0) p.1 p.2),
)

pub served_claim : ServedClaim
served_claim rule family k L bytes out e = written family k L bytes out rule e

pub refusal_claim : RefusalClaim
unfolding interleave_answer interleave_checks
refusal_claim family k L bytes out =
    record {
      range = by_parameters family k L (length bytes) (k * L) (length out) (k * L);
      sizes = λ r h. go (parameters_in family k L r) h (ℕ_discrete (length bytes) (k * L));
      kept = kept family k L bytes out;
    }
  where
    go : first_met (parameter_checks family k L) ≡ 0 → ((length bytes ≡ k * L) × (length out ≡ k * L) → ⊥) → Dec (length bytes ≡ k * L) → interleave_answer family k L bytes out ≡ 6
    go e h (no n) = by_first family k L (length bytes) (k * L) (length out) (k * L) e n
    go e h (yes s) = by_second family k L (length bytes) (k * L) (length out) (k * L) e s (λ z. h (s, z))

-- by any two rules of which the second undoes the first
undone : (rule inverse : ℕ → ℕ → List ℕ → List ℕ) (family k L : ℕ) (bytes out again : List ℕ) → interleave_answer family k L bytes out ≡ 0 → length again ≡ k * L
    → length (rule k L bytes) ≡ k * L → inverse k L (rule k L bytes) ≡ bytes → Undone rule inverse family k L bytes out again
undone rule inverse family k L bytes out again e g size back =
    let a = accepted_call family k L bytes out e in
    let w = written family k L bytes out rule e in
    let f : interleave_answer family k L (out_moved rule family k L bytes out) again ≡ 0 = (accepted_claim family k L (out_moved rule family k L bytes out) again).1 (a.range, rw w size, g) in
    record { accepted = f; same = written family k L (out_moved rule family k L bytes out) again inverse f ∙ rw w back }

pub undone_claim : UndoneClaim
undone_claim =
    record {
      there_and_back = λ family k L bytes out again e g. let a = accepted_call family k L bytes out e in undone interleaved deinterleaved family k L bytes out again e g (laws.length-interleaved k L bytes) (laws.there_and_back k L bytes a.first);
      back_and_there = λ family k L bytes out again e g. let a = accepted_call family k L bytes out e in undone deinterleaved interleaved family k L bytes out again e g (laws.length-deinterleaved k L bytes) (laws.back_and_there k L bytes a.first);
    }
