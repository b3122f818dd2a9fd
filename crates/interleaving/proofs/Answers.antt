-- What a call gives and leaves, refused or accepted, and what an accepted one has been given.
-- Assumes nothing.
use mathlib.Core.Path.{◌≡◌, ◌∙◌}
use mathlib.Core.List.{List}
use Prim.Native.Nat.{ℕ, ◌*◌}
use lib.ListN.{length}
use Rattle.checks.proofs.AnswerLaws.{after_served, after_refused}
use Rattle.checks.proofs.BufferLaws.{Sized, sized}
use Rattle.interleaving.specs.Interleaved.{interleave_checks, interleave_answer, out_moved}

module _ (family k L : ℕ) (bytes out : List ℕ) where
  pub accepted_call : interleave_answer family k L bytes out ≡ 0 → Sized family k L (length bytes) (k * L) (length out) (k * L)
  unfolding interleave_answer interleave_checks
  accepted_call = sized family k L (length bytes) (k * L) (length out) (k * L)

  -- both buffers are of one size, however it is worked out
  pub same_size : interleave_answer family k L bytes out ≡ 0 → (size : ℕ) → k * L ≡ size → (length bytes ≡ size) × (length out ≡ size)
  same_size e size m = let a = accepted_call e in (a.first ∙ m, a.second ∙ m)

  -- by either rule
  module _ (rule : ℕ → ℕ → List ℕ → List ℕ) where
    pub kept : (interleave_answer family k L bytes out ≡ 0 → ⊥) → out_moved rule family k L bytes out ≡ out
    unfolding out_moved interleave_answer
    kept h = after_refused (interleave_checks family k L (length bytes) (length out)) _ out h

    pub written : interleave_answer family k L bytes out ≡ 0 → out_moved rule family k L bytes out ≡ rule k L bytes
    unfolding out_moved interleave_answer
    written e = after_served (interleave_checks family k L (length bytes) (length out)) _ out e
