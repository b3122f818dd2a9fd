-- What read out answers, check by check, and what that leaves in the object.
-- Assumes nothing.
use mathlib.Core.Path.{◌≡◌, refl, sym, ap, ◌∙◌}
use mathlib.Core.Bool.{Bool, true, false, not, cond}
use mathlib.Core.List.{List, [], ◌∷◌}
use Prim.Native.Nat.{ℕ, ◌*◌}
use native.Mathlib.Omega.{arith}
use borrow.Author.Tests.{eqb-false, eq-eqb, ne_eqb}
use lib.Dec.{eqb}
use lib.ListN.{length}
use Rattle.families.specs.Families.{family_of}
use Rattle.checks.specs.Checks.{◌gives◌, first_met}
use Rattle.checks.specs.Refusals.{number_of, block_of}
use Rattle.checks.specs.declared.Refusal.{Refusal}
use Rattle.checks.specs.declared.Refusal.TheVariants.{BlockMissing}
use Rattle.checks.proofs.RefusalLaws.{refused as never_0}
use Rattle.checks.proofs.Laws.{none_append, some_append}
use Rattle.checks.proofs.AnswerLaws.{Gives, serves, refuses}
use Rattle.readout.specs.DataBlocks.{data_blocks}
use Rattle.repair.specs.declared.Session.{Session}
use Rattle.repair.specs.Answers.{ReadOut}
use Rattle.repair.specs.Session.{unsound, node_count_of, nodes_checks}
use Rattle.repair.specs.ReadOut.{missing_in, read_out_checks, read_out_of, object_out}
use Rattle.repair.proofs.Refused.{refused_out}
use Rattle.repair.proofs.StartLaws.{nodes_none}

-- 13 and 6 are not 14
not_14 : (a b : Bool) → eqb (first_met ((a gives 13) ∷ (b gives 6) ∷ [])) 14 ≡ false
unfolding first_met
not_14 true b = refl
not_14 false true = refl
not_14 false false = refl

-- and no other number comes with a block
no_block : (refusal : Refusal) → (number_of refusal ≡ 14 → ⊥) → block_of refusal ≡ 0
no_block (BlockMissing block) h = absurd (h refl)
no_block _ h = refl

module _ (s : Session) (nodes object : List ℕ) where
  -- an answer, and the object afterwards
  abbrev pub Reads : ReadOut → List ℕ → Type 0
  Reads = Gives (read_out_of s nodes object) (object_out s nodes object)

  -- 14 comes with the lowest missing block, any other number with block 0
  refused : (number block : ℕ) → number ≡ first_met (read_out_checks s nodes object) → (number ≡ 0 → ⊥) → cond (eqb number 14) (missing_in s) 0 ≡ block
      → Reads (record { refusal = number; block = block; session = s }) object
  unfolding read_out_of object_out
  refused number block e h b = rw (← b) (refuses (read_out_checks s nodes object) _ (refused_out s) _ object number e h)

  pub by_nodes : (refusal : Refusal) → number_of refusal ≡ first_met (nodes_checks s (length nodes))
      → Reads (record { refusal = number_of refusal; block = block_of refusal; session = s }) object
  unfolding read_out_checks nodes_checks
  by_nodes refusal e =
      let other : eqb (number_of refusal) 14 ≡ false = ap (λ (x : ℕ). eqb x 14) e ∙ not_14 (unsound s) (not (eqb (length nodes) (node_count_of s * s.len))) in
      let none = no_block refusal (eqb-false (number_of refusal) 14 other) in
      refused (number_of refusal) (block_of refusal) (e ∙ sym (some_append (nodes_checks s (length nodes)) _ (λ z. never_0 refusal (e ∙ z)))) (never_0 refusal)
      (ap (λ (b : Bool). cond b (missing_in s) 0) other ∙ sym none)

  module _ (e : first_met (nodes_checks s (length nodes)) ≡ 0) where
    pub by_object : (length object ≡ s.k * s.len → ⊥) → Reads (record { refusal = 6; block = 0; session = s }) object
    unfolding read_out_checks first_met
    by_object h =
        refused 6 0 (sym (none_append (nodes_checks s (length nodes)) _ (nodes_none s (length nodes) e) ∙ simp (ne_eqb (length object) (s.k * s.len) h))) (λ z. omega arith) refl

    module _ (size : length object ≡ s.k * s.len) where
      pub by_block : (block : ℕ) → block ≡ missing_in s → (block ≡ 0 → ⊥) → Reads (record { refusal = 14; block = block; session = s }) object
      unfolding read_out_checks first_met
      by_block block b h =
          let f : first_met (read_out_checks s nodes object) ≡ 14
          = none_append (nodes_checks s (length nodes)) _ (nodes_none s (length nodes) e) ∙ simp (eq-eqb (length object) (s.k * s.len) size, ne_eqb (missing_in s) 0 (λ z. h (b ∙ z))) in
          refused 14 block (sym f) (λ z. omega arith) (sym b)

      -- where none is missing
      pub accepted_out : missing_in s ≡ 0 → first_met (read_out_checks s nodes object) ≡ 0
      unfolding read_out_checks first_met
      accepted_out b = none_append (nodes_checks s (length nodes)) _ (nodes_none s (length nodes) e) ∙ simp (eq-eqb (length object) (s.k * s.len) size, b)

  pub read : first_met (read_out_checks s nodes object) ≡ 0
      → Reads (record { refusal = 0; block = 0; session = s }) (data_blocks (family_of s.family) s.k s.len nodes s.k)
  unfolding read_out_of object_out
  read e = serves (read_out_checks s nodes object) _ (refused_out s) _ object e
