-- Digits that give 0 at the live nodes and not at node j make two objects, of blocks of any length, by which node j is open.
-- Assumes nothing.
use mathlib.Core.Path.{◌≡◌, sym, ap, ◌∙◌}
use mathlib.Core.Bool.{Bool, true}
use mathlib.Core.List.{List}
use Prim.Native.Nat.{ℕ, ◌+◌, ◌*◌, ◌/◌, ◌≤◌, ◌<◌}
use native.Mathlib.Decide.{dec_lt}
use native.Mathlib.Omega.{arith}
use lib.Arith.{digits_div, digits_lt}
use lib.ListN.{length, get_or, replicate, length-replicate, get_or-replicate, get_or-eq_default}
use lib.Seq.{ext_get_or}
use Rattle.families.specs.declared.Family.{Family}
use Rattle.families.specs.Families.{IsNode, column_of}
use Rattle.base.specs.Ranges.{list_from}
use Rattle.base.proofs.RangeLaws.{length-list_from, get_or-list_from}
use Rattle.encoding.specs.Matrix.{node_block}
use Rattle.encoding.proofs.Linear.{has_bit, xor_over, node_byte, length-node_block}
use Rattle.leftover.specs.Open.{Object, Open}
use Rattle.leftover.proofs.Digits.{xor_over_same, xor_over_zeros}

-- a digit for each data block: their XOR is 0 over the column of each live node, and not 0 over node j's
pub record Cut (f : Family) (k : ℕ) (live : ℕ → Bool) (j : ℕ) : Type 0 where
  pub digit : ℕ → ℕ
  pub small : (i : ℕ) → digit i < 2
  pub zero_live : (m : ℕ) → IsNode f k m → live m ≡ true → xor_over k (has_bit (column_of f k m)) digit ≡ 0
  pub not_at : xor_over k (has_bit (column_of f k j)) digit ≡ 0 → ⊥

-- the object whose data block i + 1 is `byte i` at all of its L places
module _ (k L : ℕ) (byte : ℕ → ℕ) where
  filled : List ℕ
  filled = list_from (λ p. byte (p / L)) 0 (k * L)

  filled_size : length filled ≡ k * L
  unfolding filled
  filled_size = length-list_from (λ p. byte (p / L)) 0 (k * L)

  filled_in : (p : ℕ) → p < k * L → get_or filled p 0 ≡ byte (p / L)
  unfolding filled
  filled_in p h = get_or-list_from (λ p. byte (p / L)) (k * L) p 0 h

  filled_object : ((i : ℕ) → byte i < 256) → Object k L filled
  filled_object small = record { size = filled_size; each = λ p. go p (dec_lt p (k * L)) }
    where
      go : (p : ℕ) → Dec (p < k * L) → get_or filled p 0 < 256
      go p (yes h) = rw (filled_in p h) (small (p / L))
      go p (no h) = rw (get_or-eq_default filled 0 {n = p} (omega (arith, filled_size))) (omega arith)

  -- a node's block holds at all of its places what the node's column gives
  filled_block : (column : ℕ) → node_block k L filled column ≡ replicate L (xor_over k (has_bit column) byte)
  filled_block column =
      ext_get_or 0 (node_block k L filled column) (replicate L v) (size ∙ sym (length-replicate L v)) (λ p h. at p (rw size at h))
    where
      v : ℕ
      v = xor_over k (has_bit column) byte

      size : length (node_block k L filled column) ≡ L
      size = length-node_block k L filled filled_size column

      at : (p : ℕ) → p < L → get_or (node_block k L filled column) p 0 ≡ get_or (replicate L v) p 0
      at p h =
          node_byte k L filled filled_size column p h
          ∙ xor_over_same k (has_bit column) (λ i. get_or filled (i * L + p) 0) byte (λ i l. filled_in (i * L + p) (digits_lt l h) ∙ ap byte (digits_div i h))
          ∙ sym (get_or-replicate L p v 0 h)

module _ {f : Family} {k : ℕ} {live : ℕ → Bool} {j : ℕ} (c : Cut f k live j) (L : ℕ) (list : List ℕ) where
  abbrev value : ℕ → ℕ
  value column = xor_over k (has_bit column) c.digit

  zeros : (column : ℕ) → node_block k L (filled k L (λ i. 0)) column ≡ replicate L 0
  zeros column = filled_block k L (λ i. 0) column ∙ ap (replicate L) (xor_over_zeros k (has_bit column))

  pub cut_open : ((i : ℕ) → i < length list → IsNode f k (get_or list i 0)) → ((i : ℕ) → i < length list → live (get_or list i 0) ≡ true) → 1 ≤ L → Open f k L list j
  cut_open nodes keeps h =
      record {
        one = filled k L c.digit;
        other = filled k L (λ i. 0);
        one_is = filled_object k L c.digit (λ i. omega (arith, c.small i));
        other_is = filled_object k L (λ i. 0) (λ i. omega arith);
        alike = λ i l. same (column_of f k (get_or list i 0)) (c.zero_live (get_or list i 0) (nodes i l) (keeps i l));
        differ = λ e. c.not_at (first (sym (filled_block k L c.digit (column_of f k j)) ∙ e ∙ zeros (column_of f k j)));
      }
    where
      same : (column : ℕ) → value column ≡ 0 → node_block k L (filled k L c.digit) column ≡ node_block k L (filled k L (λ i. 0)) column
      same column z = filled_block k L c.digit column ∙ ap (replicate L) z ∙ sym (zeros column)

      first : {x y : ℕ} → replicate L x ≡ replicate L y → x ≡ y
      first {x} {y} e = sym (get_or-replicate L 0 x 0 h) ∙ ap (λ (block : List ℕ). get_or block 0 0) e ∙ get_or-replicate L 0 y 0 h
