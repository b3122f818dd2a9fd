-- The nodes reached from a list by related pairs: objects alike at the list are alike at these, so none of these is open.
-- Assumes nothing.
use mathlib.Core.Path.{◌≡◌, sym, ap₂, ◌∙◌}
use mathlib.Core.Bool.{Bool, true}
use mathlib.Core.List.{List}
use Prim.Native.Nat.{ℕ, ◌<◌}
use lib.ListN.{length, get_or}
use Rattle.families.specs.declared.Family.{Family}
use Rattle.families.specs.Families.{IsNode, column_of, are_related}
use Rattle.blocks.specs.Blocks.{xor_bytes}
use Rattle.encoding.specs.Matrix.{node_block}
use Rattle.encoding.proofs.Nodes.{related_block}
use Rattle.pairing.specs.Pairs.{NoPairLeft}
use Rattle.leftover.specs.Open.{Open}

pub data Reached (f : Family) (k : ℕ) (list : List ℕ) : ℕ → Type 0 where
  given : (i : ℕ) → i < length list → Reached f k list (get_or list i 0)
  repaired : {a b j : ℕ} → are_related f k a b j ≡ true → Reached f k list a → Reached f k list b → Reached f k list j

-- live are the list's nodes and nodes reached from them, and no pair is left
pub record Ended (f : Family) (k : ℕ) (list : List ℕ) (live : ℕ → Bool) : Type 0 where
  pub keeps : (i : ℕ) → i < length list → live (get_or list i 0) ≡ true
  pub reached : (j : ℕ) → IsNode f k j → live j ≡ true → Reached f k list j
  pub done : NoPairLeft f k live

module _ {f : Family} {k L : ℕ} {list : List ℕ} {v : ℕ} (o : Open f k L list v) where
  reached_alike : {j : ℕ} → Reached f k list j → node_block k L o.one (column_of f k j) ≡ node_block k L o.other (column_of f k j)
  reached_alike (given i h) = o.alike i h
  reached_alike (repaired {a} {b} {j} r p q) =
      related_block f k L o.one o.one_is.size a b j r ∙ ap₂ xor_bytes (reached_alike p) (reached_alike q)
      ∙ sym (related_block f k L o.other o.other_is.size a b j r)

  pub reached_shut : Reached f k list v → ⊥
  reached_shut r = o.differ (reached_alike r)
