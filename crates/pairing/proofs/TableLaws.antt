-- How far the table of pairs within a list has come: each pair counts for the node that is related to both.
-- Assumes nothing.
use mathlib.Core.Path.{◌≡◌, refl, sym, ap, ◌∙◌}
use mathlib.Core.Bool.{cond, not}
use mathlib.Core.List.{List, map}
use Prim.Native.Nat.{ℕ, zero, suc, ◌+◌, ◌*◌, ◌≤◌, ◌<◌}
use native.Mathlib.Numerals.{add-one}
use native.Mathlib.Omega.{arith}
use borrow.Author.Tests.{ne_eqb, lt-ltb}
use lib.Dec.{eqb, ltb}
use lib.ListN.{length, get_or, drop, drop_of_length-le, length-map, length-drop}
use lib.Seq.{drop-cons}
use mir.Val.{bool_byte}
use Rattle.families.specs.declared.Family.{Family}
use Rattle.counts.specs.Counts.{no_counts, count_of, one_more, count_all, sum_of}
use Rattle.counts.proofs.Laws.{count_append, count_most, sum_one_most, sum_all_most, sum_none}
use Rattle.families.specs.Inner.{third_node}
use Rattle.pairing.specs.Inner.{thirds}

-- what is left to be counted for a, from place i of the list on
pub record Counting (f : Family) (k : ℕ) (list : List ℕ) (a : ℕ) (before now : List ℕ) (i : ℕ) : Type 0 where
  pub rest : count_all now (map (third_node f k a) (drop i list)) ≡ count_all before (map (third_node f k a) list)
  -- so that every count fits 16 bits
  pub few : sum_of now + length list ≤ 65535 + i

module _ {f : Family} {k : ℕ} {list : List ℕ} {a : ℕ} {before now : List ℕ} {i : ℕ} (w : Counting f k list a before now i) where
  pub counting_more : (third : ℕ) → i < length list → third ≡ third_node f k a (get_or list i 0) → Counting f k list a before (one_more now third) (i + 1)
  unfolding count_all
  counting_more third h e =
      record { rest = rw (e, add-one i) (rw (drop-cons list i 0 h) at w.rest); few = omega (arith, w.few, sum_one_most now third) }

  -- no count is the most that 16 bits hold
  pub counting_fits : i < length list → (j : ℕ) → count_of now j < 65535
  counting_fits h j = omega (arith, w.few, count_most now j)

  pub counting_done : length list ≤ i → now ≡ count_all before (map (third_node f k a) list)
  unfolding count_all
  counting_done h = rw (drop_of_length-le list h) at w.rest

-- what is left to be counted, from place i of the list on
pub record Tabling (f : Family) (k : ℕ) (list : List ℕ) (now : List ℕ) (i : ℕ) : Type 0 where
  pub rest : count_all now (thirds f k (drop i list)) ≡ count_all no_counts (thirds f k list)
  pub few : sum_of now ≤ i * 255

pub tabling_none : (f : Family) (k : ℕ) (list : List ℕ) → Tabling f k list no_counts 0
tabling_none f k list = record { rest = refl; few = omega (arith, sum_none 256) }

module _ {f : Family} {k : ℕ} {list : List ℕ} {now : List ℕ} {i : ℕ} (w : Tabling f k list now i) where
  pub tabling_more : length list ≤ 255 → i < length list → Tabling f k list (count_all now (map (third_node f k (get_or list i 0)) (drop (i + 1) list))) (i + 1)
  unfolding thirds
  tabling_more l h =
      record {
        rest =
            sym (count_append now (map (third_node f k (get_or list i 0)) (drop (i + 1) list)) (thirds f k (drop (i + 1) list)))
            ∙ rw (add-one i) (rw (drop-cons list i 0 h) at w.rest);
        few =
            let m = map (third_node f k (get_or list i 0)) (drop (i + 1) list) in
            omega (arith, w.few, sum_all_most now m, length-map (drop (i + 1) list) (third_node f k (get_or list i 0)), length-drop (i + 1) list);
      }

  pub tabling_done : length list ≤ i → now ≡ count_all no_counts (thirds f k list)
  unfolding thirds count_all
  tabling_done h = rw (drop_of_length-le list h) at w.rest

-- how many of a list have another node by a rule, which gives 0 where there is none
abbrev pub with_other : (ℕ → ℕ) → List ℕ → ℕ
with_other rule list = sum_of (map (λ a. cond (ltb 0 (rule a)) 1 0) list)

-- those seen as far as place i of the list
pub record Seeing (rule : ℕ → ℕ) (list : List ℕ) (count i : ℕ) : Type 0 where
  pub rest : count + with_other rule (drop i list) ≡ with_other rule list
  pub few : count ≤ i

module _ {rule : ℕ → ℕ} {list : List ℕ} {count i : ℕ} (w : Seeing rule list count i) where
  pub seeing_more : (other : ℕ) → i < length list → other ≡ rule (get_or list i 0) → Seeing rule list (count + bool_byte (not (eqb other 0))) (i + 1)
  unfolding sum_of
  seeing_more other h e =
      let step = rw (drop-cons list i 0 h) at w.rest in
      let one = seen other in
      record { rest = rw (add-one i) (omega (arith, step, one.0, ap {B = ℕ} (λ (x : ℕ). cond (ltb 0 x) 1 0) e)); few = omega (arith, w.few, one.1) }
    where
      seen : (x : ℕ) → (bool_byte (not (eqb x 0)) ≡ cond (ltb 0 x) 1 0) × (bool_byte (not (eqb x 0)) ≤ 1)
      seen zero = (refl, omega arith)
      seen (suc x) = rw (ne_eqb (suc x) 0 (λ z. omega arith), lt-ltb 0 (suc x) (omega arith)) (refl, omega arith)

  pub seeing_done : length list ≤ i → count ≡ with_other rule list
  unfolding sum_of
  seeing_done h = omega (arith, rw (drop_of_length-le list h) at w.rest)
