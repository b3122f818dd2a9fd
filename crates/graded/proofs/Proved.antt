-- What specs/Claims.antt says of graded order.
-- Assumes nothing.
use mathlib.Core.Path.{◌≡◌, sym, ap, ◌∙◌}
use Prim.Native.Nat.{ℕ, suc, ◌-◌, ◌≤◌}
use native.Mathlib.Omega.{arith}
use borrow.Author.Tests.{ltb-true}
use lib.ListN.{length, get_or}
use lib.Pow.{pow_pos}
use Rattle.families.specs.Families.{KInRange, IsNode, node_count, column_of, node_of}
use Rattle.families.specs.declared.Family.TheVariants.{Simplex}
use Rattle.families.proofs.Laws.{simplex_below}
use Rattle.lists.specs.Lists.{place_in}
use Rattle.lists.proofs.PlaceLaws.{is_at, place_of}
use Rattle.graded.specs.Order.{graded_table, columns_left, column_at, node_at}
use Rattle.graded.specs.Claims.{OnePlace, TableClaim, NumberClaims, NumberClaim}
use Rattle.graded.proofs.OrderLaws.{sorted, sorted_at}
use Rattle.graded.proofs.TableLaws.{table_order, table_distinct, table_has, table_size}
use Rattle.graded.proofs.NumberLaws.{left_size, left_at, left_place, place_within, left_order, rank}
use Rattle.graded.proofs.Walks.{column_in}

one_place : (c : ℕ) → 1 ≤ c → c ≤ 255 → OnePlace c
one_place c h g =
    let t = table_has c h g in
    record {
      place = place_in graded_table c;
      within = omega (arith, ltb-true (place_in graded_table c) (length graded_table) t, table_size);
      there = is_at graded_table c t;
      only = λ i l e. sym (place_of graded_table i table_distinct (omega (arith, table_size))) ∙ ap (place_in graded_table) e;
    }

pub table_claim : TableClaim
table_claim =
    record { size = table_size; order = λ i h. sorted_at graded_table i (suc i) (sorted graded_table table_order) (omega arith) (omega (arith, table_size)); once = one_place }

module _ (k : ℕ) (r : KInRange Simplex k) where
  -- the node at a position is the column's own number
  pub node_is : (p : ℕ) → IsNode Simplex k p → node_at k p ≡ column_at k p
  unfolding node_count
  node_is p n = simplex_below k (column_at k p) r (omega (arith, column_in k r p n.first n.last, pow_pos k))

  pub number_claims : NumberClaims k
  unfolding node_count column_of
  number_claims =
      record {
        count = left_size k r;
        node = λ p n. let c = column_in k r p n.first n.last in record { first = omega (arith, node_is p n, c); last = omega (arith, node_is p n, c) };
        position = λ j n. record { first = omega arith; last = place_within k r j n.first n.last };
        column = node_is;
        back = λ p n. ap (λ (c : ℕ). suc (place_in (columns_left k) c)) (node_is p n) ∙ ap suc (left_place k r (p - 1) (omega (arith, n.first, n.last))) ∙ omega (arith, n.first);
        forth = λ j n.
            let e : suc (place_in (columns_left k) j) - 1 ≡ place_in (columns_left k) j = omega arith in
            ap (node_of Simplex k) (ap (λ (i : ℕ). get_or (columns_left k) i 0) e ∙ left_at k r j n.first n.last) ∙ simplex_below k j r (omega (arith, n.last, pow_pos k));
        order = λ p q h l g. left_order k r (p - 1) (q - 1) (omega arith) (omega arith);
        rank = λ j n. ap suc (rank k r j n.first n.last);
      }

pub number_claim : NumberClaim
number_claim = number_claims
