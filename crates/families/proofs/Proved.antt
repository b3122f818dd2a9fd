-- The claims of specs/Claims.antt.
-- Assumes nothing.
use mathlib.Core.Path.{◌≡◌, refl, sym}
use Prim.Native.Nat.{ℕ, ◌≤◌}
use native.Mathlib.Omega.{arith}
use Rattle.base.specs.Ranges.{first_from}
use Rattle.families.specs.Families.{node_of, column_of, node_count}
use Rattle.families.specs.Claims.{FamilyClaim, PairClaim, TetrahedronClaim}
use Rattle.families.proofs.PairLaws.{data_column, pair_column, pair_is_node}
use Rattle.families.proofs.Laws.{few, column, column_once, node_is, node_of_lem, above_none, zero_none, related_differ, related_turn}

pub family_claims : FamilyClaim
family_claims f k r =
    record {
      positive = λ j n. (column f k j r n).positive;
      below = λ j n. (column f k j r n).below;
      once = λ i j m n e. column_once f k i j r m n e;
      back = λ j n. node_is f k r (column_of f k j) j n refl;
      node = λ c h. (node_of_lem f k r c (some c h)).is_node;
      forth = λ c h. (node_of_lem f k r c (some c h)).has;
      none_at_0 = zero_none f k r;
      none_above = λ c h. above_none f k c r h;
      differ = λ a b c na nb nc h. (
        (λ e. related_differ f k r a b c nc h e),
        (λ e. related_differ f k r b c a na (related_turn f k a b c h) e),
        (λ e. related_differ f k r c a b nb (related_turn f k b c a (related_turn f k a b c h)) (sym e)),
      );
      few = few f k r;
    }
  where
    some : (c : ℕ) → (node_of f k c ≡ 0 → ⊥) → 1 ≤ node_of f k c
    some c h = omega arith

pub pair_claim : PairClaim
pair_claim =
    record {
      data_blocks = data_column;
      pairs = pair_column;
      pairs_are_nodes = λ k i j h g e. let n = pair_is_node k i j h g e in record { first = n.0; last = n.1 };
    }

pub tetrahedron_claim : TetrahedronClaim
unfolding node_of first_from column_of node_count
tetrahedron_claim = refl
