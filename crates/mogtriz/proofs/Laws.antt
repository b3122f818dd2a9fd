-- What the numbers given to a C function say of a family, where it has nodes.
-- Assumes nothing.
use mathlib.Core.Path.{◌≡◌}
use mathlib.Core.Bool.{true, false, ◌&&◌}
use Prim.Native.Nat.{ℕ, ◌≤◌}
use native.Mathlib.Decide.{ℕ_discrete, dec_le}
use native.Mathlib.Omega.{arith}
use borrow.Author.Tests.{ne_eqb, leb-true, le-leb, lt-leb}
use lib.Dec.{leb}
use Rattle.base.proofs.Tests.{and_left, and_right}
use Rattle.families.specs.Families.{family_of, KInRange, IsNode, node_count}
use Rattle.checks.specs.Checks.{first_met}
use Rattle.checks.specs.Parameters.{parameter_checks}
use Rattle.checks.proofs.Laws.{in_range}
use Rattle.mogtriz.specs.Exports.{node_count_or0, is_node}

pub count_refused : (family k : ℕ) → (first_met (parameter_checks family k 1) ≡ 0 → ⊥) → node_count_or0 family k ≡ 0
unfolding node_count_or0
count_refused family k h = simp (ne_eqb (first_met (parameter_checks family k 1)) 0 h)

pub count_accepted : (family k : ℕ) → first_met (parameter_checks family k 1) ≡ 0 → node_count_or0 family k ≡ node_count (family_of family) k
unfolding node_count_or0
count_accepted family k h = rw h

-- the family and k are in range
pub record Known (family k : ℕ) : Type 0 where
  pub range : KInRange (family_of family) k
  pub count : node_count_or0 family k ≡ node_count (family_of family) k

pub known : (family k : ℕ) → (node_count_or0 family k ≡ 0 → ⊥) → Known family k
known family k h = go (ℕ_discrete (first_met (parameter_checks family k 1)) 0)
  where
    go : Dec (first_met (parameter_checks family k 1) ≡ 0) → Known family k
    go (yes e) = record { range = (in_range family k 1 e).blocks; count = count_accepted family k e }
    go (no n) = absurd (h (count_refused family k n))

-- the family and k are in range, and j is a node's number
pub record Node (family k j : ℕ) : Type 0 where
  pub range : KInRange (family_of family) k
  pub is_node : IsNode (family_of family) k j

pub node : (family k j : ℕ) → is_node family k j ≡ true → Node family k j
unfolding is_node
node family k j h =
    let a = leb-true 1 j (and_left (leb 1 j) (leb j (node_count_or0 family k)) h) in
    let b = leb-true j (node_count_or0 family k) (and_right (leb 1 j) (leb j (node_count_or0 family k)) h) in
    let n = known family k (λ z. omega (arith, z, a, b)) in
    record { range = n.range; is_node = record { first = a; last = omega (arith, b, n.count) } }

-- where they are not, no number is a node's
pub no_node : (family k j : ℕ) → (first_met (parameter_checks family k 1) ≡ 0 → ⊥) → is_node family k j ≡ false
unfolding is_node
no_node family k j h = rw (count_refused family k h) (go (dec_le 1 j))
  where
    go : Dec (1 ≤ j) → (leb 1 j && leb j 0) ≡ false
    go (yes l) = simp (le-leb 1 j l, lt-leb j 0 (omega (arith, l)))
    go (no g) = simp (lt-leb 1 j (omega (arith, g)))
