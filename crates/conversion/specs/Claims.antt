-- What is proved of conversions besides the contracts; proofs/Proved.antt has the proofs.
use Rattle.std.specs.Prelude.{◌≡◌, List, ◌++◌, ◌↔◌, ℕ, ◌≤◌, ◌<◌, length, get_or, take, drop}
use Rattle.families.specs.Families.{IsNode, column_of}
use Rattle.families.specs.declared.Family.TheVariants.{Simplex}
use Rattle.checks.specs.Checks.{first_met}
use Rattle.encoding.specs.Matrix.{node_block}
use Rattle.lists.specs.Lists.{is_in}
use Rattle.boxes.specs.Box.{family_in, k_in, block_length_in, held_count_in, names_in, box_checks, body_of}
use Rattle.boxes.specs.Claims.{AcceptedBox}
use Rattle.graded.specs.Order.{column_at, node_at, position_of}
use Rattle.conversion.specs.Converted.{from_graded, to_graded, converted, out_converted}

-- ---- when a conversion is accepted

-- a box of the simplex family, and room for it
pub record Convertible (bytes out : List ℕ) : Type 0 where
  pub box : AcceptedBox bytes
  pub simplex : family_in bytes ≡ 1
  pub fits : length bytes ≤ length out

-- a conversion is accepted exactly then
abbrev pub AcceptedClaim : Type 0
AcceptedClaim = (bytes out : List ℕ) → ((converted bytes out).refusal ≡ 0) ↔ Convertible bytes out

-- ---- what is left in the destination

-- the box that a conversion leaves, by the length that is given
abbrev pub box_left : (List ℕ → List ℕ) → List ℕ → List ℕ → List ℕ
box_left to bytes out = take (converted bytes out).length (out_converted to bytes out)

-- of a conversion by a rule that turns number p into `new p`
pub record ConvertedBox (to : List ℕ → List ℕ) (new : ℕ → ℕ) (bytes out : List ℕ) : Type 0 where
  -- the length is the box's, and beyond it the destination is as it was
  pub answer : converted bytes out ≡ record { refusal = 0; length = length bytes }
  pub rest : out_converted to bytes out ≡ box_left to bytes out ++ drop (length bytes) out
  pub size : length (box_left to bytes out) ≡ length bytes
  -- it is an accepted box of the same family, k, L and E: the first 8 bytes stay
  pub accepted : first_met (box_checks (box_left to bytes out)) ≡ 0
  pub head : take 8 (box_left to bytes out) ≡ take 8 bytes
  -- the new number of p is held exactly where p was, and has p's body
  pub held : (p : ℕ) → IsNode Simplex (k_in bytes) p → is_in (names_in (box_left to bytes out)) (new p) ≡ is_in (names_in bytes) p
  pub body : (p : ℕ) → IsNode Simplex (k_in bytes) p → body_of (box_left to bytes out) (new p) ≡ body_of bytes p

-- every accepted conversion, theirs to ours and ours to theirs
pub record ConvertedClaim : Type 0 where
  pub ours : (bytes out : List ℕ) → (converted bytes out).refusal ≡ 0 → ConvertedBox from_graded (node_at (k_in bytes)) bytes out
  pub theirs : (bytes out : List ℕ) → (converted bytes out).refusal ≡ 0 → ConvertedBox to_graded (position_of (k_in bytes)) bytes out

-- ---- there and back

-- the box that is left is converted back, into any destination with room for it, to the same box
pub record BackClaim : Type 0 where
  pub ours : (bytes out other : List ℕ) → (converted bytes out).refusal ≡ 0 → length bytes ≤ length other → box_left to_graded (box_left from_graded bytes out) other ≡ bytes
  pub theirs : (bytes out other : List ℕ) → (converted bytes out).refusal ≡ 0 → length bytes ≤ length other → box_left from_graded (box_left to_graded bytes out) other ≡ bytes

-- ---- an object's bodies

-- every body of a box is an object's block at the column that a rule gives for its number
abbrev pub BodiesBy : (ℕ → ℕ) → List ℕ → List ℕ → Type 0
BodiesBy column object bytes =
    (i : ℕ) → i < held_count_in bytes → body_of bytes (get_or (names_in bytes) i 0) ≡ node_block (k_in bytes) (block_length_in bytes) object (column (get_or (names_in bytes) i 0))

-- where a box's bodies are an object's by graded order, those of the converted box are the object's by our numbers, and the other way round
pub record ObjectClaim : Type 0 where
  pub ours : (object bytes out : List ℕ) → (converted bytes out).refusal ≡ 0 → BodiesBy (column_at (k_in bytes)) object bytes → BodiesBy (column_of Simplex (k_in bytes)) object (box_left from_graded bytes out)
  pub theirs : (object bytes out : List ℕ) → (converted bytes out).refusal ≡ 0 → BodiesBy (column_of Simplex (k_in bytes)) object bytes → BodiesBy (column_at (k_in bytes)) object (box_left to_graded bytes out)

-- ---- a refusal

-- its number is a box's own; else 1 for families 2 and 3, however short the destination; else 6. With it comes 0, and nothing is written
pub record RefusalClaims (bytes out : List ℕ) : Type 0 where
  pub box : (first_met (box_checks bytes) ≡ 0 → ⊥) → (converted bytes out).refusal ≡ first_met (box_checks bytes)
  pub family : AcceptedBox bytes → (family_in bytes ≡ 1 → ⊥) → (converted bytes out).refusal ≡ 1
  pub room : AcceptedBox bytes → family_in bytes ≡ 1 → length out < length bytes → (converted bytes out).refusal ≡ 6
  pub zero : ((converted bytes out).refusal ≡ 0 → ⊥) → (converted bytes out).length ≡ 0
  pub kept : (to : List ℕ → List ℕ) → ((converted bytes out).refusal ≡ 0 → ⊥) → out_converted to bytes out ≡ out

abbrev pub RefusalClaim : Type 0
RefusalClaim = (bytes out : List ℕ) → RefusalClaims bytes out
