-- What is proved of the box that the refiller writes; proofs/Proved.antt has the proofs.
use Rattle.std.specs.Prelude.{◌≡◌, false, List, ◌↔◌, ℕ, ◌*◌, ◌≤◌, ◌<◌, length, get_or}
use Rattle.lists.specs.Lists.{is_in}
use Rattle.families.specs.Families.{family_of, IsNode}
use Rattle.boxes.specs.Box.{family_in, k_in, block_length_in, held_count_in, names_in, node_count_in, box_length, body_of}
use Rattle.leftover.specs.Open.{Open}
use Rattle.repair.specs.Boxed.{checked_box}
use Rattle.repair.specs.WholeWay.{BodiesAreOwn}
use Rattle.listing.specs.Listing.{most_bytes}
use Rattle.refilling.specs.Refilled.{refilled_of}

-- of an accepted box that is not too long
pub record RefilledClaims (input : List ℕ) : Type 0 where
  -- what is written is an accepted box of the same family, k and L
  pub accepted : (checked_box (refilled_of input)).refusal ≡ 0
  pub family : family_in (refilled_of input) ≡ family_in input
  pub k : k_in (refilled_of input) ≡ k_in input
  pub L : block_length_in (refilled_of input) ≡ block_length_in input
  -- it holds exactly the nodes that are not open
  pub holds : (M : ℕ) → 1 ≤ M → (j : ℕ) → IsNode (family_of (family_in input)) (k_in input) j
      → (is_in (names_in (refilled_of input)) j ≡ false) ↔ Open (family_of (family_in input)) (k_in input) M (names_in input) j
  -- the bodies that it was given are in it as they were
  pub keeps : (i : ℕ) → i < held_count_in input → body_of (refilled_of input) (get_or (names_in input) i 0) ≡ body_of input (get_or (names_in input) i 0)
  -- where they are an object's, so are all of its own
  pub own : (object : List ℕ) → length object ≡ k_in input * block_length_in input → BodiesAreOwn object input → BodiesAreOwn object (refilled_of input)
  -- refilled again it has the same bytes
  pub again : refilled_of (refilled_of input) ≡ refilled_of input

abbrev pub RefilledClaim : Type 0
RefilledClaim = (input : List ℕ) → (checked_box input).refusal ≡ 0 → box_length (node_count_in input) (block_length_in input) ≤ most_bytes → RefilledClaims input
