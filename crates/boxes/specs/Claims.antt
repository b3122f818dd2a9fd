-- What is proved of boxes besides the contracts; proofs/Proved.antt has the proofs.
use Rattle.std.specs.Prelude.{◌≡◌, true, false, not, List, [], ◌∷◌, ◌++◌, ◌↔◌, ℕ, ◌*◌, ◌≤◌, ◌<◌, length, get_or, eqb, ltb}
use Rattle.base.specs.Ranges.{outside}
use Rattle.families.specs.Families.{family_of, node_count, IsNode}
use Rattle.checks.specs.Checks.{Check, ◌gives◌, first_met}
use Rattle.checks.specs.Claims.{InRange}
use Rattle.checks.specs.Parameters.{parameter_checks}
use Rattle.blocks.specs.Blocks.{block_of}
use Rattle.lists.specs.Lists.{some_outside, rises, list_checks, is_in}
use Rattle.boxes.specs.Box.{family_in, k_in, block_length_in, held_count_in, zeros_in, names_in, bodies_in, node_count_in, box_length, box_checks, body_checks, body_of}
use Rattle.boxes.specs.Bodies.{box_of, with_bodies}

-- ---- a box

-- a box that is as document 01 says
pub record AcceptedBox (bytes : List ℕ) : Type 0 where
  -- family, k and L are in range, and bytes 5 to 7 are zero
  pub range : InRange (family_in bytes) (k_in bytes) (block_length_in bytes)
  pub zeros : zeros_in bytes ≡ true
  -- the length is 8 + E + E × L, and E is at most n
  pub size : length bytes ≡ box_length (held_count_in bytes) (block_length_in bytes)
  pub few_held : held_count_in bytes ≤ node_count_in bytes
  -- the node numbers are 1 to n, and strictly rise
  pub nodes : some_outside (node_count_in bytes) (names_in bytes) ≡ false
  pub rising : rises (names_in bytes) ≡ true
  -- the numbers of nodes and of bodies are both E
  pub names_size : length (names_in bytes) ≡ held_count_in bytes
  pub bodies_size : length (bodies_in bytes) ≡ held_count_in bytes * block_length_in bytes

-- a box is accepted exactly where it is so
abbrev pub BoxClaim : Type 0
BoxClaim = (bytes : List ℕ) → (first_met (box_checks bytes) ≡ 0) ↔ AcceptedBox bytes

-- the first 8 bytes are there, and sound but for E: the box passes 1, 2, 3 and 8
pub record SoundHead (bytes : List ℕ) : Type 0 where
  pub long : 8 ≤ length bytes
  pub range : InRange (family_in bytes) (k_in bytes) (block_length_in bytes)
  pub zeros : zeros_in bytes ≡ true

-- node j is named: it stands at a place among the node numbers
pub record Named (bytes : List ℕ) (j : ℕ) : Type 0 where
  pub place : ℕ
  pub within : place < held_count_in bytes
  pub there : get_or (names_in bytes) place 0 ≡ j

-- ---- what document 02, K12, changed in the order of checks

-- the order before it: under 8 bytes 7, then 1, 2, 3, 8, full length 7, 9, 4, 5
unfoldable pub old_box_checks : List ℕ → List Check
old_box_checks bytes =
    (ltb (length bytes) 8 gives 7)
    ∷ (parameter_checks (family_in bytes) (k_in bytes) (block_length_in bytes)
    ++ ((not (zeros_in bytes) gives 8)
    ∷ (not (eqb (length bytes) (box_length (held_count_in bytes) (block_length_in bytes))) gives 7)
    ∷ (ltb (node_count_in bytes) (held_count_in bytes) gives 9)
    ∷ list_checks (node_count_in bytes) (names_in bytes)))

-- a box that passes 8, and has E above n and the wrong length
pub record Miscounted (bytes : List ℕ) : Type 0 where
  pub head : SoundHead bytes
  pub many : node_count_in bytes < held_count_in bytes
  pub wrong_size : length bytes ≡ box_length (held_count_in bytes) (block_length_in bytes) → ⊥

-- of such a box the new answer is 9 and the old one was 7; of every other they are the same; where they differ it is such a box
pub record Changed (bytes : List ℕ) (new old : ℕ) : Type 0 where
  pub new_there : Miscounted bytes → new ≡ 9
  pub old_there : Miscounted bytes → old ≡ 7
  pub same : (Miscounted bytes → ⊥) → new ≡ old
  pub only : (new ≡ old → ⊥) → Miscounted bytes

-- so for a box checked alone, for a body, whose 4 and 12 come after the box's checks, and for whatever else comes after them
pub record OrderClaims (bytes : List ℕ) : Type 0 where
  pub check : Changed bytes (first_met (box_checks bytes)) (first_met (old_box_checks bytes))
  pub body : (j : ℕ) → Changed bytes (first_met (body_checks bytes j)) (first_met (old_box_checks bytes ++ ((outside 1 (node_count_in bytes) j gives 4) ∷ (not (is_in (names_in bytes) j) gives 12) ∷ [])))
  pub followed : (later : List Check) → Changed bytes (first_met (box_checks bytes ++ later)) (first_met (old_box_checks bytes ++ later))

-- for every box
abbrev pub OrderClaim : Type 0
OrderClaim = (bytes : List ℕ) → OrderClaims bytes

-- ---- the body of a node

-- of the node at place i among the node numbers
pub record BodyClaims (bytes : List ℕ) (i : ℕ) : Type 0 where
  -- it is a node
  pub node : IsNode (family_of (family_in bytes)) (k_in bytes) (get_or (names_in bytes) i 0)
  -- its body is not refused, and is L bytes
  pub given : first_met (body_checks bytes (get_or (names_in bytes) i 0)) ≡ 0
  pub size : length (body_of bytes (get_or (names_in bytes) i 0)) ≡ block_length_in bytes
  -- it is what a read puts in the node's place
  pub read : (nodes : List ℕ) → length nodes ≡ node_count_in bytes * block_length_in bytes
      → block_of (block_length_in bytes) (with_bodies (block_length_in bytes) nodes (names_in bytes) (bodies_in bytes)) (get_or (names_in bytes) i 0)
      ≡ body_of bytes (get_or (names_in bytes) i 0)

-- for every accepted box and each of its named nodes
abbrev pub BodyClaim : Type 0
BodyClaim = (bytes : List ℕ) → first_met (box_checks bytes) ≡ 0 → (i : ℕ) → i < held_count_in bytes → BodyClaims bytes i

-- in the box of a list of nodes, where it is accepted, the body of each is that node's block
abbrev pub BoxOfBodyClaim : Type 0
BoxOfBodyClaim = (family k L : ℕ) (list nodes : List ℕ) → first_met (box_checks (box_of family k L list nodes)) ≡ 0
    → length nodes ≡ node_count (family_of family) k * L → (i : ℕ) → i < length list
    → body_of (box_of family k L list nodes) (get_or list i 0) ≡ block_of L nodes (get_or list i 0)
