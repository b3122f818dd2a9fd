-- The box (document 01, "The box"): its fields, and the order of its checks.
use Rattle.std.specs.Prelude.{ℕ, ◌+◌, ◌*◌, Bool, not, ◌&&◌, List, [], ◌∷◌, ◌++◌, length, get_or, take, drop, eqb, ltb}
use Rattle.families.specs.Families.{family_of, node_count}
use Rattle.checks.specs.Checks.{Check, ◌gives◌, afterwards}
use Rattle.base.specs.Ranges.{outside}
use Rattle.checks.specs.Parameters.{parameter_checks}
use Rattle.lists.specs.Lists.{list_checks, place_in, is_in}

-- byte 0: family. Byte 1: k. Bytes 2 to 3: L, the low byte first. Byte 4: E, the number of nodes held
abbrev pub family_in : List ℕ → ℕ
family_in bytes = get_or bytes 0 0

abbrev pub k_in : List ℕ → ℕ
k_in bytes = get_or bytes 1 0

abbrev pub block_length_in : List ℕ → ℕ
block_length_in bytes = get_or bytes 2 0 + get_or bytes 3 0 * 256

abbrev pub held_count_in : List ℕ → ℕ
held_count_in bytes = get_or bytes 4 0

-- bytes 5 to 7 are zero
abbrev pub zeros_in : List ℕ → Bool
zeros_in bytes = eqb (get_or bytes 5 0) 0 && (eqb (get_or bytes 6 0) 0 && eqb (get_or bytes 7 0) 0)

-- then E bytes, the node numbers
abbrev pub names_in : List ℕ → List ℕ
names_in bytes = take (held_count_in bytes) (drop 8 bytes)

-- then E bodies of L bytes in that order
abbrev pub bodies_in : List ℕ → List ℕ
bodies_in bytes = drop (8 + held_count_in bytes) bytes

-- the length is exactly 8 + E + E × L
abbrev pub box_length : ℕ → ℕ → ℕ
box_length E L = 8 + E + E * L

-- n of the box's family and k
abbrev pub node_count_in : List ℕ → ℕ
node_count_in bytes = node_count (family_of (family_in bytes)) (k_in bytes)

-- of the page of contents 8, 9, full length 7, 4, 5 (document 02, K12)
abbrev pub page_checks : List ℕ → List Check
page_checks bytes =
    (not (zeros_in bytes) gives 8)
    ∷ (ltb (node_count_in bytes) (held_count_in bytes) gives 9)
    ∷ (not (eqb (length bytes) (box_length (held_count_in bytes) (block_length_in bytes))) gives 7)
    ∷ list_checks (node_count_in bytes) (names_in bytes)

-- under 8 bytes 7, then 1, 2, 3, then those of the page
unfoldable pub box_checks : List ℕ → List Check
box_checks bytes = (ltb (length bytes) 8 gives 7) ∷ (parameter_checks (family_in bytes) (k_in bytes) (block_length_in bytes) ++ page_checks bytes)

-- for a body: the box's checks, then 4 and 12
unfoldable pub body_checks : List ℕ → ℕ → List Check
body_checks bytes j = box_checks bytes ++ ((outside 1 (node_count_in bytes) j gives 4) ∷ (not (is_in (names_in bytes) j) gives 12) ∷ [])

-- the place of node j's body among the bodies, from 0: that of its number among the node numbers
abbrev pub body_place : List ℕ → ℕ → ℕ
body_place names j = place_in names j

-- where the body of node j begins: after the node numbers, at its place among the bodies
abbrev pub body_start : List ℕ → ℕ → ℕ
body_start bytes j = 8 + held_count_in bytes + body_place (names_in bytes) j * block_length_in bytes

-- the body of node j: the L bytes from there; empty where it is refused
unfoldable pub body_of : List ℕ → ℕ → List ℕ
body_of bytes j = afterwards (body_checks bytes j) (take (block_length_in bytes) (drop (body_start bytes j) bytes)) []
