-- Node lists and marks (document 01, "The session"): a list holds node numbers, and marks say of each number which is live.
use Rattle.std.specs.Prelude.{ℕ, suc, Bool, true, false, cond, not, ◌&&◌, ◌||◌, List, [], ◌∷◌, length, get_or, set, replicate, eqb, ltb}
use Rattle.base.specs.Ranges.{those_from, outside}
use Rattle.checks.specs.Checks.{Check, ◌gives◌}

-- a node number of the list is 0 or above n
unfoldable pub some_outside : ℕ → List ℕ → Bool
some_outside n [] = false
some_outside n (j ∷ list) = outside 1 n j || some_outside n list

-- the list strictly rises
unfoldable pub rises : List ℕ → Bool
rises [] = true
rises (i ∷ []) = true
rises (i ∷ j ∷ list) = ltb i j && rises (j ∷ list)

-- the checks of a node list: 4 over the whole list, 5
abbrev pub list_checks : ℕ → List ℕ → List Check
list_checks n list = (some_outside n list gives 4) ∷ (not (rises list) gives 5) ∷ []

-- the place of a number in a list, from 0; past the end where it is not there
unfoldable pub place_in : List ℕ → ℕ → ℕ
place_in [] j = 0
place_in (i ∷ list) j = cond (eqb i j) 0 (suc (place_in list j))

-- a number is in a list
abbrev pub is_in : List ℕ → ℕ → Bool
is_in list j = ltb (place_in list j) (length list)

-- a mark for each of the numbers 0 to 255, every one missing
abbrev pub none_live : List Bool
none_live = replicate 256 false

-- the mark of a number: live or missing
abbrev pub is_live : List Bool → ℕ → Bool
is_live marks j = get_or marks j false

-- the marks with the nodes of a list set live
unfoldable pub set_live : List Bool → List ℕ → List Bool
set_live marks [] = marks
set_live marks (j ∷ list) = set_live (set marks j true) list

-- a node of the list is missing
unfoldable pub some_missing : List Bool → List ℕ → Bool
some_missing marks [] = false
some_missing marks (j ∷ list) = not (is_live marks j) || some_missing marks list

-- one of the numbers 0 to 255 that pass a test is 0 or above n
unfoldable pub passes_outside : ℕ → (ℕ → Bool) → Bool
passes_outside n test = some_outside n (those_from test 0 256)

-- a mark for 0 or above n is live
abbrev pub live_outside : ℕ → List Bool → Bool
live_outside n marks = passes_outside n (is_live marks)

-- the live nodes of 1 to n
abbrev pub live_nodes : List Bool → ℕ → List ℕ
live_nodes marks n = those_from (is_live marks) 1 n

-- the missing nodes of 1 to n
abbrev pub missing_nodes : List Bool → ℕ → List ℕ
missing_nodes marks n = those_from (λ j. not (is_live marks j)) 1 n
