-- For inner functions: the place of each number in a list, marks turned round, and a list without one of its numbers.
use Rattle.std.specs.Prelude.{ℕ, suc, Bool, cond, not, List, ◌++◌, take, drop}
use Rattle.base.specs.Ranges.{list_from}
use Rattle.lists.specs.Lists.{place_in, is_in, is_live}

-- of each of the numbers 0 to 255 its place in a list, from 1; 0 where it is not there
unfoldable pub places_of : List ℕ → List ℕ
places_of list = list_from (λ j. cond (is_in list j) (suc (place_in list j)) 0) 0 256

-- the marks of 0 to 255 turned round: missing for live, and live for missing
unfoldable pub turned_round : List Bool → List Bool
turned_round marks = list_from (λ j. not (is_live marks j)) 0 256

-- a list without the number at a place
abbrev pub without_place : ℕ → List ℕ → List ℕ
without_place place list = take place list ++ drop (suc place) list
