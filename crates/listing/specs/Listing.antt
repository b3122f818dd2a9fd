-- What the programs print of an input that is turned away, and what the lister prints (document 01, "Two programs").
use Rattle.std.specs.Prelude.{ℕ, Result, Ok, Err, cond, eqb, ltb, length}
use mathlib.Core.List.{List, ◌++◌, flat_map}
use Rattle.lists.specs.Lists.{live_nodes}
use Rattle.repair.specs.declared.Session.{Session}
use Rattle.repair.specs.Session.{node_count_of}
use Rattle.repair.specs.Boxed.{checked_box}
use Rattle.repair.specs.Repairs.{plan_in, repairs_of}
use Rattle.listing.specs.Text.{first_line, step_line, last_line, refusal_line, too_long_line}

-- the most bytes that an input may have, and a box that is written
abbrev pub most_bytes : ℕ
most_bytes = 65536

-- a longer input prints `too long`, a refused one `refused` and its number; any other the text that is asked for
unfoldable pub answer_of : List ℕ → List ℕ → List ℕ
answer_of input text =
    let number = (checked_box input).refusal in
    cond (ltb most_bytes (length input)) too_long_line (cond (eqb number 0) text (refusal_line number))

-- how long that is, 0 where the input is accepted
abbrev pub said_in : Result Session ℕ → ℕ
said_in (Ok s) = 0
said_in (Err said) = said

-- a first line with family, k, length and live count, a line for each step of the plan, and a last line with its steps,
-- rounds and nodes left
unfoldable pub listing_in : Session → List ℕ
listing_in s =
    first_line s.family s.k s.len (length (live_nodes s.live (node_count_of s)))
    ++ (flat_map step_line (plan_in s)
    ++ last_line (repairs_of s s).steps (repairs_of s s).rounds (repairs_of s s).left)

-- what the lister prints
unfoldable pub listing_of : List ℕ → List ℕ
listing_of input = answer_of input (listing_in (checked_box input).session)
