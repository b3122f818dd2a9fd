-- What the refiller writes (document 01, "Two programs"): it runs the plan and writes the box of all live nodes.
use Rattle.std.specs.Prelude.{ℕ, ◌*◌, cond, List, ltb, replicate}
use Rattle.boxes.specs.Box.{block_length_in, node_count_in, box_length}
use Rattle.boxes.specs.Bodies.{box_of}
use Rattle.repair.specs.declared.Session.{Session}
use Rattle.repair.specs.Boxed.{checked_box, nodes_read}
use Rattle.repair.specs.LiveNodes.{live_nodes_of}
use Rattle.repair.specs.Repairs.{ran, nodes_ran}
use Rattle.listing.specs.Text.{too_long_line}
use Rattle.listing.specs.Listing.{most_bytes, answer_of}

-- the session whose live nodes are written: the one after the run
abbrev pub after_run : Session → List ℕ → Session
after_run s nodes = (ran s nodes).session

-- the plan of a session run on a nodes buffer, and the box of all live nodes then
unfoldable pub box_after_run : Session → List ℕ → List ℕ
box_after_run s nodes = let next = after_run s nodes in box_of next.family next.k next.len (live_nodes_of next) (nodes_ran s nodes)

-- the box read into a nodes buffer, in which the places of missing nodes are zeros
unfoldable pub nodes_given : List ℕ → List ℕ
nodes_given input = nodes_read input (replicate (node_count_in input * block_length_in input) 0)

-- what the refiller writes: `too long` where the box of all n nodes would be above 65,536 bytes
unfoldable pub refilled_of : List ℕ → List ℕ
refilled_of input =
    answer_of input
    (cond (ltb most_bytes (box_length (node_count_in input) (block_length_in input))) too_long_line (box_after_run (checked_box input).session (nodes_given input)))
