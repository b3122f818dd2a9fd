-- The lettered examples of document 01, the box that it shows, document 000's examples 2.1 and 3.1, interleaved objects, pairs of
-- nodes, plans made elsewhere, and sessions by their counts, rows of one table under one statement.
use Rattle.std.specs.Prelude.{◌≡◌, not, List, [], ◌∷◌, ◌++◌, ℕ, suc, ◌-◌, ◌*◌, ◌/◌, ◌≤◌, length, get_or, drop, replicate}
use Prim.Native.String.{String}
use Rattle.base.specs.Ranges.{those_from}
use Rattle.lists.specs.Lists.{is_in, none_live, set_live}
use Rattle.families.specs.Families.{family_of}
use Rattle.checks.specs.Checks.{first_met}
use Rattle.checks.specs.Parameters.{most_l}
use Rattle.encoding.specs.Encode.{encode_answer, encoded}
use Rattle.interleaving.specs.Interleaved.{interleaved, deinterleaved, interleave_answer, out_moved}
use Rattle.planning.specs.Plan.{step_bytes}
use Rattle.planning.specs.Made.{nodes_made, steps_in}
use Rattle.waves.specs.Waves.{waves_of, most_waves}
use Rattle.boxes.specs.Box.{block_length_in, node_count_in, body_checks, body_start, body_of}
use Rattle.conversion.specs.Converted.{from_graded, to_graded, converted, out_converted}
use Rattle.repair.specs.declared.Session.{Session}
use Rattle.repair.specs.Session.{session_of, accepted_start, started, node_count_of}
use Rattle.repair.specs.Boxed.{checked_box, read_box, nodes_read, written, out_written}
use Rattle.repair.specs.LiveNodes.{live_listed, out_listed}
use Rattle.repair.specs.Step.{stepped, nodes_stepped}
use Rattle.repair.specs.Pairs.{pairs_found}
use Rattle.repair.specs.Repairs.{planned, out_planned, ran, nodes_ran}
use Rattle.repair.specs.Carry.{plan_checked}
use Rattle.repair.specs.Refusals.{Thirteen, NotThirteen}
use Rattle.repair.specs.Reads.{NotReached}
use Rattle.listing.specs.Text.{ascii}
use Rattle.listing.specs.Listing.{listing_of}

-- ---- what a row may say

-- a worked example
pub data Row : Type 0 where
  -- family, k, L, an object, and its nodes
  Encodes : ℕ → ℕ → ℕ → List ℕ → List ℕ → Row
  -- family, k, L, an object, and the object interleaved
  Interleaves : ℕ → ℕ → ℕ → List ℕ → List ℕ → Row
  -- family, k, L and the lengths of two buffers; the number that interleaving from the one to the other gives, and its inverse
  InterleaveGives : ℕ → ℕ → ℕ → ℕ → ℕ → ℕ → Row
  -- family, k and the live nodes; at every L, the plan's steps, four numbers each, its rounds, the nodes left, and how often a run reads
  -- each number, from 0
  Plans : ℕ → ℕ → List ℕ → List ℕ → ℕ → List ℕ → List ℕ → Row
  -- family, k, L, the live nodes and a node; the number that the search for its pair gives, the pair, and how many pairs it has
  Pairs : ℕ → ℕ → ℕ → List ℕ → ℕ → ℕ → ℕ → ℕ → ℕ → Row
  -- family, k, L, the live nodes and a plan made elsewhere; the number that its check gives, and that of its first bad step
  PlanChecks : ℕ → ℕ → ℕ → List ℕ → List ℕ → ℕ → ℕ → Row
  -- family, k and the live nodes; the steps of the waves, four numbers each
  Waves : ℕ → ℕ → List ℕ → List ℕ → Row
  -- two k; from the one to the other, the most waves
  MostWaves : ℕ → ℕ → ℕ → Row
  -- family, k, L and a node list; the number that the start gives
  Starts : ℕ → ℕ → ℕ → List ℕ → ℕ → Row
  -- bytes, and the number that checking them as a box gives
  BoxGives : List ℕ → ℕ → Row
  -- a box and its session; the nodes buffer after reading, where `was j` is the byte j of it before, from 1: node j's, L being 1
  BoxReads : List ℕ → Session → ((ℕ → ℕ) → List ℕ) → Row
  -- a box; a node that it holds, the place in the box where its body begins, and the body
  BoxHolds : List ℕ → ℕ → ℕ → List ℕ → Row
  -- a box; a node, and the number that asking for its body gives
  BoxLacks : List ℕ → ℕ → ℕ → Row
  -- a box; a node and two others; the number that this step gives in the box's session
  BoxSteps : List ℕ → ℕ → ℕ → ℕ → ℕ → Row
  -- a box; a list of its nodes, and the box that is written by it of what was read
  BoxWrites : List ℕ → List ℕ → List ℕ → Row
  -- a box, and the list that is made of its session's live nodes
  BoxNames : List ℕ → List ℕ → Row
  -- a box in graded order, and the same box with our numbers
  Converts : List ℕ → List ℕ → Row
  -- bytes, the length of a destination, and the number that a conversion gives
  ConvertGives : List ℕ → ℕ → ℕ → Row
  -- a box, and what the lister prints of it
  Lists : List ℕ → String → Row
  -- family, k, L, the live nodes, the steps and the reads of each number, from 0: no operation turns that session away with 13
  IsSound : ℕ → ℕ → ℕ → List ℕ → ℕ → List ℕ → Row
  -- every operation turns it away with 13
  TurnedAway : ℕ → ℕ → ℕ → List ℕ → ℕ → List ℕ → Row
  -- no start leads to it, and yet a step is served: the node and two others, and the reads then
  ServedAnyway : ℕ → ℕ → ℕ → List ℕ → ℕ → List ℕ → ℕ → ℕ → ℕ → List ℕ → Row

-- a session with the nodes of a list live, by its steps and the reads of each number from 0, which are 0 beyond those given
abbrev pub session_by : ℕ → ℕ → ℕ → List ℕ → ℕ → List ℕ → Session
session_by family k L list steps reads =
    record { family = family; k = k; len = L; steps = steps; live = set_live none_live list; reads = reads ++ replicate (256 - length reads) 0 }

-- every node but those of a list
abbrev pub all_but : List ℕ → Session → List ℕ
all_but list s = those_from (λ j. not (is_in list j)) 1 (node_count_of s)

-- the plan of a session has these steps and rounds, leaves these nodes, and reads so often
pub record HasPlan (s : Session) (steps : List ℕ) (rounds : ℕ) (left reads : List ℕ) : Type 0 where
  -- plan gives its counts; the session stays
  pub plan_gives : (out : List ℕ) → length steps ≤ length out
      → planned s out ≡ record { refusal = 0; steps = length steps / 4; rounds = rounds; left = length left; session = s }
  -- the destination gets its steps and keeps what is beyond them
  pub plan_writes : (out : List ℕ) → length steps ≤ length out → out_planned s out ≡ steps ++ drop (length steps) out
  -- run gives the same counts; in the next session every node is live but those left, and steps and reads are counted
  pub run_gives : (nodes : List ℕ) → length nodes ≡ node_count_of s * s.len
      → ran s nodes
      ≡ record { refusal = 0; steps = length steps / 4; rounds = rounds; left = length left; session = session_by s.family s.k s.len (all_but left s) (length steps / 4) reads }
  -- the nodes buffer is as these very steps leave it, made one after the other
  pub run_leaves : (nodes : List ℕ) → length nodes ≡ node_count_of s * s.len
      → nodes_ran s nodes ≡ nodes_made s.len nodes (steps_in steps (length steps / 4))

-- this is so of a box's session and every nodes buffer of n × L bytes
abbrev pub InBox : List ℕ → (Session → List ℕ → Type 0) → Type 0
InBox box So = (nodes : List ℕ) → length nodes ≡ node_count_in box * block_length_in box → So (checked_box box).session nodes

-- what an example says
abbrev pub Holds : Row → Type 0
Holds (Encodes family k L object nodes) =
    (buffer : List ℕ) → length buffer ≡ length nodes → (encode_answer family k L object buffer ≡ 0) × (encoded family k L object buffer ≡ nodes)
-- each becomes the other
Holds (Interleaves family k L object other) =
    (out : List ℕ) → length out ≡ length object
    → (interleave_answer family k L object out ≡ 0) × (out_moved interleaved family k L object out ≡ other)
    × (interleave_answer family k L other out ≡ 0) × (out_moved deinterleaved family k L other out ≡ object)
-- nothing is written
Holds (InterleaveGives family k L size room number) =
    (bytes out : List ℕ) → length bytes ≡ size → length out ≡ room
    → (interleave_answer family k L bytes out ≡ number) × (out_moved interleaved family k L bytes out ≡ out) × (out_moved deinterleaved family k L bytes out ≡ out)
Holds (Plans family k list steps rounds left reads) =
    (L : ℕ) → 1 ≤ L → L ≤ most_l
    → (started family k L list ≡ accepted_start (session_of family k L list)) × HasPlan (session_of family k L list) steps rounds left reads
-- the session stays
Holds (Pairs family k L list j number smaller larger count) =
    let s = session_of family k L list in pairs_found s j ≡ record { refusal = number; smaller = smaller; larger = larger; count = count; session = s }
Holds (PlanChecks family k L list plan number bad) =
    let s = session_of family k L list in plan_checked s plan ≡ record { refusal = number; bad = bad; session = s }
Holds (Waves family k list steps) = step_bytes (waves_of (family_of family) k (set_live none_live list)) ≡ steps
Holds (MostWaves least most waves) = (k : ℕ) → least ≤ k → k ≤ most → most_waves k ≡ waves
Holds (Starts family k L list number) = (started family k L list).refusal ≡ number
Holds (BoxGives bytes number) = (checked_box bytes).refusal ≡ number
Holds (BoxReads box s after) =
    (checked_box box ≡ accepted_start s) × InBox box (λ given nodes. (read_box box nodes ≡ accepted_start s) × (nodes_read box nodes ≡ after (λ j. get_or nodes (j - 1) 0)))
Holds (BoxHolds box j start body) = (first_met (body_checks box j) ≡ 0) × (body_start box j ≡ start) × (body_of box j ≡ body)
Holds (BoxLacks box j number) = (first_met (body_checks box j) ≡ number) × (body_of box j ≡ [])
-- session and nodes buffer stay
Holds (BoxSteps box j a b number) = InBox box (λ s nodes. (stepped s nodes j a b ≡ record { refusal = number; session = s }) × (nodes_stepped s nodes j a b ≡ nodes))
-- the length is returned, and beyond it the destination keeps what was there
Holds (BoxWrites box list other) =
    InBox box (λ s nodes. (out : List ℕ) → length other ≤ length out
    → (written s (nodes_read box nodes) list out ≡ record { refusal = 0; length = length other; session = s })
    × (out_written s (nodes_read box nodes) list out ≡ other ++ drop (length other) out))
Holds (BoxNames box list) =
    (out : List ℕ) → length list ≤ length out
    → (live_listed (checked_box box).session out ≡ record { refusal = 0; length = length list; session = (checked_box box).session })
    × (out_listed (checked_box box).session out ≡ list ++ drop (length list) out)
-- each becomes the other; the length is returned, and beyond it the destination keeps what was there
Holds (Converts theirs ours) =
    (out : List ℕ) → length theirs ≤ length out
    → (converted theirs out ≡ record { refusal = 0; length = length theirs }) × (out_converted from_graded theirs out ≡ ours ++ drop (length theirs) out)
    × (converted ours out ≡ record { refusal = 0; length = length ours }) × (out_converted to_graded ours out ≡ theirs ++ drop (length theirs) out)
-- with it comes 0, and nothing is written, in either direction
Holds (ConvertGives bytes room number) =
    (out : List ℕ) → length out ≡ room
    → (converted bytes out ≡ record { refusal = number; length = 0 }) × (out_converted from_graded bytes out ≡ out) × (out_converted to_graded bytes out ≡ out)
Holds (Lists box text) = listing_of box ≡ ascii text
Holds (IsSound family k L list steps reads) = NotThirteen (session_by family k L list steps reads)
Holds (TurnedAway family k L list steps reads) = Thirteen (session_by family k L list steps reads)
-- the node is live then, and one step more is counted
Holds (ServedAnyway family k L list steps reads j a b more) =
    let s = session_by family k L list steps reads in
    NotReached s
    × ((nodes : List ℕ) → length nodes ≡ node_count_of s * L
    → stepped s nodes j a b ≡ record { refusal = 0; session = session_by family k L (list ++ (j ∷ [])) (suc steps) more })

-- this is so of every row of a table
abbrev pub Every : (Row → Type 0) → List Row → Type 0
Every So [] = Unit {0}
Every So (row ∷ rows) = So row × Every So rows

-- ---- the rows

-- document 01's box: 01 03 01 00 03 00 00 00 04 05 07 04 05 07
abbrev pub sample_box : List ℕ
sample_box = 1 ∷ 3 ∷ 1 ∷ 0 ∷ 3 ∷ 0 ∷ 0 ∷ 0 ∷ 4 ∷ 5 ∷ 7 ∷ 4 ∷ 5 ∷ 7 ∷ []

-- a box of no node, of the same family, k and L
abbrev pub empty_box : List ℕ
empty_box = 1 ∷ 3 ∷ 1 ∷ 0 ∷ 0 ∷ 0 ∷ 0 ∷ 0 ∷ []

-- the table
abbrev pub table : List Row
table =
    -- a. Simplex 3, L 1, object 1, 2, 4: node j holds j
    Encodes 1 3 1 (1 ∷ 2 ∷ 4 ∷ []) (1 ∷ 2 ∷ 3 ∷ 4 ∷ 5 ∷ 6 ∷ 7 ∷ [])
    -- b. The box above: its session; its bodies read into a nodes buffer, places of missing nodes keeping their bytes
    ∷ BoxReads sample_box (session_of 1 3 1 (4 ∷ 5 ∷ 7 ∷ [])) (λ was. was 1 ∷ was 2 ∷ was 3 ∷ 4 ∷ 5 ∷ was 6 ∷ 7 ∷ [])
    -- b. Its plan by document 02, K11, at every L
    ∷ Plans 1 3 (4 ∷ 5 ∷ 7 ∷ []) (1 ∷ 1 ∷ 4 ∷ 5 ∷ 2 ∷ 2 ∷ 5 ∷ 7 ∷ 3 ∷ 3 ∷ 1 ∷ 2 ∷ 4 ∷ 6 ∷ 1 ∷ 7 ∷ []) 4 [] (0 ∷ 2 ∷ 1 ∷ 0 ∷ 1 ∷ 2 ∷ 0 ∷ 2 ∷ [])
    -- c. Simplex 2, live 1: steps 0, rounds 0, left 2
    ∷ Plans 1 2 (1 ∷ []) [] 0 (2 ∷ 3 ∷ []) []
    -- d. Simplex 3, live 1, 2, 4: steps 4, rounds 4, left 0
    ∷ Plans 1 3 (1 ∷ 2 ∷ 4 ∷ []) (1 ∷ 3 ∷ 1 ∷ 2 ∷ 2 ∷ 5 ∷ 1 ∷ 4 ∷ 3 ∷ 6 ∷ 2 ∷ 4 ∷ 4 ∷ 7 ∷ 1 ∷ 6 ∷ []) 4 [] (0 ∷ 3 ∷ 2 ∷ 0 ∷ 2 ∷ 0 ∷ 1 ∷ [])
    -- e. Weight-two 3, live 4, 6: step 1 5 4 6, left 3 (nodes 1, 2, 3)
    ∷ Plans 2 3 (4 ∷ 6 ∷ []) (1 ∷ 5 ∷ 4 ∷ 6 ∷ []) 1 (1 ∷ 2 ∷ 3 ∷ []) (0 ∷ 0 ∷ 0 ∷ 0 ∷ 1 ∷ 0 ∷ 1 ∷ [])
    -- f. Weight-two 3, live 1, 4, 6: steps 3, rounds 3, left 0; node 3 comes from 2 and 6
    ∷ Plans 2 3 (1 ∷ 4 ∷ 6 ∷ []) (1 ∷ 2 ∷ 1 ∷ 4 ∷ 2 ∷ 3 ∷ 2 ∷ 6 ∷ 3 ∷ 5 ∷ 1 ∷ 3 ∷ []) 3 [] (0 ∷ 2 ∷ 1 ∷ 1 ∷ 1 ∷ 0 ∷ 1 ∷ [])
    -- g. Tetrahedron, live 1, 2, 3, 4: steps 10, rounds 4, left 0
    ∷ Plans 3 4 (1 ∷ 2 ∷ 3 ∷ 4 ∷ []) (1 ∷ 5 ∷ 1 ∷ 3 ∷ 1 ∷ 9 ∷ 2 ∷ 4 ∷ 2 ∷ 6 ∷ 1 ∷ 2 ∷ 2 ∷ 10 ∷ 3 ∷ 4 ∷ 3 ∷ 7 ∷ 2 ∷ 3 ∷ 3 ∷ 12 ∷ 1 ∷ 4 ∷ 4 ∷ 8 ∷ 1 ∷ 7 ∷ 4 ∷ 11 ∷ 2 ∷ 10 ∷ 4 ∷ 13 ∷ 4 ∷ 6 ∷ 4 ∷ 14 ∷ 3 ∷ 12 ∷ []) 4 [] (0 ∷ 4 ∷ 4 ∷ 4 ∷ 4 ∷ 0 ∷ 1 ∷ 1 ∷ 0 ∷ 0 ∷ 1 ∷ 0 ∷ 1 ∷ [])
    -- h. Tetrahedron, live 4, 8: steps 0, left 12
    ∷ Plans 3 4 (4 ∷ 8 ∷ []) [] 0 (1 ∷ 2 ∷ 3 ∷ 5 ∷ 6 ∷ 7 ∷ 9 ∷ 10 ∷ 11 ∷ 12 ∷ 13 ∷ 14 ∷ []) []
    -- i. In b's session: step 6 from 1, 7 gives 12; 4 from 1, 5 gives 11; 1 from 4, 7 gives 10
    ∷ BoxSteps sample_box 6 1 7 12
    ∷ BoxSteps sample_box 4 1 5 11
    ∷ BoxSteps sample_box 1 4 7 10
    -- j. Simplex 3, none live: steps 0, rounds 0, left 7; all live: left 0, rounds 0
    ∷ Plans 1 3 [] [] 0 (1 ∷ 2 ∷ 3 ∷ 4 ∷ 5 ∷ 6 ∷ 7 ∷ []) []
    ∷ Plans 1 3 (1 ∷ 2 ∷ 3 ∷ 4 ∷ 5 ∷ 6 ∷ 7 ∷ []) [] 0 [] []
    -- In b's session (document 02, K4): node 1 has the pair 4, 5 alone, node 6 none, and node 4, which is live, none
    ∷ Pairs 1 3 1 (4 ∷ 5 ∷ 7 ∷ []) 1 0 4 5 1
    ∷ Pairs 1 3 1 (4 ∷ 5 ∷ 7 ∷ []) 6 0 0 0 0
    ∷ Pairs 1 3 1 (4 ∷ 5 ∷ 7 ∷ []) 4 0 0 0 0
    -- In b's session (document 02, K10), plans made elsewhere: K11's own is accepted, one with other pairs too, and an empty one
    ∷ PlanChecks 1 3 1 (4 ∷ 5 ∷ 7 ∷ []) (1 ∷ 1 ∷ 4 ∷ 5 ∷ 2 ∷ 2 ∷ 5 ∷ 7 ∷ 3 ∷ 3 ∷ 1 ∷ 2 ∷ 4 ∷ 6 ∷ 1 ∷ 7 ∷ []) 0 0
    ∷ PlanChecks 1 3 1 (4 ∷ 5 ∷ 7 ∷ []) (1 ∷ 3 ∷ 4 ∷ 7 ∷ 2 ∷ 1 ∷ 4 ∷ 5 ∷ 3 ∷ 2 ∷ 1 ∷ 3 ∷ 4 ∷ 6 ∷ 3 ∷ 5 ∷ []) 0 0
    ∷ PlanChecks 1 3 1 (4 ∷ 5 ∷ 7 ∷ []) [] 0 0
    -- of document 01's the second step reads node 5 again; a node repaired in the round serves; rounds skip one, fall, begin at 0, begin at 2
    ∷ PlanChecks 1 3 1 (4 ∷ 5 ∷ 7 ∷ []) (1 ∷ 1 ∷ 4 ∷ 5 ∷ 1 ∷ 2 ∷ 5 ∷ 7 ∷ []) 0 2
    ∷ PlanChecks 1 3 1 (4 ∷ 5 ∷ 7 ∷ []) (1 ∷ 1 ∷ 4 ∷ 5 ∷ 1 ∷ 6 ∷ 1 ∷ 7 ∷ []) 0 2
    ∷ PlanChecks 1 3 1 (4 ∷ 5 ∷ 7 ∷ []) (1 ∷ 1 ∷ 4 ∷ 5 ∷ 3 ∷ 2 ∷ 5 ∷ 7 ∷ []) 0 2
    ∷ PlanChecks 1 3 1 (4 ∷ 5 ∷ 7 ∷ []) (1 ∷ 1 ∷ 4 ∷ 5 ∷ 2 ∷ 2 ∷ 5 ∷ 7 ∷ 1 ∷ 3 ∷ 1 ∷ 2 ∷ []) 0 3
    ∷ PlanChecks 1 3 1 (4 ∷ 5 ∷ 7 ∷ []) (0 ∷ 1 ∷ 4 ∷ 5 ∷ []) 0 1
    ∷ PlanChecks 1 3 1 (4 ∷ 5 ∷ 7 ∷ []) (2 ∷ 1 ∷ 4 ∷ 5 ∷ []) 0 1
    -- the larger node first; node 8; the last of four steps with a pair that is not related; node 1 already live, or repaired by the step
    -- before
    ∷ PlanChecks 1 3 1 (4 ∷ 5 ∷ 7 ∷ []) (1 ∷ 1 ∷ 5 ∷ 4 ∷ []) 0 1
    ∷ PlanChecks 1 3 1 (4 ∷ 5 ∷ 7 ∷ []) (1 ∷ 8 ∷ 4 ∷ 5 ∷ []) 0 1
    ∷ PlanChecks 1 3 1 (4 ∷ 5 ∷ 7 ∷ []) (1 ∷ 1 ∷ 4 ∷ 5 ∷ 2 ∷ 2 ∷ 5 ∷ 7 ∷ 3 ∷ 3 ∷ 1 ∷ 2 ∷ 4 ∷ 6 ∷ 1 ∷ 2 ∷ []) 0 4
    ∷ PlanChecks 1 3 1 (1 ∷ 4 ∷ 5 ∷ 7 ∷ []) (1 ∷ 1 ∷ 4 ∷ 5 ∷ []) 0 1
    ∷ PlanChecks 1 3 1 (4 ∷ 5 ∷ 7 ∷ []) (1 ∷ 1 ∷ 4 ∷ 5 ∷ 2 ∷ 1 ∷ 4 ∷ 5 ∷ []) 0 2
    -- in simplex 4 two steps of one round, which need not rise by node; and a round that falls, with nothing else against it
    ∷ PlanChecks 1 4 1 (1 ∷ 2 ∷ 4 ∷ 8 ∷ []) (1 ∷ 12 ∷ 4 ∷ 8 ∷ 1 ∷ 3 ∷ 1 ∷ 2 ∷ []) 0 0
    ∷ PlanChecks 1 4 1 (1 ∷ 2 ∷ 4 ∷ 8 ∷ []) (1 ∷ 3 ∷ 1 ∷ 2 ∷ 2 ∷ 5 ∷ 1 ∷ 4 ∷ 1 ∷ 12 ∷ 4 ∷ 8 ∷ []) 0 3
    -- five bytes give 6, and with L 0 the session 13 before it
    ∷ PlanChecks 1 3 1 (4 ∷ 5 ∷ 7 ∷ []) (1 ∷ 1 ∷ 4 ∷ 5 ∷ 2 ∷ []) 6 0
    ∷ PlanChecks 1 3 0 (4 ∷ 5 ∷ 7 ∷ []) (1 ∷ 1 ∷ 4 ∷ 5 ∷ 2 ∷ []) 13 0
    -- With all nodes live there are (n − 1)/2 in simplex, k − 1 in weight-two, 6 in the tetrahedron; one is lost with node 3
    ∷ Pairs 1 3 1 (1 ∷ 2 ∷ 3 ∷ 4 ∷ 5 ∷ 6 ∷ 7 ∷ []) 5 0 1 4 3
    ∷ Pairs 1 3 1 (1 ∷ 2 ∷ 4 ∷ 5 ∷ 6 ∷ 7 ∷ []) 5 0 1 4 2
    ∷ Pairs 2 4 1 (1 ∷ 2 ∷ 3 ∷ 4 ∷ 5 ∷ 6 ∷ 7 ∷ 8 ∷ 9 ∷ 10 ∷ []) 8 0 2 3 3
    ∷ Pairs 3 4 1 (1 ∷ 2 ∷ 3 ∷ 4 ∷ 5 ∷ 6 ∷ 7 ∷ 8 ∷ 9 ∷ 10 ∷ 11 ∷ 12 ∷ 13 ∷ 14 ∷ []) 1 0 2 6 6
    -- 0 and 8 are no nodes of simplex 3
    ∷ Pairs 1 3 1 (4 ∷ 5 ∷ 7 ∷ []) 0 4 0 0 0
    ∷ Pairs 1 3 1 (4 ∷ 5 ∷ 7 ∷ []) 8 4 0 0 0
    -- At most 1 for k = 2, 2 for 3 and 4, 3 for 5 to 8, 4 for 9 to 16, 5 for 17 to 22 (document 02, K9); a chain of k nodes, weight-two 5
    -- with 1, 6, 10, 13 and 15 live, has so many
    ∷ MostWaves 2 2 1
    ∷ MostWaves 3 4 2
    ∷ MostWaves 5 8 3
    ∷ MostWaves 9 16 4
    ∷ MostWaves 17 22 5
    ∷ Waves 2 5 (1 ∷ 6 ∷ 10 ∷ 13 ∷ 15 ∷ []) (1 ∷ 2 ∷ 1 ∷ 6 ∷ 1 ∷ 7 ∷ 6 ∷ 10 ∷ 1 ∷ 11 ∷ 10 ∷ 13 ∷ 1 ∷ 14 ∷ 13 ∷ 15 ∷ 2 ∷ 3 ∷ 1 ∷ 7 ∷ 2 ∷ 4 ∷ 2 ∷ 11 ∷ 2 ∷ 8 ∷ 6 ∷ 11 ∷ 2 ∷ 9 ∷ 7 ∷ 14 ∷ 2 ∷ 12 ∷ 10 ∷ 14 ∷ 3 ∷ 5 ∷ 1 ∷ 9 ∷ [])
    -- the waves of b, d, f and g: document 01's rounds
    ∷ Waves 1 3 (4 ∷ 5 ∷ 7 ∷ []) (1 ∷ 1 ∷ 4 ∷ 5 ∷ 1 ∷ 2 ∷ 5 ∷ 7 ∷ 1 ∷ 3 ∷ 4 ∷ 7 ∷ 2 ∷ 6 ∷ 1 ∷ 7 ∷ [])
    ∷ Waves 1 3 (1 ∷ 2 ∷ 4 ∷ []) (1 ∷ 3 ∷ 1 ∷ 2 ∷ 1 ∷ 5 ∷ 1 ∷ 4 ∷ 1 ∷ 6 ∷ 2 ∷ 4 ∷ 2 ∷ 7 ∷ 1 ∷ 6 ∷ [])
    ∷ Waves 2 3 (1 ∷ 4 ∷ 6 ∷ []) (1 ∷ 2 ∷ 1 ∷ 4 ∷ 1 ∷ 5 ∷ 4 ∷ 6 ∷ 2 ∷ 3 ∷ 1 ∷ 5 ∷ [])
    ∷ Waves 3 4 (1 ∷ 2 ∷ 3 ∷ 4 ∷ []) (1 ∷ 5 ∷ 1 ∷ 3 ∷ 1 ∷ 6 ∷ 1 ∷ 2 ∷ 1 ∷ 7 ∷ 2 ∷ 3 ∷ 1 ∷ 9 ∷ 2 ∷ 4 ∷ 1 ∷ 10 ∷ 3 ∷ 4 ∷ 1 ∷ 12 ∷ 1 ∷ 4 ∷ 2 ∷ 8 ∷ 1 ∷ 7 ∷ 2 ∷ 11 ∷ 2 ∷ 10 ∷ 2 ∷ 13 ∷ 1 ∷ 9 ∷ 2 ∷ 14 ∷ 1 ∷ 10 ∷ [])
    -- and the plan of the chain
    ∷ Plans 2 5 (1 ∷ 6 ∷ 10 ∷ 13 ∷ 15 ∷ []) (1 ∷ 2 ∷ 1 ∷ 6 ∷ 1 ∷ 11 ∷ 10 ∷ 13 ∷ 2 ∷ 3 ∷ 2 ∷ 10 ∷ 2 ∷ 8 ∷ 6 ∷ 11 ∷ 2 ∷ 14 ∷ 13 ∷ 15 ∷ 3 ∷ 4 ∷ 1 ∷ 8 ∷ 3 ∷ 5 ∷ 3 ∷ 14 ∷ 3 ∷ 7 ∷ 6 ∷ 10 ∷ 3 ∷ 12 ∷ 11 ∷ 15 ∷ 4 ∷ 9 ∷ 1 ∷ 5 ∷ []) 4 [] (0 ∷ 3 ∷ 1 ∷ 1 ∷ 0 ∷ 1 ∷ 3 ∷ 0 ∷ 1 ∷ 0 ∷ 3 ∷ 2 ∷ 0 ∷ 2 ∷ 1 ∷ 2 ∷ [])
    -- From the box above, the body of node 5 is the part at byte 12; that of node 6, which is missing, gives 12 and an empty part
    ∷ BoxHolds sample_box 5 12 (5 ∷ [])
    ∷ BoxLacks sample_box 6 12
    -- What was read from it, written again by the list 4, 5, 7, is the box, by the list 5 the box of node 5 alone, and by an empty
    -- list the box of no node (document 02, K7), which keeps every place when it is read, and its bytes when it is written again
    ∷ BoxWrites sample_box (4 ∷ 5 ∷ 7 ∷ []) sample_box
    ∷ BoxWrites sample_box (5 ∷ []) (1 ∷ 3 ∷ 1 ∷ 0 ∷ 1 ∷ 0 ∷ 0 ∷ 0 ∷ 5 ∷ 5 ∷ [])
    ∷ BoxWrites sample_box [] empty_box
    ∷ BoxReads empty_box (session_of 1 3 1 []) (λ was. was 1 ∷ was 2 ∷ was 3 ∷ was 4 ∷ was 5 ∷ was 6 ∷ was 7 ∷ [])
    ∷ BoxWrites empty_box [] empty_box
    -- The live nodes of either box's session, listed
    ∷ BoxNames sample_box (4 ∷ 5 ∷ 7 ∷ [])
    ∷ BoxNames empty_box []
    -- Document 000's example 2.1 with the object 1, 2, 4: c1 to c7 are 1, 2, 4, 3, 5, 6, 7 (document 02, K1)
    ∷ Converts (1 ∷ 3 ∷ 1 ∷ 0 ∷ 7 ∷ 0 ∷ 0 ∷ 0 ∷ 1 ∷ 2 ∷ 3 ∷ 4 ∷ 5 ∷ 6 ∷ 7 ∷ 1 ∷ 2 ∷ 4 ∷ 3 ∷ 5 ∷ 6 ∷ 7 ∷ [])
    (1 ∷ 3 ∷ 1 ∷ 0 ∷ 7 ∷ 0 ∷ 0 ∷ 0 ∷ 1 ∷ 2 ∷ 3 ∷ 4 ∷ 5 ∷ 6 ∷ 7 ∷ 1 ∷ 2 ∷ 3 ∷ 4 ∷ 5 ∷ 6 ∷ 7 ∷ [])
    -- Its example 3.1, where c3, c5 and c7 are live, is the box above
    ∷ Converts (1 ∷ 3 ∷ 1 ∷ 0 ∷ 3 ∷ 0 ∷ 0 ∷ 0 ∷ 3 ∷ 5 ∷ 7 ∷ 4 ∷ 5 ∷ 7 ∷ []) sample_box
    -- A box of no node stays. Bodies move: positions 4, 5 and 8 of k = 4 are nodes 8, 3 and 6; were lists compared from the back,
    -- position 8 would be node 9
    ∷ Converts empty_box empty_box
    ∷ Converts (1 ∷ 4 ∷ 1 ∷ 0 ∷ 3 ∷ 0 ∷ 0 ∷ 0 ∷ 4 ∷ 5 ∷ 8 ∷ 40 ∷ 50 ∷ 80 ∷ []) (1 ∷ 4 ∷ 1 ∷ 0 ∷ 3 ∷ 0 ∷ 0 ∷ 0 ∷ 3 ∷ 6 ∷ 8 ∷ 50 ∷ 80 ∷ 40 ∷ [])
    -- The box above into a byte too few gives 6; a cut box its own 7 before that; a tetrahedron's gives 1, and before 6
    ∷ ConvertGives sample_box 13 6
    ∷ ConvertGives (1 ∷ 3 ∷ 1 ∷ 0 ∷ 3 ∷ 0 ∷ 0 ∷ 0 ∷ 4 ∷ 5 ∷ 7 ∷ 4 ∷ 5 ∷ []) 0 7
    ∷ ConvertGives (3 ∷ 4 ∷ 1 ∷ 0 ∷ 2 ∷ 0 ∷ 0 ∷ 0 ∷ 4 ∷ 8 ∷ 9 ∷ 6 ∷ []) 12 1
    ∷ ConvertGives (3 ∷ 4 ∷ 1 ∷ 0 ∷ 2 ∷ 0 ∷ 0 ∷ 0 ∷ 4 ∷ 8 ∷ 9 ∷ 6 ∷ []) 0 1
    -- Bytes 0 and 3 of an object with k 3 and L 2 go to block 1, 1 and 4 to block 2, 2 and 5 to block 3; with k 2 and L 3 block 1 gets
    -- bytes 0, 2 and 4; with L 1 each byte stays (document 02, K3)
    ∷ Interleaves 1 3 2 (10 ∷ 11 ∷ 12 ∷ 13 ∷ 14 ∷ 15 ∷ []) (10 ∷ 13 ∷ 11 ∷ 14 ∷ 12 ∷ 15 ∷ [])
    ∷ Interleaves 2 2 3 (10 ∷ 11 ∷ 12 ∷ 13 ∷ 14 ∷ 15 ∷ []) (10 ∷ 12 ∷ 14 ∷ 11 ∷ 13 ∷ 15 ∷ [])
    ∷ Interleaves 3 4 1 (10 ∷ 11 ∷ 12 ∷ 13 ∷ []) (10 ∷ 11 ∷ 12 ∷ 13 ∷ [])
    -- With k 3 and L 2, an object of 5 bytes gives 6, and so does a destination of 7; before that come 3, 2 and 1
    ∷ InterleaveGives 1 3 2 5 6 6
    ∷ InterleaveGives 1 3 2 6 7 6
    ∷ InterleaveGives 1 3 1537 6 6 3
    ∷ InterleaveGives 2 23 0 6 6 2
    ∷ InterleaveGives 4 23 0 6 6 1
    -- The box above makes the lister print, whole, these six lines
    ∷ Lists sample_box "family 1 k 3 length 1 live 3\n1 1 4 5\n2 2 5 7\n3 3 1 2\n4 6 1 7\nsteps 4 rounds 4 left 0\n"
    -- Weight-two 4 and the tetrahedron with an object whose data block i is 2^(i − 1): each node holds its column
    ∷ Encodes 2 4 1 (1 ∷ 2 ∷ 4 ∷ 8 ∷ []) (1 ∷ 2 ∷ 4 ∷ 8 ∷ 3 ∷ 5 ∷ 9 ∷ 6 ∷ 10 ∷ 12 ∷ [])
    ∷ Encodes 3 4 1 (1 ∷ 2 ∷ 4 ∷ 8 ∷ []) (1 ∷ 2 ∷ 4 ∷ 8 ∷ 5 ∷ 3 ∷ 6 ∷ 7 ∷ 10 ∷ 12 ∷ 14 ∷ 9 ∷ 11 ∷ 13 ∷ [])
    -- L 1,536 accepted, 1,537 gives 3; simplex k 8 accepted, 9 gives 2; weight-two k 22 accepted, 23 gives 2; the list 3, 3 gives 5
    ∷ Starts 1 3 1536 [] 0
    ∷ Starts 1 3 1537 [] 3
    ∷ Starts 1 8 1 [] 0
    ∷ Starts 1 9 1 [] 2
    ∷ Starts 2 22 1 [] 0
    ∷ Starts 2 23 1 [] 2
    ∷ Starts 1 3 1 (3 ∷ 3 ∷ []) 5
    -- Other numbers of a start: 1, 3, and 4 before 5
    ∷ Starts 4 9 0 [] 1
    ∷ Starts 1 3 0 [] 3
    ∷ Starts 1 3 1 (8 ∷ 3 ∷ []) 4
    -- The box above one byte shorter or longer, and no byte at all; with E 8, which is above n, 8 before 9, and 9
    -- before the full-length 7; with E 7 that 7; and 9 before 5
    ∷ BoxGives (1 ∷ 3 ∷ 1 ∷ 0 ∷ 3 ∷ 0 ∷ 0 ∷ 0 ∷ 4 ∷ 5 ∷ 7 ∷ 4 ∷ 5 ∷ []) 7
    ∷ BoxGives (1 ∷ 3 ∷ 1 ∷ 0 ∷ 3 ∷ 0 ∷ 0 ∷ 0 ∷ 4 ∷ 5 ∷ 7 ∷ 4 ∷ 5 ∷ 7 ∷ 0 ∷ []) 7
    ∷ BoxGives [] 7
    ∷ BoxGives (1 ∷ 3 ∷ 1 ∷ 0 ∷ 8 ∷ 0 ∷ 0 ∷ 1 ∷ 4 ∷ 5 ∷ 7 ∷ 4 ∷ 5 ∷ 7 ∷ []) 8
    ∷ BoxGives (1 ∷ 3 ∷ 1 ∷ 0 ∷ 8 ∷ 0 ∷ 0 ∷ 0 ∷ 4 ∷ 5 ∷ 7 ∷ 4 ∷ 5 ∷ 7 ∷ []) 9
    ∷ BoxGives (1 ∷ 3 ∷ 1 ∷ 0 ∷ 7 ∷ 0 ∷ 0 ∷ 0 ∷ 4 ∷ 5 ∷ 7 ∷ 4 ∷ 5 ∷ 7 ∷ []) 7
    ∷ BoxGives (1 ∷ 2 ∷ 1 ∷ 0 ∷ 4 ∷ 0 ∷ 0 ∷ 0 ∷ 1 ∷ 2 ∷ 3 ∷ 3 ∷ 9 ∷ 9 ∷ 9 ∷ 9 ∷ []) 9
    -- Simplex 2, nodes 1 and 2 live, one step made (document 02, K8): its reads are two, of nodes 1 and 2, or twice of one, which may
    -- be missing. One read or three give 13, and so does one of two for 0 or for 4, which is above n
    ∷ IsSound 1 2 1 (1 ∷ 2 ∷ []) 1 (0 ∷ 1 ∷ 1 ∷ [])
    ∷ IsSound 1 2 1 (1 ∷ 2 ∷ []) 1 (0 ∷ 0 ∷ 0 ∷ 2 ∷ [])
    ∷ TurnedAway 1 2 1 (1 ∷ 2 ∷ []) 1 (0 ∷ 1 ∷ [])
    ∷ TurnedAway 1 2 1 (1 ∷ 2 ∷ []) 1 (0 ∷ 2 ∷ 1 ∷ [])
    ∷ TurnedAway 1 2 1 (1 ∷ 2 ∷ []) 1 (1 ∷ 1 ∷ [])
    ∷ TurnedAway 1 2 1 (1 ∷ 2 ∷ []) 1 (0 ∷ 1 ∷ 0 ∷ 0 ∷ 1 ∷ [])
    -- Steps and missing nodes may be 3, and not 4; where all are live there may be three steps. 2^63 steps are too many, though twice
    -- as many would be 0 in 64 bits, and so are 65,535 reads and one more for no step, though their sum would be 0 in 16
    ∷ IsSound 1 2 1 (1 ∷ 2 ∷ []) 2 (0 ∷ 2 ∷ 2 ∷ [])
    ∷ TurnedAway 1 2 1 (1 ∷ 2 ∷ []) 3 (0 ∷ 3 ∷ 3 ∷ [])
    ∷ IsSound 1 2 1 (1 ∷ 2 ∷ 3 ∷ []) 3 (0 ∷ 3 ∷ 3 ∷ [])
    ∷ TurnedAway 1 2 1 (1 ∷ 2 ∷ 3 ∷ []) 9223372036854775808 []
    ∷ TurnedAway 1 2 1 (1 ∷ 2 ∷ 3 ∷ []) 0 (0 ∷ 65535 ∷ 1 ∷ [])
    -- Two reads of node 1 by one step: no start leads there, and the step to node 3 from 1 and 2 is served
    ∷ ServedAnyway 1 2 1 (1 ∷ 2 ∷ []) 1 (0 ∷ 2 ∷ []) 3 1 2 (0 ∷ 3 ∷ 1 ∷ [])
    -- Example h as a box, an empty input, and a box of no node with L 259
    ∷ Lists (3 ∷ 4 ∷ 1 ∷ 0 ∷ 2 ∷ 0 ∷ 0 ∷ 0 ∷ 4 ∷ 8 ∷ 9 ∷ 6 ∷ []) "family 3 k 4 length 1 live 2\nsteps 0 rounds 0 left 12\n"
    ∷ Lists [] "refused 7\n"
    ∷ Lists (2 ∷ 4 ∷ 3 ∷ 1 ∷ 0 ∷ 0 ∷ 0 ∷ 0 ∷ []) "family 2 k 4 length 259 live 0\nsteps 0 rounds 0 left 10\n"
    ∷ []

-- the common statement
abbrev pub Examples : Type 0
Examples = Every Holds table
