-- What is proved of the C interface besides each function's own equations: a session handed to C and back is the same session,
-- and the calls of C keep the promises of the library. proofs/Proved.antt, CallsProved.antt, CarryProved.antt,
-- InterleavedProved.antt and GradedProved.antt have the proofs.
use Rattle.std.specs.Prelude.{◌≡◌, true, false, cond, ◌↔◌, ◌⊎◌, ℕ, ◌*◌, ◌≤◌, ◌<◌, eqb, length, get_or, take, drop, replicate}
use mathlib.Core.List.{List, Memᴰ, [], ◌∷◌, ◌++◌, map}
use Rattle.lists.specs.Lists.{is_in}
use Rattle.counts.specs.Counts.{count_of, sum_of}
use Rattle.families.specs.Families.{family_of, IsNode, node_count, column_of, node_of, are_related}
use Rattle.encoding.specs.Encode.{encode_answer}
use Rattle.interleaving.specs.Interleaved.{interleaved, deinterleaved, interleave_answer, out_moved}
use Rattle.checks.specs.Checks.{first_met}
use Rattle.checks.specs.Claims.{InRange}
use Rattle.boxes.specs.Box.{k_in, block_length_in, names_in, body_checks, body_of}
use Rattle.graded.specs.Order.{column_at}
use Rattle.conversion.specs.Converted.{from_graded, to_graded, converted}
use Rattle.conversion.specs.Claims.{box_left, BodiesBy}
use Rattle.pairing.specs.Pairs.{most_pairs, NoPairLeft}
use Rattle.planning.specs.Plan.{Step, repaired_nodes, times_read}
use Rattle.leftover.specs.Open.{Open, OpenCount}
use Rattle.repair.specs.declared.Session.{Session}
use Rattle.repair.specs.Answers.{Started}
use Rattle.repair.specs.Session.{refused_start, started, unsound}
use Rattle.repair.specs.Refusals.{Refused}
use Rattle.repair.specs.Boxed.{read_box, nodes_read, written, out_written}
use Rattle.repair.specs.LiveNodes.{live_listed, out_listed}
use Rattle.repair.specs.ReadOut.{missing_in, read_out_of, object_out}
use Rattle.repair.specs.Step.{stepped, nodes_stepped}
use Rattle.repair.specs.Pairs.{pairs_found}
use Rattle.repair.specs.Repairs.{planned, out_planned, ran, nodes_ran}
use Rattle.repair.specs.Carry.{plan_steps, plan_checked, carried, nodes_carried}
use Rattle.repair.specs.Calls.{Move, run, carry, as_move, State, Call, made_after, live_after, state_after}
use Rattle.repair.specs.RepairClaims.{LiveAreOwn}
use Rattle.repair.specs.WholeWay.{LowestOpen, NoneOpen, Way, start_of, nodes_encoded}
use Rattle.mogtriz.specs.declared.sessions.MarkedSession.{MarkedSession}
use Rattle.mogtriz.specs.Sessions.{some_above1, session_for_c, session_of_c, started_c, written_c, live_listed_c, read_out_c, part_in}
use Rattle.mogtriz.specs.Repairs.{stepped_c, planned_c, ran_c, pairs_found_c, plan_checked_c, carried_c}
use Rattle.mogtriz.specs.Exports.{node_count_or0, column_or0, node_or0, related_or0}
use Rattle.mogtriz.specs.Calls.{called_c, last_session_c}

-- ---- a session handed to C and back

-- family, k, L, steps and reads are C's fields of the same name
pub record SameFields (s : Session) : Type 0 where
  pub family : (session_for_c s).family ≡ s.family
  pub k : (session_for_c s).k ≡ s.k
  pub len : (session_for_c s).len ≡ s.len
  pub steps : (session_for_c s).steps ≡ s.steps
  pub reads : (session_for_c s).reads ≡ s.reads

abbrev pub SameFieldsClaim : Type 0
SameFieldsClaim = (s : Session) → SameFields s

-- it is the same session
abbrev pub ThereAndBackClaim : Type 0
ThereAndBackClaim = (s : Session) → session_of_c (session_for_c s) ≡ s

-- and one of C's with no byte above 1, taken in and handed out again
abbrev pub BackAndThereClaim : Type 0
BackAndThereClaim = (s : MarkedSession) → some_above1 s.live ≡ false → session_for_c (session_of_c s) ≡ s

-- ---- the session in an answer

-- mogtriz_start, mogtriz_check and mogtriz_read give no byte above 1, refused or not
abbrev pub StartedMarksClaim : Type 0
StartedMarksClaim = (answer : Started) → some_above1 (started_c answer).session.live ≡ false

-- of any session handed in
pub record HandedBack (s : MarkedSession) : Type 0 where
  -- a step, a run or a plan carried out that is not refused gives no byte above 1
  pub step_marks : (nodes : List ℕ) (j a b : ℕ) → (stepped_c s nodes j a b).refusal ≡ 0 → some_above1 (stepped_c s nodes j a b).session.live ≡ false
  pub run_marks : (nodes : List ℕ) → (ran_c s nodes).refusal ≡ 0 → some_above1 (ran_c s nodes).session.live ≡ false
  pub carry_marks : (plan nodes : List ℕ) → (carried_c s plan nodes).refusal ≡ 0 → some_above1 (carried_c s plan nodes).session.live ≡ false
  -- plan, write, live nodes, read out, pairs and the check of a plan give the session as it was handed in, byte for byte, accepted or not
  pub plan : (out : List ℕ) → (planned_c s out).session ≡ s
  pub write : (nodes list out : List ℕ) → (written_c s nodes list out).session ≡ s
  pub live : (out : List ℕ) → (live_listed_c s out).session ≡ s
  pub read_out : (nodes object : List ℕ) → (read_out_c s nodes object).session ≡ s
  pub pairs : (j : ℕ) → (pairs_found_c s j).session ≡ s
  pub check_plan : (plan : List ℕ) → (plan_checked_c s plan).session ≡ s

abbrev pub HandedBackClaim : Type 0
HandedBackClaim = (s : MarkedSession) → HandedBack s

-- ---- a call that is turned away (demand 1)

-- a refused mogtriz_start, mogtriz_check or mogtriz_read gives a session of zeros
abbrev pub RefusedStartClaim : Type 0
RefusedStartClaim = (number : ℕ) → started_c (refused_start number) ≡ record { refusal = number; session = record { family = 0; k = 0; len = 0; steps = 0; live = replicate 256 0; reads = replicate 256 0 } }

-- of any session handed in: a refusal gives its number and zeros, the session as it was, and no byte is written
pub record TurnedAway (s : MarkedSession) : Type 0 where
  pub step : (nodes : List ℕ) (j a b : ℕ) → Refused (stepped_c s nodes j a b).refusal
      → (stepped_c s nodes j a b ≡ record { refusal = (stepped_c s nodes j a b).refusal; session = s }) × (nodes_stepped (session_of_c s) nodes j a b ≡ nodes)
  pub plan : (out : List ℕ) → Refused (planned_c s out).refusal
      → (planned_c s out ≡ record { refusal = (planned_c s out).refusal; steps = 0; rounds = 0; left = 0; session = s }) × (out_planned (session_of_c s) out ≡ out)
  pub run : (nodes : List ℕ) → Refused (ran_c s nodes).refusal
      → (ran_c s nodes ≡ record { refusal = (ran_c s nodes).refusal; steps = 0; rounds = 0; left = 0; session = s }) × (nodes_ran (session_of_c s) nodes ≡ nodes)
  pub write : (nodes list out : List ℕ) → Refused (written_c s nodes list out).refusal
      → (written_c s nodes list out ≡ record { refusal = (written_c s nodes list out).refusal; length = 0; session = s }) × (out_written (session_of_c s) nodes list out ≡ out)
  pub live : (out : List ℕ) → Refused (live_listed_c s out).refusal
      → (live_listed_c s out ≡ record { refusal = (live_listed_c s out).refusal; length = 0; session = s }) × (out_listed (session_of_c s) out ≡ out)
  pub read_out : (nodes object : List ℕ) → Refused (read_out_c s nodes object).refusal
      → (read_out_c s nodes object ≡ record { refusal = (read_out_c s nodes object).refusal; block = cond (eqb (read_out_c s nodes object).refusal 14) (missing_in (session_of_c s)) 0; session = s })
      × (object_out (session_of_c s) nodes object ≡ object)
  pub pairs : (j : ℕ) → Refused (pairs_found_c s j).refusal
      → pairs_found_c s j ≡ record { refusal = (pairs_found_c s j).refusal; smaller = 0; larger = 0; count = 0; session = s }
  pub check_plan : (plan : List ℕ) → Refused (plan_checked_c s plan).refusal
      → plan_checked_c s plan ≡ record { refusal = (plan_checked_c s plan).refusal; bad = 0; session = s }
  pub carry : (plan nodes : List ℕ) → Refused (carried_c s plan nodes).refusal
      → (carried_c s plan nodes ≡ record { refusal = (carried_c s plan nodes).refusal; bad = 0; session = s }) × (nodes_carried (session_of_c s) plan nodes ≡ nodes)

abbrev pub TurnedAwayClaim : Type 0
TurnedAwayClaim = (s : MarkedSession) → TurnedAway s

-- this is so of the number that each call on a session gives, whatever is asked for
pub record NumbersC (s : MarkedSession) (So : ℕ → Type 0) : Type 0 where
  pub step : (nodes : List ℕ) (j a b : ℕ) → So (stepped_c s nodes j a b).refusal
  pub plan : (out : List ℕ) → So (planned_c s out).refusal
  pub run : (nodes : List ℕ) → So (ran_c s nodes).refusal
  pub write : (nodes list out : List ℕ) → So (written_c s nodes list out).refusal
  pub live : (out : List ℕ) → So (live_listed_c s out).refusal
  pub read_out : (nodes object : List ℕ) → So (read_out_c s nodes object).refusal
  pub pairs : (j : ℕ) → So (pairs_found_c s j).refusal
  pub check_plan : (plan : List ℕ) → So (plan_checked_c s plan).refusal
  pub carry : (plan nodes : List ℕ) → So (carried_c s plan nodes).refusal

-- every call gives 13
abbrev pub ThirteenC : MarkedSession → Type 0
ThirteenC s = NumbersC s (λ number. number ≡ 13)

-- where a byte is above 1, or the session is unsound
abbrev pub ThirteenCClaim : Type 0
ThirteenCClaim = (s : MarkedSession) → (some_above1 s.live ≡ true) ⊎ (unsound (session_of_c s) ≡ true) → ThirteenC s

-- no call gives 13
abbrev pub NotThirteenC : MarkedSession → Type 0
NotThirteenC s = NumbersC s (λ number. number ≡ 13 → ⊥)

-- where the session is sound, and so has no byte above 1
abbrev pub NotThirteenCClaim : Type 0
NotThirteenCClaim = (s : MarkedSession) → unsound (session_of_c s) ≡ false → NotThirteenC s

-- ---- the calls agree

-- of a session in C's form, each call gives C what the session's own operation gives; a lent buffer holds what that leaves for
-- session_of_c (session_for_c s), which is s (`ThereAndBackClaim`)
pub record Agree (s : Session) : Type 0 where
  -- mogtriz_step
  pub step : (nodes : List ℕ) (j a b : ℕ)
      → let own = stepped s nodes j a b in
      stepped_c (session_for_c s) nodes j a b ≡ record { refusal = own.refusal; session = session_for_c own.session }
  -- mogtriz_plan
  pub plan : (out : List ℕ)
      → let own = planned s out in
      planned_c (session_for_c s) out
      ≡ record { refusal = own.refusal; steps = own.steps; rounds = own.rounds; left = own.left; session = session_for_c own.session }
  -- mogtriz_run
  pub run : (nodes : List ℕ)
      → let own = ran s nodes in
      ran_c (session_for_c s) nodes
      ≡ record { refusal = own.refusal; steps = own.steps; rounds = own.rounds; left = own.left; session = session_for_c own.session }
  -- mogtriz_write
  pub write : (nodes list out : List ℕ)
      → let own = written s nodes list out in
      written_c (session_for_c s) nodes list out ≡ record { refusal = own.refusal; length = own.length; session = session_for_c own.session }
  -- mogtriz_live_nodes
  pub live : (out : List ℕ)
      → let own = live_listed s out in
      live_listed_c (session_for_c s) out ≡ record { refusal = own.refusal; length = own.length; session = session_for_c own.session }
  -- mogtriz_read_out
  pub read_out : (nodes object : List ℕ)
      → let own = read_out_of s nodes object in
      read_out_c (session_for_c s) nodes object ≡ record { refusal = own.refusal; block = own.block; session = session_for_c own.session }
  -- mogtriz_pairs
  pub pairs : (j : ℕ)
      → let own = pairs_found s j in
      pairs_found_c (session_for_c s) j
      ≡ record { refusal = own.refusal; smaller = own.smaller; larger = own.larger; count = own.count; session = session_for_c own.session }
  -- mogtriz_check_plan and mogtriz_carry_plan
  pub check_plan : (plan : List ℕ)
      → let own = plan_checked s plan in
      plan_checked_c (session_for_c s) plan ≡ record { refusal = own.refusal; bad = own.bad; session = session_for_c own.session }
  pub carry : (plan nodes : List ℕ)
      → let own = carried s plan nodes in
      carried_c (session_for_c s) plan nodes ≡ record { refusal = own.refusal; bad = own.bad; session = session_for_c own.session }

abbrev pub AgreeClaim : Type 0
AgreeClaim = (s : Session) → Agree s

-- ---- how many rounds there are

-- at most as many as steps, in what mogtriz_plan and mogtriz_run give, refused or not
pub record RoundsC (s : MarkedSession) : Type 0 where
  pub plan : (out : List ℕ) → (planned_c s out).rounds ≤ (planned_c s out).steps
  pub run : (nodes : List ℕ) → (ran_c s nodes).rounds ≤ (ran_c s nodes).steps

abbrev pub RoundsCClaim : Type 0
RoundsCClaim = (s : MarkedSession) → length s.live ≡ 256 → RoundsC s

-- ---- the pairs of a node

-- of what mogtriz_pairs gives of a node, live or missing
pub record PairsC (s : MarkedSession) (j : ℕ) : Type 0 where
  -- with every node's mark 1 the count is (n − 1)/2 for simplex, k − 1 for weight-two and 6 for the tetrahedron, and never more
  pub all : ((i : ℕ) → IsNode (family_of s.family) s.k i → get_or s.live i 0 ≡ 1) → (pairs_found_c s j).count ≡ most_pairs (family_of s.family) s.k
  pub most : (pairs_found_c s j).count ≤ most_pairs (family_of s.family) s.k
  -- where it is above 0 and the node's mark is 0, mogtriz_step takes the pair
  pub step : get_or s.live j 0 ≡ 0 → 1 ≤ (pairs_found_c s j).count → (nodes : List ℕ) → length nodes ≡ node_count (family_of s.family) s.k * s.len
      → (stepped_c s nodes j (pairs_found_c s j).smaller (pairs_found_c s j).larger).refusal ≡ 0

abbrev pub PairsCClaim : Type 0
PairsCClaim = (s : MarkedSession) → length s.live ≡ 256 → (j : ℕ) → (pairs_found_c s j).refusal ≡ 0 → PairsC s j

-- ---- plans made elsewhere

-- the calls of mogtriz_step for the steps of a plan, in its order, are all accepted
abbrev pub AllAcceptedC : MarkedSession → List ℕ → List Step → Type 0
AllAcceptedC s nodes [] = Unit {0}
AllAcceptedC s nodes (made ∷ steps) =
    ((stepped_c s nodes made.node made.smaller made.larger).refusal ≡ 0)
    × AllAcceptedC (stepped_c s nodes made.node made.smaller made.larger).session (nodes_stepped (session_of_c s) nodes made.node made.smaller made.larger) steps

-- of a plan that mogtriz_carry_plan carries out
pub record CarriedC (s : MarkedSession) (plan nodes : List ℕ) : Type 0 where
  -- mogtriz_step accepts all of its steps, and these calls leave what it leaves
  pub accepted : AllAcceptedC s nodes (plan_steps plan)
  pub calls : state_after called_c s nodes (map as_move (plan_steps plan)) ≡ called_c s nodes (carry plan)
  -- a mark is 1 afterwards exactly where it was, and for the nodes that the plan repairs
  pub live : (j : ℕ) → (get_or (carried_c s plan nodes).session.live j 0 ≡ 1) ↔ ((get_or s.live j 0 ≡ 1) ⊎ Memᴰ j (repaired_nodes (plan_steps plan)))
  -- handed in again its first step is bad, if it has one
  pub again : (plan_steps plan ≡ [] → ⊥) → plan_checked_c (carried_c s plan nodes).session plan ≡ record { refusal = 0; bad = 1; session = (carried_c s plan nodes).session }

-- of a plan with or without a bad step
pub record PlansC (s : MarkedSession) (plan nodes : List ℕ) : Type 0 where
  -- what mogtriz_check_plan does not refuse, mogtriz_carry_plan does not on n × L bytes, and both give the same number then
  pub served : length nodes ≡ node_count (family_of s.family) s.k * s.len → (plan_checked_c s plan).refusal ≡ 0 → (carried_c s plan nodes).refusal ≡ 0
  pub same : (carried_c s plan nodes).refusal ≡ 0 → plan_checked_c s plan ≡ record { refusal = 0; bad = (carried_c s plan nodes).bad; session = s }
  -- with a bad step nothing is written, and the session comes back as it was handed in, byte for byte
  pub bad : ((carried_c s plan nodes).bad ≡ 0 → ⊥) → (carried_c s plan nodes ≡ record { refusal = 0; bad = (carried_c s plan nodes).bad; session = s }) × (nodes_carried (session_of_c s) plan nodes ≡ nodes)
  -- with none it is carried out
  pub good : (carried_c s plan nodes).refusal ≡ 0 → (carried_c s plan nodes).bad ≡ 0 → CarriedC s plan nodes

abbrev pub PlansCClaim : Type 0
PlansCClaim = (s : MarkedSession) → length s.live ≡ 256 → length s.reads ≡ 256 → (plan nodes : List ℕ) → PlansC s plan nodes

-- what mogtriz_plan leaves at the start of its destination, by the steps that it gives
abbrev pub plan_left_c : MarkedSession → List ℕ → List ℕ
plan_left_c s out = take (4 * (planned_c s out).steps) (out_planned (session_of_c s) out)

-- where it is accepted, mogtriz_check_plan accepts what it leaves, and mogtriz_carry_plan makes a mogtriz_run of it
abbrev pub OwnPlanCClaim : Type 0
OwnPlanCClaim = (s : MarkedSession) (out : List ℕ) → (planned_c s out).refusal ≡ 0
    → (plan_checked_c s (plan_left_c s out) ≡ record { refusal = 0; bad = 0; session = s }) × ((nodes : List ℕ) → called_c s nodes (carry (plan_left_c s out)) ≡ called_c s nodes run)

-- ---- the live nodes, listed

-- the list that mogtriz_live_nodes leaves at the start of its buffer, by the length that it gives
abbrev pub list_left_c : MarkedSession → List ℕ → List ℕ
list_left_c s out = take (live_listed_c s out).length (out_listed (session_of_c s) out)

-- where it is accepted, mogtriz_start by that list gives the same family, k, L and marks, and zeros in the counts
abbrev pub LiveListCClaim : Type 0
LiveListCClaim = (s : MarkedSession) (out : List ℕ) → length s.live ≡ 256 → (live_listed_c s out).refusal ≡ 0
    → started_c (started s.family s.k s.len (list_left_c s out))
    ≡ record { refusal = 0; session = record { family = s.family; k = s.k; len = s.len; steps = 0; live = s.live; reads = replicate 256 0 } }

-- what mogtriz_read gives and leaves of a box is written by a list: mogtriz_write accepts it, and leaves the length and the bytes of the box
pub record WrittenAgainC (s : MarkedSession) (bytes nodes list out : List ℕ) : Type 0 where
  pub answer : written_c s (nodes_read bytes nodes) list out ≡ record { refusal = 0; length = length bytes; session = s }
  pub rest : out_written (session_of_c s) (nodes_read bytes nodes) list out ≡ bytes ++ drop (length bytes) out

-- so it is, before any repair, by the box's own list and by the one that mogtriz_live_nodes leaves
abbrev pub ReadWriteCClaim : Type 0
ReadWriteCClaim = (bytes nodes out : List ℕ) → get_or bytes 2 0 < 256 → (started_c (read_box bytes nodes)).refusal ≡ 0 → length bytes ≤ length out
    → WrittenAgainC (started_c (read_box bytes nodes)).session bytes nodes (names_in bytes) out
    × ((room : List ℕ) → (live_listed_c (started_c (read_box bytes nodes)).session room).refusal ≡ 0
    → WrittenAgainC (started_c (read_box bytes nodes)).session bytes nodes (list_left_c (started_c (read_box bytes nodes)).session room) out)

-- ---- the body of a node

-- of any box and number
pub record PartOf (bytes : List ℕ) (j : ℕ) : Type 0 where
  -- mogtriz_body gives the number of the body's checks, and zeros with it
  pub number : (part_in bytes j).refusal ≡ first_met (body_checks bytes j)
  pub refused : Refused (part_in bytes j).refusal → part_in bytes j ≡ record { refusal = (part_in bytes j).refusal; from = 0; length = 0 }
  -- the part of the box that it tells is the body, and that of a body that is not refused is L bytes
  pub part : take (part_in bytes j).length (drop (part_in bytes j).from bytes) ≡ body_of bytes j
  pub size : (part_in bytes j).refusal ≡ 0 → (part_in bytes j).length ≡ block_length_in bytes

abbrev pub PartClaim : Type 0
PartClaim = (bytes : List ℕ) (j : ℕ) → PartOf bytes j

-- ---- families

-- of a family's number and a k in range; L plays no part, and 1 stands for it
pub record Answers (family k : ℕ) : Type 0 where
  -- mogtriz_node_count gives n, mogtriz_column a node's column, and mogtriz_node_of_column the node of a column
  pub count : node_count_or0 family k ≡ node_count (family_of family) k
  pub column : (j : ℕ) → IsNode (family_of family) k j → column_or0 family k j ≡ column_of (family_of family) k j
  pub node : (c : ℕ) → node_or0 family k c ≡ node_of (family_of family) k c
  -- mogtriz_related gives 1 for three nodes that are related, and 0 for three others
  pub related : (a b c : ℕ) → IsNode (family_of family) k a → IsNode (family_of family) k b → IsNode (family_of family) k c
      → are_related (family_of family) k a b c ≡ true → related_or0 family k a b c ≡ 1
  pub unrelated : (a b c : ℕ) → IsNode (family_of family) k a → IsNode (family_of family) k b → IsNode (family_of family) k c
      → are_related (family_of family) k a b c ≡ false → related_or0 family k a b c ≡ 0

abbrev pub AnswersClaim : Type 0
AnswersClaim = (family k : ℕ) → InRange family k 1 → Answers family k

-- ---- demand 3, for C

-- of a start's family, k, L and list, a list of calls, and objects with blocks of M bytes
pub record LeftOverC (family k L : ℕ) (list : List ℕ) (calls : List Call) (M : ℕ) : Type 0 where
  -- a byte of the last session is 1 where its number is in live after the list, else 0
  pub marks : (j : ℕ) → j < 256 → get_or (last_session_c family k L list calls).live j 0 ≡ cond (is_in (live_after family k L list calls) j) 1 0
  -- when no missing node has a related pair with both nodes live, the missing nodes are exactly the open ones
  pub missing_open : NoPairLeft (family_of family) k (is_in (live_after family k L list calls))
      → (j : ℕ) → IsNode (family_of family) k j → (is_in (live_after family k L list calls) j ≡ false) ↔ Open (family_of family) k M list j
  -- whether or not a pair is left, there is a number of open nodes
  pub count : ℕ
  pub open_nodes : OpenCount (family_of family) k M list count
  -- it is the nodes left of every accepted mogtriz_run in the list
  pub runs : (earlier : List Call) (nodes : List ℕ) (later : List Call) → calls ≡ earlier ++ (record { nodes = nodes; move = run } ∷ later)
      → (ran_c (last_session_c family k L list earlier) nodes).refusal ≡ 0 → (ran_c (last_session_c family k L list earlier) nodes).left ≡ count
  -- and of every accepted mogtriz_plan made after it
  pub plans : (out : List ℕ) → (planned_c (last_session_c family k L list calls) out).refusal ≡ 0
      → (planned_c (last_session_c family k L list calls) out).left ≡ count

-- for every start that mogtriz_start accepts, every list of calls, refused ones included, and every block length of 1 or more
abbrev pub Demand3C : Type 0
Demand3C = (family k L : ℕ) (list : List ℕ) → (started_c (started family k L list)).refusal ≡ 0
    → (calls : List Call) (M : ℕ) → 1 ≤ M → LeftOverC family k L list calls M

-- ---- reads by node, for C

-- of a start's family, k, L and list, and a list of calls
pub record CountedC (family k L : ℕ) (list : List ℕ) (calls : List Call) : Type 0 where
  -- `steps` is how many steps were made, those of runs and of plans carried out included, and `reads` of a number how many of them read it
  pub steps : (last_session_c family k L list calls).steps ≡ length (made_after family k L list calls)
  pub reads : (j : ℕ) → j < 256 → count_of (last_session_c family k L list calls).reads j ≡ times_read j (made_after family k L list calls)
  -- the reads sum to twice the steps, and those for 0 and above n are 0
  pub sum : sum_of (last_session_c family k L list calls).reads ≡ 2 * (last_session_c family k L list calls).steps
  pub none : (j : ℕ) → (IsNode (family_of family) k j → ⊥) → count_of (last_session_c family k L list calls).reads j ≡ 0
  -- and no call on the session gives 13
  pub not_13 : NotThirteenC (last_session_c family k L list calls)

-- for every start that mogtriz_start accepts, and every list of calls, refused ones included
abbrev pub CountedCClaim : Type 0
CountedCClaim = (family k L : ℕ) (list : List ℕ) → (started_c (started family k L list)).refusal ≡ 0 → (calls : List Call) → CountedC family k L list calls

-- ---- the object's own blocks (demand 2), for C

-- once session and buffer have gone through a list of steps, runs and plans carried out, every live block is the object's, and what mogtriz_read_out
-- leaves, where it is accepted, is the object
pub record OwnC (object : List ℕ) (s : MarkedSession) (nodes : List ℕ) (moves : List Move) : Type 0 where
  pub live : LiveAreOwn object (session_of_c (state_after called_c s nodes moves).session) (state_after called_c s nodes moves).nodes
  pub out : (result : List ℕ) → (read_out_c (state_after called_c s nodes moves).session (state_after called_c s nodes moves).nodes result).refusal ≡ 0
      → object_out (session_of_c (state_after called_c s nodes moves).session) (state_after called_c s nodes moves).nodes result ≡ object

-- of a session with a byte above 1 it says nothing: every call refuses it, and the session of zeros has no live node
abbrev pub OwnCClaim : Type 0
OwnCClaim = (object : List ℕ) (s : MarkedSession) (nodes : List ℕ) → length s.live ≡ 256 → length s.reads ≡ 256 → length object ≡ s.k * s.len
    → LiveAreOwn object (session_of_c s) nodes → (moves : List Move) → OwnC object s nodes moves

-- ---- the whole way, for C

-- the session that mogtriz_start gives for the object's nodes
abbrev pub start_of_c : Way → MarkedSession
start_of_c way = (started_c (start_of way)).session

-- the box that mogtriz_write leaves at the start of its destination, by the length that it gives
abbrev pub box_away_c : Way → List ℕ
box_away_c way = take (written_c (start_of_c way) (nodes_encoded way) way.list way.out).length (out_written (session_of_c (start_of_c way)) (nodes_encoded way) way.list way.out)

-- mogtriz_encode, mogtriz_start, mogtriz_write and mogtriz_read are accepted
pub record OnTheWayC (way : Way) : Type 0 where
  pub encode : encode_answer way.family way.k way.len way.object way.nodes ≡ 0
  pub start : (started_c (start_of way)).refusal ≡ 0
  pub write : (written_c (start_of_c way) (nodes_encoded way) way.list way.out).refusal ≡ 0
  pub read : (started_c (read_box (box_away_c way) way.other)).refusal ≡ 0

-- session and buffer once the box is read and a list of mogtriz_step, mogtriz_run and mogtriz_carry_plan made, refused ones included
abbrev pub state_at_c : Way → List Move → State MarkedSession
state_at_c way moves = state_after called_c (started_c (read_box (box_away_c way) way.other)).session (nodes_read (box_away_c way) way.other) moves

-- mogtriz_read_out is accepted exactly where no data block's node is open, and turned away with 14 and block i exactly where i is the
-- lowest whose node is
pub record OutWhereOpenC (s : MarkedSession) (nodes result list : List ℕ) (M : ℕ) : Type 0 where
  pub accepted : (read_out_c s nodes result ≡ record { refusal = 0; block = 0; session = s }) ↔ NoneOpen s.family s.k M list
  pub refused : (i : ℕ) → (read_out_c s nodes result ≡ record { refusal = 14; block = i; session = s }) ↔ LowestOpen s.family s.k M list i

-- what holds at its end
pub record WholeWayC (way : Way) (moves : List Move) : Type 0 where
  -- every live block is the object's, and what mogtriz_read_out leaves, where it is accepted, is the object
  pub own : OwnC way.object (started_c (read_box (box_away_c way) way.other)).session (nodes_read (box_away_c way) way.other) moves
  -- after one more mogtriz_run, which is accepted, that is exactly where no data block's node is open
  pub runs : (ran_c (state_at_c way moves).session (state_at_c way moves).nodes).refusal ≡ 0
  pub back : (result : List ℕ) → length result ≡ way.k * way.len → (M : ℕ) → 1 ≤ M
      → OutWhereOpenC (ran_c (state_at_c way moves).session (state_at_c way moves).nodes).session (nodes_ran (session_of_c (state_at_c way moves).session) (state_at_c way moves).nodes) result
      (names_in (box_away_c way)) M
  -- and then it leaves the object
  pub again : (result : List ℕ)
      → (read_out_c (ran_c (state_at_c way moves).session (state_at_c way moves).nodes).session (nodes_ran (session_of_c (state_at_c way moves).session) (state_at_c way moves).nodes) result).refusal ≡ 0
      → object_out (session_of_c (ran_c (state_at_c way moves).session (state_at_c way moves).nodes).session) (nodes_ran (session_of_c (state_at_c way moves).session) (state_at_c way moves).nodes) result ≡ way.object

-- for every family, k, L and object, every start and list that are accepted, every buffer, and every list of calls
abbrev pub WholeWayCClaim : Type 0
WholeWayCClaim = (way : Way) → OnTheWayC way → (moves : List Move) → WholeWayC way moves

-- ---- interleaved objects, for C

-- what mogtriz_interleave leaves, mogtriz_encode accepts with any nodes buffer of n × L bytes
abbrev pub InterleavedObjectCClaim : Type 0
InterleavedObjectCClaim = (family k L : ℕ) (object out nodes : List ℕ) → interleave_answer family k L object out ≡ 0 → length nodes ≡ node_count (family_of family) k * L
    → encode_answer family k L (out_moved interleaved family k L object out) nodes ≡ 0

-- an object comes to the whole way interleaved: mogtriz_interleave is accepted, and what it leaves is what mogtriz_encode gets
pub record ByInterleave (way : Way) (object out : List ℕ) : Type 0 where
  pub interleave : interleave_answer way.family way.k way.len object out ≡ 0
  pub handed_on : way.object ≡ out_moved interleaved way.family way.k way.len object out

-- what mogtriz_read_out leaves at the end of the way
abbrev pub out_at_c : Way → List Move → List ℕ → List ℕ
out_at_c way moves result = object_out (session_of_c (state_at_c way moves).session) (state_at_c way moves).nodes result

-- mogtriz_deinterleave accepts it, with any destination of k × L bytes, which then holds the object
pub record PutBackC (way : Way) (moves : List Move) (object result again : List ℕ) : Type 0 where
  pub accepted : interleave_answer way.family way.k way.len (out_at_c way moves result) again ≡ 0
  pub same : out_moved deinterleaved way.family way.k way.len (out_at_c way moves result) again ≡ object

-- whatever calls are made on the way, where mogtriz_read_out is accepted
abbrev pub InterleavedWayCClaim : Type 0
InterleavedWayCClaim = (way : Way) (object out : List ℕ) → ByInterleave way object out → OnTheWayC way
    → (moves : List Move) (result again : List ℕ) → (read_out_c (state_at_c way moves).session (state_at_c way moves).nodes result).refusal ≡ 0
    → length again ≡ way.k * way.len → PutBackC way moves object result again

-- ---- boxes in graded order, for C

-- a box whose bodies are an object's by graded order, converted by mogtriz_from_graded and read by mogtriz_read, into any buffers: whatever
-- calls are made then, every live block is the object's, and what mogtriz_read_out leaves, where it is accepted, is the object
abbrev pub GradedWayCClaim : Type 0
GradedWayCClaim = (object bytes out nodes : List ℕ) → length object ≡ k_in bytes * block_length_in bytes → BodiesBy (column_at (k_in bytes)) object bytes
    → (converted bytes out).refusal ≡ 0 → (started_c (read_box (box_left from_graded bytes out) nodes)).refusal ≡ 0
    → (moves : List Move) → OwnC object (started_c (read_box (box_left from_graded bytes out) nodes)).session (nodes_read (box_left from_graded bytes out) nodes) moves

-- and the box that is put away, converted by mogtriz_to_graded, has the object's bodies by graded order
abbrev pub GradedBoxCClaim : Type 0
GradedBoxCClaim = (way : Way) → OnTheWayC way → (out : List ℕ) → (converted (box_away_c way) out).refusal ≡ 0
    → BodiesBy (column_at (k_in (box_away_c way))) way.object (box_left to_graded (box_away_c way) out)
