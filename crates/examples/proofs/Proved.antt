-- The lettered examples hold: what a row says of every L and every buffer follows by laws from what is computed of it.
-- Assumes nothing.
use mathlib.Core.Path.{◌≡◌, refl, sym, ap, ◌∙◌, subst}
use mathlib.Core.Bool.{true, false}
use mathlib.Core.List.{List, [], ◌∷◌, ◌++◌, append-nil, flat_map, get_last_d, zip_with}
use Prim.Native.Nat.{ℕ, suc, ◌+◌, ◌-◌, ◌*◌, ◌/◌, ◌≤◌, ◌<◌}
use native.Mathlib.Omega.{arith}
use borrow.Author.Tests.{le-ltb, ltb-true, eqb-false}
use lib.Dec.{ltb, eqb}
use lib.ListN.{length, get_or, drop, replicate, get_or-replicate}
use lib.Seq.{ext_get_or}
use Rattle.base.specs.Ranges.{first_from, those_from, list_from}
use Rattle.families.specs.Families.{family_of, node_count, column_of, node_of, pair_at, are_related}
use Rattle.blocks.specs.Blocks.{joined, xor_bytes, block_of, with_block}
use Rattle.checks.specs.Checks.{first_met}
use Rattle.checks.specs.Parameters.{most_l, parameter_checks}
use Rattle.base.proofs.RangeLaws.{outside_no, length-list_from, get_or-list_from}
use Rattle.encoding.specs.Matrix.{node_block, nodes_buffer}
use Rattle.encoding.specs.Encode.{encode_checks, encode_answer, encoded}
use Rattle.interleaving.specs.Interleaved.{interleaved, deinterleaved, interleave_checks, interleave_answer, out_moved}
use Rattle.interleaving.proofs.Answers.{kept}
use Rattle.lists.specs.Lists.{some_outside, rises, place_in, set_live, some_missing, passes_outside}
use Rattle.counts.specs.Counts.{count_of, count_all, sum_of}
use Rattle.pairing.specs.Pairs.{larger_node, smaller_node, pair_count, pairs_among}
use Rattle.planning.specs.Plan.{once, steps_for, rounds_from, plan_of, sources_of, times_read, marks_after, steps_with, step_bytes, last_round, nodes_left}
use Rattle.planning.specs.Made.{steps_in}
use Rattle.planning.proofs.RoundLaws.{length_bytes}
use Rattle.planning.proofs.CarryLaws.{steps_back}
use Rattle.validation.specs.Good.{follows, may_serve, is_good, bad_after}
use Rattle.waves.specs.Waves.{waves_of, most_waves}
use Rattle.boxes.specs.Box.{block_length_in, node_count_in, box_checks, body_checks, body_of}
use Rattle.boxes.specs.Bodies.{box_of, with_bodies}
use Rattle.graded.specs.Order.{graded_table, below}
use Rattle.conversion.specs.Converted.{conversion_checks, new_names, new_body, renumbered, from_graded, to_graded, converted, out_converted}
use Rattle.conversion.proofs.Rules.{converted_refused}
use Rattle.repair.specs.declared.Session.{Session}
use Rattle.repair.specs.Session.{session_of, accepted_start, started, start_checks, node_count_of, miscounted, unsound, nodes_checks}
use Rattle.repair.specs.Boxed.{checked_box, read_checks, read_box, nodes_read, write_checks, written, out_written}
use Rattle.repair.specs.LiveNodes.{live_checks, live_listed, out_listed}
use Rattle.repair.specs.Step.{step_checks, stepped, nodes_stepped}
use Rattle.repair.specs.Pairs.{pairs_checks, pairs_found}
use Rattle.repair.specs.Repairs.{plan_in}
use Rattle.repair.specs.Carry.{check_checks, plan_checked}
use Rattle.repair.proofs.StartLaws.{nodes_0}
use Rattle.repair.proofs.RepairsLaws.{plan_made, run_made}
use Rattle.repair.proofs.RefusalsProved.{thirteen_claim, not_thirteen_claim}
use Rattle.repair.proofs.ReadsProved.{not_reached_claim}
use Rattle.listing.specs.Text.{decimal, field, first_line, step_line, last_line, refusal_line}
use Rattle.listing.specs.Listing.{answer_of, listing_in, listing_of}
use Rattle.examples.specs.Examples.{Row, Encodes, Interleaves, InterleaveGives, Plans, Pairs, PlanChecks, Waves, MostWaves, Starts, BoxGives, BoxReads, BoxHolds, BoxLacks, BoxSteps, BoxWrites, BoxNames, Converts, ConvertGives, Lists, IsSound, TurnedAway, ServedAnyway, session_by, all_but, HasPlan, Holds, Every, table, Examples}

-- ---- a plan

-- what is computed of a session and of a row's steps, rounds and nodes left; L has no part in it
abbrev HasFigures : Session → List ℕ → ℕ → List ℕ → List ℕ → Type 0
HasFigures s steps rounds left reads =
    let next = session_by s.family s.k s.len (all_but left s) (length steps / 4) reads in
    (step_bytes (plan_in s) ≡ steps)
    × (last_round (steps_in steps (length steps / 4)) ≡ rounds)
    × (marks_after s.live (steps_in steps (length steps / 4)) ≡ next.live)
    × (nodes_left next.live (node_count_of s) ≡ length left)
    × (s.steps + length steps / 4 ≡ next.steps)
    × (count_all s.reads (sources_of (steps_in steps (length steps / 4))) ≡ next.reads)

-- plan and run give what is computed
has_plan : (s : Session) (steps : List ℕ) (rounds : ℕ) (left reads : List ℕ) → unsound s ≡ false → HasFigures s steps rounds left reads → HasPlan s steps rounds left reads
has_plan s steps rounds left reads start (bytes-are, last_is, marks_are, number_is, steps_are, reads_are) =
    record {
      plan_gives = λ out h. sym (plan_made s out start (omega (arith, size_is))).answer_is ∙ rw (plan_is, count_is, last_is, marks_are, number_is);
      plan_writes = λ out h. sym (plan_made s out start (omega (arith, size_is))).buffer_is ∙ rw (bytes-are, size_is);
      run_gives = λ nodes h. sym (run_made s nodes (nodes_0 s (length nodes) start h)).answer_is ∙ rw (plan_is, count_is, last_is, marks_are, number_is, steps_are, reads_are);
      run_leaves = λ nodes h. sym (run_made s nodes (nodes_0 s (length nodes) start h)).buffer_is ∙ rw plan_is;
    }
  where
    size_is : 4 * length (plan_in s) ≡ length steps
    size_is = sym (length_bytes (plan_in s)) ∙ ap length bytes-are

    plan_is : plan_in s ≡ steps_in steps (length steps / 4)
    plan_is = sym (steps_back (plan_in s) []) ∙ rw (append-nil, bytes-are, count)
      where
        count : length (plan_in s) ≡ length steps / 4
        count = omega (arith, size_is)

    count_is : length (steps_in steps (length steps / 4)) ≡ length steps / 4
    count_is = omega (arith, ap length plan_is, size_is)

-- ---- the start at each L

-- at each L that is accepted, 1 to 3 are as at L 1
same_checks : (family k L : ℕ) → 1 ≤ L → L ≤ most_l → parameter_checks family k L ≡ parameter_checks family k 1
unfolding parameter_checks
same_checks family k L h g = rw (outside_no 1 most_l L h g, outside_no 1 most_l 1 (omega arith) (omega arith))

-- ---- every buffer

-- what holds of n bytes, whatever they are, holds of every buffer of n bytes
each : (n : ℕ) (P : List ℕ → Type 0) → ((byte : ℕ → ℕ) → P (list_from byte 0 n)) → (nodes : List ℕ) → length nodes ≡ n → P nodes
each n P h nodes e = subst P all (h byte)
  where
    byte : ℕ → ℕ
    byte i = get_or nodes i 0

    all : list_from byte 0 n ≡ nodes
    all = ext_get_or 0 (list_from byte 0 n) nodes (length-list_from byte 0 n ∙ sym e) (λ i l. get_or-list_from byte n i 0 (omega (arith, length-list_from byte 0 n)))

-- this is so of a box's session and n × L bytes, whatever they are
abbrev Each : List ℕ → (Session → List ℕ → Type 0) → Type 0
Each box So = (byte : ℕ → ℕ) → So (checked_box box).session (list_from byte 0 (node_count_in box * block_length_in box))

-- ---- the rows

-- what is computed of a row
abbrev Computed : Row → Type 0
Computed (Encodes family k L object nodes) =
    (first_met (encode_checks family k L (length object) (length nodes)) ≡ 0) × (nodes_buffer (family_of family) k L object ≡ nodes)
Computed (Interleaves family k L object other) =
    (first_met (interleave_checks family k L (length object) (length object)) ≡ 0) × (interleaved k L object ≡ other)
    × (first_met (interleave_checks family k L (length other) (length object)) ≡ 0) × (deinterleaved k L other ≡ object)
Computed (InterleaveGives family k L size room number) = (first_met (interleave_checks family k L size room) ≡ number) × (eqb number 0 ≡ false)
Computed (Plans family k list steps rounds left reads) =
    (first_met (start_checks family k 1 list) ≡ 0) × (unsound (session_of family k 1 list) ≡ false) × HasFigures (session_of family k 1 list) steps rounds left reads
Computed (Pairs family k L list j number smaller larger count) = Holds (Pairs family k L list j number smaller larger count)
Computed (PlanChecks family k L list plan number bad) = Holds (PlanChecks family k L list plan number bad)
Computed (Waves family k list steps) = Holds (Waves family k list steps)
Computed (MostWaves least most waves) = list_from (λ i. most_waves (least + i)) 0 (suc most - least) ≡ replicate (suc most - least) waves
Computed (Starts family k L list number) = Holds (Starts family k L list number)
Computed (BoxGives bytes number) = Holds (BoxGives bytes number)
Computed (BoxReads box s after) =
    (checked_box box ≡ accepted_start s)
    × Each box (λ given nodes. (read_box box nodes ≡ accepted_start s) × (nodes_read box nodes ≡ after (λ j. get_or nodes (j - 1) 0)))
Computed (BoxHolds box j start body) = Holds (BoxHolds box j start body)
Computed (BoxLacks box j number) = Holds (BoxLacks box j number)
Computed (BoxSteps box j a b number) = Each box (λ s nodes. (stepped s nodes j a b ≡ record { refusal = number; session = s }) × (nodes_stepped s nodes j a b ≡ nodes))
Computed (BoxWrites box list other) =
    Each box (λ s nodes. (out : List ℕ) → ltb (length out) (length other) ≡ false
    → (written s (nodes_read box nodes) list out ≡ record { refusal = 0; length = length other; session = s })
    × (out_written s (nodes_read box nodes) list out ≡ other ++ drop (length other) out))
Computed (BoxNames box list) =
    (out : List ℕ) → ltb (length out) (length list) ≡ false
    → (live_listed (checked_box box).session out ≡ record { refusal = 0; length = length list; session = (checked_box box).session })
    × (out_listed (checked_box box).session out ≡ list ++ drop (length list) out)
Computed (Converts theirs ours) =
    (out : List ℕ) → ltb (length out) (length theirs) ≡ false
    → (converted theirs out ≡ record { refusal = 0; length = length theirs }) × (out_converted from_graded theirs out ≡ ours ++ drop (length theirs) out)
    × (converted ours out ≡ record { refusal = 0; length = length ours }) × (out_converted to_graded ours out ≡ theirs ++ drop (length theirs) out)
Computed (ConvertGives bytes room number) = (first_met (conversion_checks bytes room) ≡ number) × (eqb number 0 ≡ false)
Computed (Lists box text) = Holds (Lists box text)
Computed (IsSound family k L list steps reads) = unsound (session_by family k L list steps reads) ≡ false
Computed (TurnedAway family k L list steps reads) = unsound (session_by family k L list steps reads) ≡ true
-- node a has more reads than there are steps
Computed (ServedAnyway family k L list steps reads j a b more) =
    let s = session_by family k L list steps reads in
    (ltb a 256 ≡ true) × (ltb steps (count_of s.reads a) ≡ true)
    × ((byte : ℕ → ℕ) → stepped s (list_from byte 0 (node_count_of s * L)) j a b ≡ record { refusal = 0; session = session_by family k L (list ++ (j ∷ [])) (suc steps) more })

-- and what follows
holds : (row : Row) → Computed row → Holds row
unfolding encode_answer encoded interleave_answer out_moved started start_checks unsound miscounted
holds (Encodes family k L object nodes) (a, is) = λ buffer e. (rw (e, a), rw (e, a, is))
holds (Interleaves family k L object other) (a, is, b, back) = λ out e. (rw (e, a), rw (e, a, is), rw (e, b), rw (e, b, back))
holds (InterleaveGives family k L size room number) (is, some) = λ bytes out e f.
    let given : first_met (interleave_checks family k L (length bytes) (length out)) ≡ number = rw (e, f) is in
    let met : first_met (interleave_checks family k L (length bytes) (length out)) ≡ 0 → ⊥ = λ z. eqb-false number 0 some (sym given ∙ z) in
    (given, kept family k L bytes out interleaved met, kept family k L bytes out deinterleaved met)
holds (Plans family k list steps rounds left reads) (a, start, figures) = λ L h g.
    let same = same_checks family k L h g in
    (rw (same, a), has_plan (session_of family k L list) steps rounds left reads (rw same start) figures)
holds (Pairs family k L list j number smaller larger count) c = c
holds (PlanChecks family k L list plan number bad) c = c
holds (Waves family k list steps) c = c
holds (MostWaves least most waves) c = λ k h g.
    let e : k ≡ least + (k - least) = omega arith in
    let l : k - least < suc most - least = omega arith in
    ap most_waves e ∙ sym (get_or-list_from (λ i. most_waves (least + i)) (suc most - least) (k - least) 0 l)
    ∙ ap (λ (list : List ℕ). get_or list (k - least) 0) c ∙ get_or-replicate (suc most - least) (k - least) waves 0 l
holds (Starts family k L list number) c = c
holds (BoxGives bytes number) c = c
holds (BoxReads box s after) (a, c) = (a, each _ _ c)
holds (BoxHolds box j start body) c = c
holds (BoxLacks box j number) c = c
holds (BoxSteps box j a b number) c = each _ _ c
holds (BoxWrites box list other) c = each _ _ (λ byte out h. c byte out (le-ltb (length out) (length other) h))
holds (BoxNames box list) c = λ out h. c out (le-ltb (length out) (length list) h)
holds (Converts theirs ours) c = λ out h. c out (le-ltb (length out) (length theirs) h)
holds (ConvertGives bytes room number) (is, some) = λ out e.
    let given : first_met (conversion_checks bytes (length out)) ≡ number = ap (λ (m : ℕ). first_met (conversion_checks bytes m)) e ∙ is in
    let met : first_met (conversion_checks bytes (length out)) ≡ 0 → ⊥ = λ z. eqb-false number 0 some (sym given ∙ z) in
    let r = converted_refused bytes out from_graded met in
    (r.0 ∙ ap (λ (m : ℕ). record { refusal = m; length = 0 }) given, r.1, (converted_refused bytes out to_graded met).1)
holds (Lists box text) c = c
holds (IsSound family k L list steps reads) c = not_thirteen_claim (session_by family k L list steps reads) c
holds (TurnedAway family k L list steps reads) c = thirteen_claim (session_by family k L list steps reads) c
holds (ServedAnyway family k L list steps reads j a b more) (low, many, c) =
    (not_reached_claim (session_by family k L list steps reads) a (ltb-true a 256 low) (ltb-true steps _ many), each _ _ c)

all_hold : (rows : List Row) → Every Computed rows → Every Holds rows
all_hold [] c = tt
all_hold (row ∷ rows) (c, cs) = (holds row c, all_hold rows cs)

-- ---- the table

-- one row, and the others
infixr 5 ◌&◌
◌&◌ : {A B : Type 0} → A → B → A × B
a & b = (a, b)

computed : Every Computed table
unfolding started refusal_line encode_checks parameter_checks first_met nodes_buffer joined node_block column_of node_count xor_bytes zip_with start_checks checked_box box_checks some_outside rises set_live unsound miscounted passes_outside sum_of count_all sources_of plan_of waves_of rounds_from steps_for once smaller_node larger_node pairs_among pair_count pairs_checks pairs_found first_from are_related pair_at step_bytes last_round get_last_d nodes_left those_from some_missing steps_in place_in list_from read_box nodes_read read_checks with_bodies with_block block_of body_checks body_of write_checks nodes_checks written out_written box_of flat_map live_checks live_listed out_listed step_checks stepped nodes_stepped listing_of answer_of listing_in first_line step_line last_line field decimal converted out_converted conversion_checks renumbered new_names new_body node_of graded_table below interleave_checks interleaved deinterleaved plan_checked check_checks bad_after is_good follows may_serve times_read steps_with
computed =
    (refl, refl)
    & (refl, λ byte. (refl, refl))
    & (refl, refl, (refl, refl, refl, refl, refl, refl))
    & (refl, refl, (refl, refl, refl, refl, refl, refl))
    & (refl, refl, (refl, refl, refl, refl, refl, refl))
    & (refl, refl, (refl, refl, refl, refl, refl, refl))
    & (refl, refl, (refl, refl, refl, refl, refl, refl))
    & (refl, refl, (refl, refl, refl, refl, refl, refl))
    & (refl, refl, (refl, refl, refl, refl, refl, refl))
    & (λ byte. (refl, refl))
    & (λ byte. (refl, refl))
    & (λ byte. (refl, refl))
    & (refl, refl, (refl, refl, refl, refl, refl, refl))
    & (refl, refl, (refl, refl, refl, refl, refl, refl))
    & refl & refl & refl
    & refl & refl & refl & refl & refl & refl & refl & refl & refl & refl & refl & refl & refl & refl & refl & refl & refl & refl
    & refl & refl & refl & refl & refl & refl
    & refl & refl & refl & refl & refl
    & refl & refl & refl & refl & refl
    & (refl, refl, (refl, refl, refl, refl, refl, refl))
    & (refl, refl, refl)
    & (refl, refl)
    & (λ byte out l. (rw l, rw l))
    & (λ byte out l. (rw l, rw l))
    & (λ byte out l. (rw l, rw l))
    & (refl, λ byte. (refl, refl))
    & (λ byte out l. (rw l, rw l))
    & (λ out l. (rw l, rw l))
    & (λ out l. (rw l, rw l))
    & (λ out l. (rw l, rw l, rw l, rw l))
    & (λ out l. (rw l, rw l, rw l, rw l))
    & (λ out l. (rw l, rw l, rw l, rw l))
    & (λ out l. (rw l, rw l, rw l, rw l))
    & (refl, refl)
    & (refl, refl)
    & (refl, refl)
    & (refl, refl)
    & (refl, refl, refl, refl)
    & (refl, refl, refl, refl)
    & (refl, refl, refl, refl)
    & (refl, refl)
    & (refl, refl)
    & (refl, refl)
    & (refl, refl)
    & (refl, refl)
    & refl
    & (refl, refl)
    & (refl, refl)
    & refl & refl & refl & refl & refl & refl & refl & refl & refl & refl
    & refl & refl & refl & refl & refl & refl & refl
    & refl & refl & refl & refl & refl & refl & refl & refl & refl & refl & refl
    & (refl, refl, λ byte. refl)
    & refl & refl & refl
    & tt

pub examples : Examples
examples = all_hold table computed
