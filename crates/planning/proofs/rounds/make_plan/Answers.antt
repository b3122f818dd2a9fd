-- `planning::rounds::make_plan` meets its contract: each turn makes a round, until one has no steps.
use Prim.Native.Nat.{◌≤◌}
use native.Mathlib.Omega.{arith}
use borrow.Author.Rules.{rules}
use Rattle.families.proofs.Laws.{few}
use Rattle.lists.proofs.Laws.{live_nodes_few}
use Rattle.planning.proofs.PlannedLaws.{rounds_none, all_few, round_fits, rounds_again, rounds_answer, rounds_bytes}
use Rattle.planning.proofs.rounds.make_plan.Goals as goal
use Rattle.planning.proofs.rounds.make_plan.Goals.{At-loop-columns}

-- the steps and rounds so far
so_few : (t : At-loop-columns) → (t.loop-columns.steps ≤ 255) × (t.loop-columns.rounds ≤ 255)
so_few t =
    let w = t.loop-columns.invariant in
    let h : t.loop-columns.steps ≤ 255 = omega (arith, all_few w, few _ _ w.range) in
    (h, omega (arith, w.fewer))

pub loop-columns-init : goal.loop-columns-init
loop-columns-init c = rounds_none (search) (search rules) (search)

pub overflow_add-rounds : goal.overflow_add-rounds
overflow_add-rounds c = omega (arith, so_few (goal.at.overflow_add-rounds c).At-loop-columns)

pub overflow_mul-steps : goal.overflow_mul-steps
overflow_mul-steps c = omega (arith, so_few (goal.at.overflow_mul-steps c).At-loop-columns)

pub overflow_add-steps : goal.overflow_add-steps
overflow_add-steps c =
    let w = c.loop-columns.invariant in
    let e = (rw c.new-columns.ensures at c.plan_round-made.ensures.value) in
    omega (arith, all_few w, e, few _ _ w.range)

pub overflow_add-rounds-in-loop-columns : goal.overflow_add-rounds-in-loop-columns
overflow_add-rounds-in-loop-columns c = omega (arith, so_few (goal.at.overflow_add-rounds-in-loop-columns c).At-loop-columns)

pub loop-columns-smaller : goal.loop-columns-smaller
loop-columns-smaller c =
    let w = c.loop-columns.invariant in
    let e = (rw c.new-columns.ensures at c.plan_round-made.ensures.value) in
    omega (arith, all_few w, w.fewer, e, c.node_count-n.ensures)

pub loop-columns-preserved : goal.loop-columns-preserved
loop-columns-preserved c =
    let e = (rw c.new-columns.ensures at c.plan_round-made.ensures) in
    rw (e.value, e.out_after, e.next_after) (rounds_again c.loop-columns.invariant (omega (arith, e.value)))

pub count_live-live_count-requires : goal.count_live-live_count-requires
count_live-live_count-requires c =
    omega (arith, c.node_count-n.ensures, few _ _ c.loop-columns.invariant.range)

pub overflow_sub-result : goal.overflow_sub-result
overflow_sub-result c = rw c.count_live-live_count.ensures (live_nodes_few c.loop-columns.marks _)

pub plan_round-made-requires : goal.plan_round-made-requires
plan_round-made-requires c =
    let w = c.loop-columns.invariant in
    rw c.new-columns.ensures (record { round_bound = omega (arith, all_few w, w.fewer, few _ _ w.range); round_in_bounds = round_fits w })

pub returns : goal.returns
returns c =
    let w = c.loop-columns.invariant in
    let e = (rw c.new-columns.ensures at c.plan_round-made.ensures) in
    record { value = rw (c.count_live-live_count.ensures, c.node_count-n.ensures) (rounds_answer w (omega (arith, e.value))); out_after = rounds_bytes w (omega (arith, e.value)) e.out_after }
