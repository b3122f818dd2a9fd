-- `repair::Session::step` meets its contract: a refusal changes nothing, and an accepted step mends one block, sets one
-- mark, and adds one to the steps and to two counts.
use mathlib.Core.Path.{◌≡◌, ◌∙◌, sym}
use mathlib.Core.List.{List, flat_map}
use Prim.Native.Nat.{ℕ, ◌≤◌, ◌<◌}
use native.Mathlib.Omega.{arith}
use Rattle.families.proofs.Laws.{few}
use Rattle.checks.specs.Checks.{first_met}
use Rattle.checks.proofs.RefusalLaws.{refused}
use Rattle.lists.specs.Lists.{set_live}
use Rattle.counts.specs.Counts.{one_more, count_all, sum_of}
use Rattle.counts.proofs.Laws.{count_most, sum_one_most}
use Rattle.planning.specs.Plan.{sources_of}
use Rattle.repair.specs.declared.Session.{Session}
use Rattle.repair.specs.Step.{step_checks, named_step}
use Rattle.repair.proofs.StartLaws.{known, steps_few}
use Rattle.repair.proofs.StepLaws.{AcceptedStep, step_refused, step_made, accepted_step, step_range, step_blocks}
use Rattle.repair.proofs.Session.step.Goals as goal

module _ (s : Session) (nodes : List ℕ) (j a b : ℕ) (none : 0 ≡ first_met (step_checks s nodes j a b)) where
  -- the step as one of a plan's would be
  is_accepted : AcceptedStep s nodes (named_step j a b)
  is_accepted = accepted_step _ _ _ (sym none)

  -- the three numbers have a mark and a count
  small : (j < 256) × (a < 256) × (b < 256)
  small =
      let m = is_accepted.makes in
      let most = few _ _ (step_range _ _ _ is_accepted) in
      (omega (arith, m.node.last, most), omega (arith, m.smaller.last, most), omega (arith, m.larger.last, most))

  -- the steps and their reads are small numbers
  counts_small : (s.steps ≤ 255) × (sum_of s.reads ≤ 510)
  counts_small = steps_few s (known s is_accepted.buffer.sound)

pub returns-in-Err-clause-value : goal.returns-in-Err-clause-value
returns-in-Err-clause-value c =
    let e = c.in-Err.ensures in
    rw c.refused.ensures (step_refused _ _ _ _ _ _ e (refused _)).answer_is

pub returns-in-Err-clause-nodes_after : goal.returns-in-Err-clause-nodes_after
returns-in-Err-clause-nodes_after c = (step_refused _ _ _ _ _ _ c.in-Err.ensures (refused _)).buffer_is

pub xor_block-requires-clause-in_buffer : goal.xor_block-requires-clause-in_buffer
xor_block-requires-clause-in_buffer c = let b = step_blocks _ _ _ (is_accepted _ _ _ _ _ c.in_default.ensures) in (b.node, b.smaller, b.larger)

pub xor_block-requires-clause-fact : goal.xor_block-requires-clause-fact
xor_block-requires-clause-fact c = let b = step_blocks _ _ _ (is_accepted _ _ _ _ _ c.in_default.ensures) in (b.not_smaller, b.not_larger)

pub bounds-self-node : goal.bounds-self-node
bounds-self-node c = (small _ _ _ _ _ c.in_default.ensures).0

pub overflow_add-self : goal.overflow_add-self
overflow_add-self c = omega (arith, counts_small _ _ _ _ _ c.in_default.ensures)

pub offset_bounds-self-first : goal.offset_bounds-self-first
offset_bounds-self-first c = omega (arith, small _ _ _ _ _ c.in_default.ensures)

pub bounds-self-first : goal.bounds-self-first
bounds-self-first c = (small _ _ _ _ _ c.in_default.ensures).1

pub overflow_add-self-2 : goal.overflow_add-self-2
overflow_add-self-2 c =
    let g = c.args in
    omega (arith, (counts_small _ _ _ _ _ c.in_default.ensures).1, count_most g.self.reads g.first)

pub bounds-self-first-2 : goal.bounds-self-first-2
bounds-self-first-2 c = (small _ _ _ _ _ c.in_default.ensures).1

pub offset_bounds-self-second : goal.offset_bounds-self-second
offset_bounds-self-second c = omega (arith, small _ _ _ _ _ c.in_default.ensures)

pub bounds-self-second : goal.bounds-self-second
bounds-self-second c = (small _ _ _ _ _ c.in_default.ensures).2

pub overflow_add-self-3 : goal.overflow_add-self-3
overflow_add-self-3 c =
    let g = c.args in
    let reads = g.self.reads in
    omega (arith, (counts_small _ _ _ _ _ c.in_default.ensures).1, count_most (one_more reads g.first) g.second, sum_one_most reads g.first)

pub bounds-self-second-2 : goal.bounds-self-second-2
bounds-self-second-2 c = (small _ _ _ _ _ c.in_default.ensures).2

pub returns-clause-value : goal.returns-clause-value
unfolding set_live count_all sources_of flat_map
returns-clause-value c =
    let g = c.args in
    rw c.served.ensures (step_made g.self g.nodes.now g.node g.first g.second (sym c.in_default.ensures)).answer_is

pub returns-clause-nodes_after : goal.returns-clause-nodes_after
returns-clause-nodes_after c =
    let g = c.args in
    c.xor_block.ensures ∙ (step_made g.self g.nodes.now g.node g.first g.second (sym c.in_default.ensures)).buffer_is
