-- `repair::Session::make_steps` meets its contract: the steps are carried out one after the other, and they and their reads are counted.
use mathlib.Core.Path.{◌≡◌}
use Prim.Native.Nat.{◌/◌, ◌≤◌}
use native.Mathlib.Omega.{arith}
use borrow.Author.Rules.{rules}
use lib.ListN.{length}
use Rattle.counts.specs.Counts.{sum_of}
use Rattle.repair.proofs.StartLaws.{known, steps_few}
use Rattle.repair.proofs.RepairsLaws.{bytes_few, bytes_in, bytes_made}
use Rattle.repair.proofs.Session.make_steps.Goals as goal
use Rattle.repair.proofs.Session.make_steps.Goals.{Start}

marks : (c : Start) → length c.args.self.live ≡ 256
marks c = search rules

-- the session's own steps and those to be made are few
few_steps : (c : Start) → let s = c.args.self in (s.steps ≤ 255) × (sum_of s.reads ≤ 510) × (length c.args.steps.now / 4 ≤ 255)
few_steps c =
    let s = c.args.self in
    let w = steps_few s (known s c.requires.self_value.0) in
    (w.0, w.1, bytes_few s c.requires.self_value.0 (marks c) c.args.steps.now _ c.requires.can_make_all)

pub overflow_add-self : goal.overflow_add-self
overflow_add-self c = record { fits = omega (arith, few_steps (goal.at.overflow_add-self c).Start) }

pub carry_out-requires : goal.carry_out-requires
carry_out-requires c = bytes_in c.args.self c.requires.self_value.0 (marks (goal.at.carry_out-requires c).Start) c.args.steps.now _ c.requires.can_make_all c.args.nodes.now c.requires.self_value.1

pub count_reads-requires : goal.count_reads-requires
count_reads-requires c = omega (arith, few_steps (goal.at.count_reads-requires c).Start)

pub returns-clause-value : goal.returns-clause-value
returns-clause-value c = bytes_made c.args.self c.requires.self_value.0 (marks (goal.at.returns-clause-value c).Start) c.args.steps.now _ c.requires.can_make_all _ _ c.requires.live_value c.count_reads.ensures
