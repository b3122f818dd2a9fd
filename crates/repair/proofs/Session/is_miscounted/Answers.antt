-- `repair::Session::is_miscounted` meets its contract: the steps against the live nodes, the counts that are no nodes', and the sum.
use mathlib.Core.Path.{◌≡◌, sym, ap, ◌∙◌}
use Prim.Native.Nat.{ℕ, ◌≤◌}
use native.Mathlib.Omega.{arith}
use lib.ListN.{length}
use Rattle.lists.specs.Lists.{live_nodes}
use Rattle.lists.proofs.Laws.{live_nodes_few}
use Rattle.counts.specs.Counts.{counted_outside}
use Rattle.repair.specs.Session.{node_count_of}
use Rattle.repair.proofs.StartLaws.{miscounted_steps, miscounted-outside, miscounted_sum}
use Rattle.repair.proofs.Session.is_miscounted.Goals as goal
use Rattle.repair.proofs.Session.is_miscounted.Goals.{After-counted_outside, Start}

-- the live nodes are counted, and whether a count is no node's is known
count_is : (c : Start) → let s = c.args.self in c.args.live ≡ length (live_nodes s.live (node_count_of s))
count_is c = c.requires.2 ∙ ap (λ (n : ℕ). length (live_nodes c.args.self.live n)) c.requires.0

outside_is : (c : After-counted_outside) → let s = c.args.self in c.counted_outside.result ≡ counted_outside (node_count_of s) s.reads
outside_is c = c.counted_outside.ensures ∙ ap (λ (n : ℕ). counted_outside n c.args.self.reads) c.requires.0

-- the steps are at most the live nodes
few_steps : (c : After-counted_outside) → let s = c.args.self in s.steps ≤ length (live_nodes s.live (node_count_of s))
few_steps c = omega (arith, count_is c.before.before.before.before, c.if-live-self.false)

pub returns-then-live-self : goal.returns-then-live-self
returns-then-live-self c = sym (miscounted_steps c.args.self (omega (arith, count_is (goal.at.returns-then-live-self c).Start, c.if-live-self.true)))

pub returns-then-counted_outside : goal.returns-then-counted_outside
returns-then-counted_outside c = sym (miscounted-outside c.args.self (sym (outside_is (goal.at.returns-then-counted_outside c).After-counted_outside) ∙ c.if-counted_outside.true))

pub overflow_mul-result : goal.overflow_mul-result
overflow_mul-result c =
    record { fits = omega (arith, few_steps (goal.at.overflow_mul-result c).After-counted_outside, live_nodes_few c.args.self.live (node_count_of c.args.self), c.requires.0, c.requires.1) }

pub returns : goal.returns
returns c =
    let s = c.args.self in
    rw c.sum.ensures (sym (miscounted_sum s (few_steps (goal.at.returns c).After-counted_outside) (sym (outside_is (goal.at.returns c).After-counted_outside) ∙ c.if-counted_outside.false)))
