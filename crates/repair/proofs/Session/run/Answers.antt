-- `repair::Session::run` meets its contract: the plan is made aside, its steps are carried out one after the other, and
-- they and their reads are counted.
use mathlib.Core.Path.{◌≡◌, sym, ap, ◌∙◌}
use mathlib.Core.List.{List}
use native.Mathlib.Omega.{arith}
use borrow.Author.Rules.{rules}
use lib.ListN.{length}
use Rattle.checks.proofs.RefusalLaws.{refused}
use Rattle.planning.specs.Plan.{Step}
use Rattle.planning.specs.Made.{nodes_made}
use Rattle.repair.proofs.StartLaws.{sized, known, steps_few}
use Rattle.repair.proofs.RepairsLaws.{run_refused, run_made, made_count, made_ran, made_back, made_in}
use Rattle.repair.proofs.Session.run.Goals as goal

pub returns-in-Err-clause-value : goal.returns-in-Err-clause-value
returns-in-Err-clause-value c =
    let g = c.args in
    rw c.refused.ensures (run_refused g.self g.nodes.now _ c.in-Err.ensures.number (refused _)).answer_is

pub returns-in-Err-clause-nodes_after : goal.returns-in-Err-clause-nodes_after
returns-in-Err-clause-nodes_after c =
    let g = c.args in
    (run_refused g.self g.nodes.now _ c.in-Err.ensures.number (refused _)).buffer_is

pub carry_out-requires : goal.carry_out-requires
carry_out-requires c =
    let d = c.draw_up-made in
    let g = c.args in
    let b = sized g.self _ (sym c.in-Ok.ensures.number) in
    let marks : length g.self.live ≡ 256 = search rules in
    made_in g.self d.result d.ensures.value.0 _ _ d.ensures.steps_after (known g.self b.sound).range.blocks marks g.nodes.now b.size

pub count_reads-requires : goal.count_reads-requires
count_reads-requires c =
    let d = c.draw_up-made in
    let g = c.args in
    let few = steps_few g.self (known g.self (sized g.self _ (sym c.in-Ok.ensures.number)).sound) in
    omega (arith, few.1, d.ensures.value.1, made_count g.self d.result d.ensures.value.0 _ _ d.ensures.steps_after)

pub overflow_add-self : goal.overflow_add-self
overflow_add-self c =
    let g = c.args in
    omega (arith, (steps_few g.self (known g.self (sized g.self _ (sym c.in-Ok.ensures.number)).sound)).0, c.draw_up-made.ensures.value.1)

pub returns-clause-value : goal.returns-clause-value
returns-clause-value c =
    let d = c.draw_up-made in
    let g = c.args in
    rw (c.served.ensures, c.from.ensures)
    (made_ran g.self d.result d.ensures.value.0 _ _ d.ensures.steps_after _ c.count_reads.ensures ∙ (run_made g.self g.nodes.now (sym c.in-Ok.ensures.number)).answer_is)

pub returns-clause-nodes_after : goal.returns-clause-nodes_after
returns-clause-nodes_after c =
    let d = c.draw_up-made in
    let g = c.args in
    c.carry_out.ensures
    ∙ ap (λ (steps : List Step). nodes_made g.self.len g.nodes.now steps) (made_back g.self d.result d.ensures.value.0 _ _ d.ensures.steps_after)
    ∙ (run_made g.self g.nodes.now (sym c.in-Ok.ensures.number)).buffer_is
