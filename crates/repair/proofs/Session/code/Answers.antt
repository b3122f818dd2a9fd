-- `repair::Session::code` meets its contract: refusals 1 to 3, then the marks, and then the counts.
use mathlib.Core.Path.{◌≡◌, sym, ◌∙◌}
use mathlib.Core.Bool.{true, false}
use Rattle.checks.proofs.RefusalLaws.{refused}
use Rattle.lists.specs.Lists.{live_outside}
use Rattle.repair.specs.Session.{node_count_of}
use Rattle.repair.proofs.CodeLaws.{meets_13, meets_none, nodes_of_code, nodes_few}
use Rattle.repair.proofs.StartLaws.{unsound_parameters, unsound_marks, unsound_counts}
use Rattle.repair.proofs.Session.code.Goals as goal

pub returns-in-Err-clause-number : goal.returns-in-Err-clause-number
returns-in-Err-clause-number c =
    meets_13 _ (unsound_parameters _ (λ z. refused _ (c.in-Err.ensures.number ∙ z)))

pub live_outside-requires : goal.live_outside-requires
live_outside-requires c = nodes_few c.in-Ok.code _ c.node_count-n.ensures

pub returns-then-live_outside-clause-number : goal.returns-then-live_outside-clause-number
returns-then-live_outside-clause-number c =
    let n = nodes_of_code c.args.self _ _ c.in-Ok.ensures.code c.node_count-n.ensures in
    let o : live_outside (node_count_of c.args.self) c.args.self.live ≡ true = sym (rw n at c.live_outside.ensures) ∙ c.if-live_outside.true in
    meets_13 _ (unsound_marks _ (sym c.in-Ok.ensures.number) o)

pub count_live-requires : goal.count_live-requires
count_live-requires c = nodes_few c.in-Ok.code _ c.node_count-n.ensures

pub is_miscounted-requires : goal.is_miscounted-requires
is_miscounted-requires c =
    (nodes_of_code c.args.self _ _ c.in-Ok.ensures.code c.node_count-n.ensures, nodes_few c.in-Ok.code _ c.node_count-n.ensures, c.count_live.ensures)

pub returns-then-is_miscounted-clause-number : goal.returns-then-is_miscounted-clause-number
returns-then-is_miscounted-clause-number c =
    let n = nodes_of_code c.args.self _ _ c.in-Ok.ensures.code c.node_count-n.ensures in
    let o : live_outside (node_count_of c.args.self) c.args.self.live ≡ false = sym (rw n at c.live_outside.ensures) ∙ c.if-live_outside.false in
    meets_13 _ (unsound_counts _ (sym c.in-Ok.ensures.number) o ∙ sym c.is_miscounted.ensures ∙ c.if-is_miscounted.true)

pub returns-clause-number : goal.returns-clause-number
returns-clause-number c =
    let n = nodes_of_code c.args.self _ _ c.in-Ok.ensures.code c.node_count-n.ensures in
    let o : live_outside (node_count_of c.args.self) c.args.self.live ≡ false = sym (rw n at c.live_outside.ensures) ∙ c.if-live_outside.false in
    meets_none _ (unsound_counts _ (sym c.in-Ok.ensures.number) o ∙ sym c.is_miscounted.ensures ∙ c.if-is_miscounted.false)
