-- `listing::session_in` meets its contract: the length first, then the checks of a box.
use mathlib.Core.Path.{refl, sym, ap, ◌∙◌}
use mathlib.Core.List.{[]}
use native.Mathlib.Omega.{arith}
use Rattle.repair.specs.Answers.{Started}
use Rattle.listing.proofs.ListingLaws.{too_long, answered, line_said, refused_line}
use Rattle.listing.proofs.session_in.Goals as goal

pub returns-then-input-gt-MOST_BYTES-clause-value : goal.returns-then-input-gt-MOST_BYTES-clause-value
returns-then-input-gt-MOST_BYTES-clause-value c =
    let p = c.put_too_long.ensures.value in
    rw (too_long c.args.input.now [] (omega arith)) (p, omega (arith, p))

pub returns-then-input-gt-MOST_BYTES-clause-out_after : goal.returns-then-input-gt-MOST_BYTES-clause-out_after
returns-then-input-gt-MOST_BYTES-clause-out_after c = rw (too_long c.args.input.now [] (omega arith)) c.put_too_long.ensures.out_after

pub returns-in-Ok-clause-value : goal.returns-in-Ok-clause-value
returns-in-Ok-clause-value c = rw (answered c.args.input.now [] (omega arith) (ap (λ (r : Started). r.refusal) (sym c.in-Ok.ensures))) (refl, omega arith)

pub returns-in-Ok-clause-out_after : goal.returns-in-Ok-clause-out_after
returns-in-Ok-clause-out_after c = rw (answered c.args.input.now [] (omega arith) (ap (λ (r : Started). r.refusal) (sym c.in-Ok.ensures))) refl

pub returns-in-Err-clause-value : goal.returns-in-Err-clause-value
returns-in-Err-clause-value c =
    rw (refused_line c.args.input.now (omega arith) _ c.in-Err.ensures _ (c.from-in-Err.ensures ∙ c.from.ensures)) c.put_refusal_line.ensures.value

pub returns-in-Err-clause-turned_away : goal.returns-in-Err-clause-turned_away
returns-in-Err-clause-turned_away c z = line_said _ (sym c.put_refusal_line.ensures.value.0 ∙ z)

pub returns-in-Err-clause-out_after : goal.returns-in-Err-clause-out_after
returns-in-Err-clause-out_after c =
    rw (refused_line c.args.input.now (omega arith) _ c.in-Err.ensures _ (c.from-in-Err.ensures ∙ c.from.ensures)) c.put_refusal_line.ensures.out_after
