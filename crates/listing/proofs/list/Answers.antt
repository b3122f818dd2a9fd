-- `listing::list` meets its contract: an input is turned away, or its session is listed.
use mathlib.Core.Path.{sym, ap, ◌∙◌}
use mathlib.Core.List.{[]}
use native.Mathlib.Omega.{arith}
use Rattle.repair.specs.Answers.{Started}
use Rattle.listing.specs.Listing.{listing_of}
use Rattle.listing.proofs.PutLaws.{front}
use Rattle.listing.proofs.ListingLaws.{accepted_input, turned, answered, box_known}
use borrow.Author.Rules.{rules}
use Rattle.listing.proofs.list.Goals as goal

pub put_listing-requires-clause-session_value : goal.put_listing-requires-clause-session_value
put_listing-requires-clause-session_value c =
    let e = c.in-Ok.ensures.session in
    rw (ap (λ (r : Started). r.session) e) (box_known _ (ap (λ (r : Started). r.refusal) (sym e)))

pub returns-in-Ok-clause-value : goal.returns-in-Ok-clause-value
unfolding listing_of
returns-in-Ok-clause-value c =
    let a = accepted_input c.args.input.now (sym c.in-Ok.ensures.value.0) in
    rw (answered c.args.input.now _ a.fits a.passes, ← ap (λ (r : Started). r.session) c.in-Ok.ensures.session) ((front c.put_listing.ensures).0, search rules)

pub returns-in-Ok-clause-out_after : goal.returns-in-Ok-clause-out_after
unfolding listing_of
returns-in-Ok-clause-out_after c =
    let a = accepted_input c.args.input.now (sym c.in-Ok.ensures.value.0) in
    rw (answered c.args.input.now _ a.fits a.passes, ← ap (λ (r : Started). r.session) c.in-Ok.ensures.session)
    ((front c.put_listing.ensures).1 ∙ rw (c.session_in.ensures.out_after, answered c.args.input.now [] a.fits a.passes))

pub returns-in-Err-clause-value : goal.returns-in-Err-clause-value
unfolding listing_of
returns-in-Err-clause-value c =
    let t = c.in-Err.ensures in
    rw (turned c.args.input.now _ (λ z. t.turned_away (t.value.0 ∙ z))) (t.value.0, omega (arith, t.value.1))

pub returns-in-Err-clause-out_after : goal.returns-in-Err-clause-out_after
unfolding listing_of
returns-in-Err-clause-out_after c =
    let t = c.in-Err.ensures in
    rw (turned c.args.input.now _ (λ z. t.turned_away (t.value.0 ∙ z))) t.out_after
