-- `refilling::refill` meets its contract: an input is turned away, or its box would be too long, or it is refilled.
use mathlib.Core.Path.{◌≡◌, sym, ◌∙◌}
use mathlib.Core.List.{[]}
use Prim.Native.Nat.{◌*◌, ◌≤◌}
use native.Mathlib.Omega.{arith}
use lib.ListN.{length}
use Rattle.checks.specs.Parameters.{most_l}
use Rattle.boxes.specs.Box.{block_length_in, node_count_in}
use Rattle.listing.proofs.ListingLaws.{Accepted, accepted_input, turned, answered}
use Rattle.refilling.specs.Refilled.{refilled_of}
use Rattle.refilling.proofs.Laws.{box, nodes_most, zeros_size, read_given, refilled_long, refilled_is}
use borrow.Author.Rules.{rules}
use Rattle.refilling.proofs.refill.Goals as goal
use Rattle.refilling.proofs.refill.Goals.{After-block_length-len, Else-n-size-gt-MOST_BYTES, In_default}

accepted : (c : In_default) → Accepted c.args.input.now
accepted c = accepted_input _ (sym c.in_default.ensures.value.0)

-- nothing is written yet
kept : (c : In_default) → c.session_in.new.out ≡ c.args.out.now
kept c =
    let a = accepted c in
    c.session_in.ensures.out_after ∙ rw (answered c.args.input.now [] a.fits a.passes)

long : (c : In_default) → length c.session_in.new.out ≡ 65536
long c = search rules

-- the sizes are those of the box
count : (c : After-block_length-len) → c.node_count-n.result ≡ node_count_in c.args.input.now
count c = c.node_count-n.ensures

size : (c : After-block_length-len) → c.node_count-n.result * c.block_length-len.result ≡ node_count_in c.args.input.now * block_length_in c.args.input.now
size c = rw (c.node_count-n.ensures, c.block_length-len.ensures)

small : (c : After-block_length-len) → (node_count_in c.args.input.now ≤ 255) × (node_count_in c.args.input.now * block_length_in c.args.input.now ≤ 255 * most_l)
small c = nodes_most _ (accepted_input _ (sym c.in_default.ensures.value.0)).passes

room : (c : Else-n-size-gt-MOST_BYTES) → c.node_count-n.result * c.block_length-len.result ≤ 65536
room c = omega (arith, c.if-n-size-gt-MOST_BYTES.false)

pub block_length-len-requires : goal.block_length-len-requires
block_length-len-requires c = omega (arith, (box _ (accepted (goal.at.block_length-len-requires c).In_default).passes).size)

pub overflow_mul-size : goal.overflow_mul-size
overflow_mul-size c = omega (arith, size c, (small (goal.at.overflow_mul-size c).After-block_length-len).1)

pub overflow_add-n : goal.overflow_add-n
overflow_add-n c = omega (arith, count c, (small (goal.at.overflow_add-n c).After-block_length-len).0)

pub overflow_add-n-2 : goal.overflow_add-n-2
overflow_add-n-2 c = omega (arith, count c, size c, (small (goal.at.overflow_add-n-2 c).After-block_length-len).0, (small (goal.at.overflow_add-n-2 c).After-block_length-len).1)

pub returns-in-Err : goal.returns-in-Err
unfolding refilled_of
returns-in-Err c =
    let t = c.in-Err.ensures in
    rw (turned c.args.input.now _ (λ z. t.turned_away (t.value.0 ∙ z))) (record { value = (t.value.0, omega (arith, t.value.1)); out_after = t.out_after })

pub node_count-n-requires : goal.node_count-n-requires
node_count-n-requires c = let b = box _ (accepted (goal.at.node_count-n-requires c).In_default).passes in record { in_bounds = omega (arith, b.size); kin_range = b.range.blocks }

pub returns-then-n-size-gt-MOST_BYTES : goal.returns-then-n-size-gt-MOST_BYTES
returns-then-n-size-gt-MOST_BYTES c =
    let p = c.put_too_long.ensures in
    rw (refilled_long c.args.input.now (accepted (goal.at.returns-then-n-size-gt-MOST_BYTES c).In_default) (omega (arith, count (goal.at.returns-then-n-size-gt-MOST_BYTES c).After-block_length-len, size (goal.at.returns-then-n-size-gt-MOST_BYTES c).After-block_length-len, c.if-n-size-gt-MOST_BYTES.true)))
    (record { value = (p.value, omega (arith, p.value)); out_after = p.out_after ∙ rw (kept (goal.at.returns-then-n-size-gt-MOST_BYTES c).In_default) })

pub put_refilled-requires : goal.put_refilled-requires
put_refilled-requires c =
    let all = c.no_blocks-nodes in
    record { input_value = (accepted (goal.at.put_refilled-requires c).In_default).passes; nodes_len = zeros_size all.result 65536 _ all.ensures (room (goal.at.put_refilled-requires c).Else-n-size-gt-MOST_BYTES) ∙ size (goal.at.put_refilled-requires c).After-block_length-len; input_in_bounds = omega (arith, count (goal.at.put_refilled-requires c).After-block_length-len, size (goal.at.put_refilled-requires c).After-block_length-len, c.if-n-size-gt-MOST_BYTES.false, long (goal.at.put_refilled-requires c).In_default) }

pub returns : goal.returns
returns c =
    let all = c.no_blocks-nodes in
    let p = c.put_refilled.ensures in
    let input = c.args.input.now in
    let e = refilled_is input (accepted (goal.at.returns c).In_default) (omega (arith, count (goal.at.returns c).After-block_length-len, size (goal.at.returns c).After-block_length-len, c.if-n-size-gt-MOST_BYTES.false)) in
    let h = read_given input all.result 65536 _ all.ensures (room (goal.at.returns c).Else-n-size-gt-MOST_BYTES) (size (goal.at.returns c).After-block_length-len) in
    rw (e, ← h) (record { value = (p.value, omega (arith, p.upper_bound, long (goal.at.returns c).In_default)); out_after = p.out_after ∙ rw (kept (goal.at.returns c).In_default) })
