-- `boxes::check_page` meets its contract: its tests are the list's conditions, in the list's order.
use mathlib.Core.Path.{◌≡◌, refl, sym, ap₂, ◌∙◌}
use mathlib.Core.Bool.{true}
use mathlib.Core.List.{List}
use Prim.Native.Nat.{ℕ, ◌+◌, ◌*◌, ◌≤◌}
use native.Mathlib.Omega.{arith}
use borrow.Author.Tests.{lt-ltb, le-ltb, eq-eqb, ne_eqb}
use lib.ListN.{length}
use Rattle.boxes.specs.Box.{held_count_in, block_length_in, zeros_in, node_count_in, box_length}
use Rattle.boxes.proofs.Answers.{n_is, by_tests}
use Rattle.boxes.proofs.check_page.Goals as goal
use Rattle.boxes.proofs.check_page.Goals.{After-node_count-n, Else-bytes-full, Else-n-count, Else-not-zero}

abbrev box : After-node_count-n → List ℕ
box c = c.args.bytes.now

-- ---- the tests, once all is worked out
zeros_are : (c : After-node_count-n) → c.zeros-zero.result ≡ zeros_in (box c)
zeros_are c = c.zeros-zero.ensures

full_is : (c : After-node_count-n) → 8 + c.held_count-count.result + c.held_count-count.result * c.block_length-len.result ≡ box_length (held_count_in (box c)) (block_length_in (box c))
full_is c = ap₂ box_length c.held_count-count.ensures c.block_length-len.ensures

-- 8 is passed
zero : (c : Else-not-zero) → zeros_in c.args.bytes.now ≡ true
zero c = sym c.zeros-zero.ensures ∙ c.if-not-zero.false

-- so is 9
up_to_n : (c : Else-n-count) → let b = c.args.bytes.now in held_count_in b ≤ node_count_in b
up_to_n c =
    omega (arith, n_is c.args.bytes.now c.requires.code_value c.node_count-n.ensures, c.held_count-count.ensures, c.if-n-count.false)

-- and 7
right : (c : Else-bytes-full) → let b = c.args.bytes.now in length b ≡ box_length (held_count_in b) (block_length_in b)
right c = c.if-bytes-full.false ∙ ap₂ box_length c.held_count-count.ensures c.block_length-len.ensures

pub returns-then-not-zero : goal.returns-then-not-zero
returns-then-not-zero c = sym (by_tests c.args.bytes.now (sym (zeros_are (goal.at.returns-then-not-zero c).After-node_count-n) ∙ c.if-not-zero.true) refl refl)

pub returns-then-n-count : goal.returns-then-n-count
returns-then-n-count c =
    let b = c.args.bytes.now in
    sym (by_tests b (zero (goal.at.returns-then-n-count c).Else-not-zero) refl (lt-ltb (node_count_in b) (held_count_in b) (omega (arith, n_is b c.requires.code_value c.node_count-n.ensures, c.held_count-count.ensures, c.if-n-count.true))))

pub returns-then-bytes-full : goal.returns-then-bytes-full
returns-then-bytes-full c = sym (by_tests c.args.bytes.now (zero (goal.at.returns-then-bytes-full c).Else-not-zero) (ne_eqb _ _ (rw (full_is (goal.at.returns-then-bytes-full c).After-node_count-n) at c.if-bytes-full.true)) (le-ltb _ _ (up_to_n (goal.at.returns-then-bytes-full c).Else-n-count)))

pub returns : goal.returns
returns c =
    (rw (n_is c.args.bytes.now c.requires.code_value c.node_count-n.ensures, c.names.ensures) at c.check.ensures)
    ∙ sym (by_tests c.args.bytes.now (zero (goal.at.returns c).Else-not-zero) (eq-eqb _ _ (right (goal.at.returns c).Else-bytes-full)) (le-ltb _ _ (up_to_n (goal.at.returns c).Else-n-count)))
