-- `validation::is_good` meets its contract: its tests are those of the definition, one by one.
use mathlib.Core.Path.{◌≡◌, sym, ◌∙◌}
use mathlib.Core.Bool.{Bool, not, ◌&&◌}
use mathlib.Core.List.{List}
use Prim.Native.Nat.{ℕ, ◌-◌}
use borrow.Author.Rules.{part_to_end}
use lib.ListN.{length, get_or, take, drop}
use Rattle.families.specs.declared.Family.{Family}
use Rattle.families.specs.Families.{node_count}
use Rattle.lists.specs.Lists.{some_outside}
use Rattle.planning.specs.Made.{step_of_bytes}
use Rattle.validation.specs.Good.{follows}
use Rattle.validation.specs.Inner.{good_by, serves}
use Rattle.validation.proofs.ByteLaws.{three_bytes}
use Rattle.validation.proofs.is_good.Goals as goal
use Rattle.validation.proofs.is_good.Goals.{then-round_follows, else-round_follows}

-- the three tests, on a step of four bytes
tests : (f : Family) (k last : ℕ) (live free : List Bool) (bytes : List ℕ) {n round : ℕ} {follow : Bool} → length bytes ≡ 4
    → n ≡ node_count f k → round ≡ get_or bytes 0 0 → follow ≡ follows last round
    → good_by f k last live free (step_of_bytes bytes) ≡ follow && (not (some_outside n (take (length bytes - 1) (drop 1 bytes))) && serves f k live free (step_of_bytes bytes))
unfolding good_by
tests f k last live free bytes l en er ef = rw (ef, er, en, part_to_end bytes 1, three_bytes bytes l)

pub returns-then-not-some_outside : goal.returns-then-not-some_outside
returns-then-not-some_outside c =
    let g = c.args in
    let t = tests g.columns.now.code.family g.columns.now.code.k g.last g.live.now g.free.now g.step.now c.requires.0 c.requires.1 c.from.ensures c.round_follows.ensures in
    elim c.if-round_follows.branch [
      | then-round_follows w ↦ c.pair_serves.ensures ∙ sym (t ∙ rw (w.if-round_follows.true, ← w.some_outside.ensures, ← w.value-is, c.if-not-some_outside.true))
      | else-round_follows w ↦ cc
    ]

pub returns-else-not-some_outside : goal.returns-else-not-some_outside
returns-else-not-some_outside c =
    let g = c.args in
    let t = tests g.columns.now.code.family g.columns.now.code.k g.last g.live.now g.free.now g.step.now c.requires.0 c.requires.1 c.from.ensures c.round_follows.ensures in
    elim c.if-round_follows.branch [
      | then-round_follows w ↦ c.if-not-some_outside.false ∙ sym (t ∙ rw (w.if-round_follows.true, ← w.some_outside.ensures, ← w.value-is, c.if-not-some_outside.false))
      | else-round_follows w ↦ c.if-not-some_outside.false ∙ sym (t ∙ rw w.if-round_follows.false)
    ]
