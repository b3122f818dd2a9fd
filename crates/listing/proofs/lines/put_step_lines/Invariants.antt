-- `listing::lines::put_step_lines` meets its contract. The loop's invariant: the lines of the steps passed are put.
use mathlib.Core.List.{flat_map}
use Prim.Native.Nat.{◌/◌}
use lib.ListN.{length}
use Rattle.planning.specs.Made.{steps_in}
use Rattle.listing.specs.Text.{step_line}
use Rattle.listing.proofs.LineLaws.{Lined}
use Rattle.listing.proofs.lines.put_step_lines.Given as goal

abbrev pub invariant-loop-i : goal.invariant-loop-i
invariant-loop-i l = Lined (λ j. flat_map step_line (steps_in l.steps j)) 16 (length l.steps / 4) l.initial.out l.at l.out l.next l.i
