-- `families::pairs::rows_before` meets its contract, by what is computed at every place: the sum is small, and its 45/128 are right.
use mathlib.Core.Path.{refl}
use lib.Count.{count_leading_zeros}
use Rattle.base.proofs.Tests.{all_below}
use Rattle.families.specs.Families.{node_count}
use Rattle.families.proofs.PairLaws.{estimate_le, excess_le, rows_found_lem}
use Rattle.families.proofs.pairs.rows_before.Goals as goal

pub count-requires : goal.count-requires
unfolding all_below count_leading_zeros node_count
count-requires c = rw (c.power.ensures, c.bit_length-half.ensures) (estimate_le _ refl _ c.requires)

pub overflow_sub-result : goal.overflow_sub-result
unfolding all_below count_leading_zeros node_count
overflow_sub-result c = rw (c.from.ensures, c.count.ensures, c.power.ensures, c.bit_length-half.ensures) (excess_le _ refl _ c.requires)

pub returns : goal.returns
unfolding all_below count_leading_zeros node_count
returns c = rw (c.from.ensures, c.count.ensures, c.power.ensures, c.bit_length-half.ensures) (rows_found_lem _ refl _ c.requires)
