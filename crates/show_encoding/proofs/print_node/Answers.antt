-- `show_encoding::print_node` is safe and ends: the node's block lies in the buffer.
use Rattle.std.proofs.Common.{arith}
use Rattle.families.specs.Families.{node_count}
use Rattle.show_encoding.proofs.print_node.Goals as goal

pub column-requires : goal.column-requires
unfolding node_count
column-requires g c = record { first = omega arith; last = omega arith }
