-- `planning::rounds::read_pair` meets its contract: one node after the other.
use Rattle.planning.proofs.ReadLaws.{rest_some}
use Rattle.planning.proofs.rounds.read_pair.Goals as goal

pub overflow_sub-rest : goal.overflow_sub-rest
overflow_sub-rest c =
    let g = c.args in
    let p = c.requires in
    rest_some g.list.now g.free.now g.n g.smaller g.larger p.smaller_value.2 p.le_smaller.0 p.le_smaller.1 p.le_smaller.2 p.smaller_value.0 p.smaller_value.1
