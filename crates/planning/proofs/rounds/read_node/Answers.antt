-- `planning::rounds::read_node` meets its contract: the node stands in the list after the free ones below it.
use mathlib.Core.Path.{refl}
use Rattle.planning.proofs.ReadLaws.{place_inside, read_one}
use Rattle.planning.proofs.rounds.read_node.Goals as goal

pub remove-requires : goal.remove-requires
remove-requires c =
    let g = c.args in
    let p = c.requires.le_node in
    rw c.count_live-place.ensures (place_inside g.list.now g.free.now g.n g.node c.requires.list_value p.0 p.1 p.3)

pub returns : goal.returns
returns c =
    let g = c.args in
    let p = c.requires.le_node in
    record { list_after = read_one g.list.now g.free.now g.n g.node c.requires.list_value p.0 p.1 p.3 _ c.count_live-place.ensures c.remove.ensures; free_after = refl }
