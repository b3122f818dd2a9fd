-- `lists::list_missing` meets its contract: in the marks turned round the missing nodes are live.
use mathlib.Core.Path.{sym}
use Rattle.lists.proofs.MarkLaws.{turned_nodes}
use Rattle.lists.proofs.list_missing.Goals as goal

pub returns : goal.returns
returns c =
    rw (sym (turned_nodes c.args.marks.now c.args.n (search)), sym c.turned-other.ensures) c.list_live.ensures
