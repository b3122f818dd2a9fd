-- `transposition::move_2_by_64` meets its contract: a tile whose columns come to lie side by side is stored as one piece.
use native.Mathlib.Omega.{arith}
use Rattle.transposition.proofs.TileLaws.{piece_in, whole_stored, moved}
use borrow.Author.Rules.{rules}
use Rattle.transposition.proofs.move_2_by_64.Goals as goal

pub store-requires : goal.store-requires
store-requires c = (search rules, piece_in _ _ (omega (arith, c.requires.writes 63 (omega arith))))

pub returns : goal.returns
returns c =
    moved 1 c.load-tile.ensures c.turn-turned.ensures (whole_stored c.store.ensures)
