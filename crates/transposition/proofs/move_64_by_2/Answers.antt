-- `transposition::move_64_by_2` meets its contract: a tile whose rows lie side by side is loaded as one piece.
use native.Mathlib.Omega.{arith}
use Rattle.transposition.proofs.TileLaws.{piece_in, whole_loaded, moved}
use borrow.Author.Rules.{rules}
use Rattle.transposition.proofs.move_64_by_2.Goals as goal

pub load-tile-requires : goal.load-tile-requires
load-tile-requires c = (search rules, piece_in _ _ (omega (arith, c.requires.reads 63 (omega arith))))

pub returns : goal.returns
returns c =
    moved 6 (whole_loaded c.load-tile.ensures) c.turn-turned.ensures c.store.ensures
