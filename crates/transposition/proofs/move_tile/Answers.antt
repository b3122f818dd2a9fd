-- `transposition::move_tile` meets its contract: a tile loaded, transposed and stored.
use mathlib.Core.Path.{◌∙◌}
use Prim.Native.Nat.{◌-◌, ◌^◌}
use native.Mathlib.Nat.{mul_comm}
use Rattle.transposition.proofs.TileLaws.{moved, tile_size}
use Rattle.transposition.proofs.move_tile.Goals as goal

pub load-tile-requires : goal.load-tile-requires
load-tile-requires g c = rw (c.power-rows.ensures, c.power-size.ensures) (tile_size g.row.LOG c.requires.0, c.requires.1.reads)

pub store-requires : goal.store-requires
store-requires g c = rw (c.power-rows.ensures, c.power-size.ensures) (mul_comm (2 ^ (7 - g.row.LOG)) (2 ^ g.row.LOG) ∙ tile_size g.row.LOG c.requires.0, c.requires.1.writes)

pub returns : goal.returns
returns g c =
    let p = c.power-rows.ensures in
    let q = c.power-size.ensures in
    moved g.row.LOG (rw (p, q) at c.load-tile.ensures) c.turn-turned.ensures (rw (p, q) at c.store.ensures)
