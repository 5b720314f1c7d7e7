-- The rows of the table, each by computation. Assumes nothing.
use mathlib.Core.Path.{refl}
use Rattle.table.specs.Cases.{Right}
use Rattle.laws.specs.Loop.{turns, loop}
use Rattle.positions.specs.Positions.{body, turn, row, positions, positions_of}
use Rattle.positions.specs.Text.{visit_rows, visits, up_to_sample, walk}
use Rattle.table.specs.Positions.{orders, refusals}

pub orders-right : Right positions orders
unfolding turns loop body turn row positions
orders-right = (refl, (refl, tt))

pub walks-right : Right walk orders
unfolding visit_rows visits up_to_sample walk
walks-right = (refl, (refl, tt))

pub refusals-right : Right positions_of refusals
unfolding positions_of
refusals-right = (refl, tt)
