-- `normal::rows::row_tables`: the blocks passed are filled.
use Rattle.std.proofs.Common.{◌≡◌, ◌+◌, ◌-◌, ◌*◌}
use Rattle.laws.specs.Table.{tabulate}
use Rattle.noise.specs.PlanePair.{noise_in}
use Rattle.positions.specs.Counts.{side}
use Rattle.normal.proofs.Filling.{Filling}
use Rattle.normal.proofs.rows.row_tables.Given as goal

abbrev pub invariant-loop-d : goal.invariant-loop-d
invariant-loop-d l =
    (l.lo ≡ tabulate l.plane.pair.view.width (noise_in l.plane.pair l.r))
    × Filling (noise_in l.plane.pair) (l.plane.pair.view.width - 2 * l.plane.lag.reach) (side l.plane.lag.reach) (l.plane.lag.reach + 1) l.r l.fn.tables l.tables l.d
