-- `normal::neighbours::neighbour_sums`: each row adds the pairs of which it is the lower row.
use Rattle.std.proofs.Common.{◌≡◌, ◌+◌, ◌-◌, ◌*◌, length}
use Rattle.noise.specs.PlanePair.{noise_in}
use Rattle.positions.specs.Counts.{side}
use Rattle.normal.proofs.Held.{Held}
use Rattle.normal.proofs.neighbours.neighbour_sums.Given as goal

abbrev pub invariant-loop-r : goal.invariant-loop-r
invariant-loop-r l =
    (length l.tables ≡ (l.plane.lag.reach + 1) * (side l.plane.lag.reach * side l.plane.lag.reach))
    × Held (noise_in l.plane.pair) (l.plane.pair.view.width - 2 * l.plane.lag.reach) (side l.plane.lag.reach) (l.plane.lag.reach + 1) (l.plane.pair.view.height - l.plane.lag.reach) l.r l.sums
