-- `normal::tap::tap_row`: the neighbours of the rows passed have their sums.
use Rattle.std.proofs.Common.{◌≡◌, length}
use Rattle.noise.specs.Lines.{at}
use Rattle.noise.specs.PlanePair.{noise_in}
use Rattle.normal.proofs.TapRows.{Tapping}
use Rattle.normal.proofs.tap.tap_row.Given as goal

abbrev pub invariant-loop-u : goal.invariant-loop-u
invariant-loop-u l =
    (length l.line ≡ l.plane.pair.view.width) × Tapping (noise_in l.plane.pair) (at l.averages) l.plane.pair.view.width l.plane.lag.reach l.y l.initial.row l.row l.u
