-- `noise::sums::plane_sums`: the total is that of the rows passed.
use Rattle.noise.specs.PlanePair.{noise_in}
use Rattle.noise.specs.Seen.{SumsOf}
use Rattle.noise.proofs.sums.plane_sums.Given as goal

abbrev pub invariant-loop-r : goal.invariant-loop-r
invariant-loop-r l = SumsOf (noise_in l.pair) l.r l.pair.view.width l.lag l.shift.bits l.total
