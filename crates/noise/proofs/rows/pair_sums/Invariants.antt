-- `noise::rows::pair_sums`: the total is that of the rows passed.
use Rattle.noise.specs.PlanePair.{noise_in}
use Rattle.noise.specs.Seen.{CrossOf}
use Rattle.noise.proofs.rows.pair_sums.Given as goal

abbrev pub invariant-loop-r : goal.invariant-loop-r
invariant-loop-r l = CrossOf (noise_in l.frames.first) (noise_in l.frames.second) l.r l.frames.first.view.width l.total
