-- `noise::average::added_places`: the columns passed are filled with the sum of their two noises.
use Rattle.std.proofs.Common.{◌+ℤ◌}
use Rattle.laws.proofs.Fill.{Filled}
use Rattle.noise.specs.PlanePair.{noise_in}
use Rattle.noise.proofs.average.added_places.Given as goal

abbrev pub invariant-loop-c : goal.invariant-loop-c
invariant-loop-c l = Filled (λ c. noise_in l.pair l.upper c +ℤ noise_in l.pair l.lower c) l.initial.sums l.sums l.c
