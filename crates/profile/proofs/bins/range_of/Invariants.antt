-- `profile::bins::range_of`: the range of the bins passed.
use Rattle.profile.proofs.Kept.{BetweenTo}
use Rattle.profile.proofs.bins.range_of.Given as goal

abbrev pub invariant-loop-bin : goal.invariant-loop-bin
invariant-loop-bin l = BetweenTo l.bins l.least l.greatest l.bin-index
