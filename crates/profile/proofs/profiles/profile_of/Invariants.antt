-- `profile::profiles::profile_of`: the bins passed have their sigma16.
use Rattle.std.proofs.Common.{get_or}
use Rattle.laws.proofs.Fill.{Filled}
use Rattle.profile.specs.Steps.{sigma_of_bin}
use Rattle.profile.proofs.profiles.profile_of.Given as goal

abbrev pub invariant-loop-j : goal.invariant-loop-j
invariant-loop-j g l = Filled (λ k. sigma_of_bin l.enough l.sigma16 (get_or l.bins.squares k 0) (get_or l.bins.count k 0)) l.initial.figure-items l.figure-items l.j
