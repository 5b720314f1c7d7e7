-- `profile::lines::bins_at`: the places passed are filled.
use Rattle.laws.proofs.Fill.{Filled}
use Rattle.profile.specs.Parts.{coarse_at}
use Rattle.profile.proofs.lines.bins_at.Given as goal

abbrev pub invariant-loop-i : goal.invariant-loop-i
invariant-loop-i l = Filled (coarse_at l.src l.start l.stride l.coarse.bits) l.initial.bins l.bins l.i
