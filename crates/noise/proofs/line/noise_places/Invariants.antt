-- `noise::line::noise_places`: the places passed are filled with their noise.
use Rattle.laws.proofs.Fill.{Filled}
use Rattle.noise.specs.Lines.{row_noise}
use Rattle.noise.proofs.line.noise_places.Given as goal

abbrev pub invariant-loop-i : goal.invariant-loop-i
invariant-loop-i l = Filled (row_noise l.src l.den l.start l.stride) l.initial.line l.line l.i
