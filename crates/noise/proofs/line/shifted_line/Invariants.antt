-- `noise::line::shifted_line`: the places passed are filled with the shifted numbers.
use Rattle.laws.proofs.Fill.{Filled}
use Rattle.noise.specs.Shift.{shifted}
use Rattle.noise.specs.Lines.{at}
use Rattle.noise.proofs.line.shifted_line.Given as goal

abbrev pub invariant-loop-i : goal.invariant-loop-i
invariant-loop-i l = Filled (λ k. shifted l.shift.bits (at l.line k)) l.initial.out l.out l.i
