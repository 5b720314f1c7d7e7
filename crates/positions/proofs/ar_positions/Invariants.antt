-- The first i places are the neighbours by number.
use Rattle.laws.proofs.Fill.{Filled}
use Rattle.positions.proofs.Answers.{place_at}
use Rattle.positions.proofs.ar_positions.Given as goal

abbrev pub invariant-loop-i : goal.invariant-loop-i
invariant-loop-i l = Filled (place_at l.lag.reach) l.initial.place-items l.place-items l.i
