-- `normal::tap::start_line`: the places passed hold their sums.
use Rattle.laws.proofs.Fill.{Filled}
use Rattle.noise.specs.Lines.{at}
use Rattle.normal.specs.Starts.{start_sum}
use Rattle.normal.proofs.tap.start_line.Given as goal

abbrev pub invariant-loop-c : goal.invariant-loop-c
invariant-loop-c l = Filled (λ k. start_sum (at l.line) (at l.averages) l.n k l.lag) l.initial.out l.out l.c
