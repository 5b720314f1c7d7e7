-- `ColumnSums::halved_part`: the places passed are filled with four times the average.
use Rattle.std.proofs.Common.{◌+◌}
use Rattle.laws.proofs.Fill.{Filled}
use Rattle.noise.specs.Quarters.{quartered}
use Rattle.noise.proofs.column_sums.ColumnSums.halved_part.Given as goal

abbrev pub invariant-loop-k : goal.invariant-loop-k
invariant-loop-k l = Filled (λ k. quartered 1 l.self.sums.now (l.from + k)) l.initial.part l.part l.k
