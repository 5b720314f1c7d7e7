-- `ColumnSums::halved`: the parts passed are filled with four times their average.
use Rattle.std.proofs.Common.{◌*◌}
use Rattle.laws.proofs.Fill.{Filled}
use Rattle.noise.specs.Quarters.{quartered}
use Rattle.noise.proofs.column_sums.ColumnSums.halved.Given as goal

abbrev pub invariant-loop-part : goal.invariant-loop-part
invariant-loop-part l = Filled (quartered 1 l.self.sums.now) l.initial.line l.line (l.part * 16)
