-- `ColumnSums::halved_part`: a turn stores four times the average of its two columns.
use Rattle.std.proofs.Common.{◌+◌, arith}
use Rattle.laws.proofs.Fill.{fill-turn}
use Rattle.laws.proofs.Is.{again}
use Rattle.noise.proofs.Quarters.{even_is}
use Rattle.noise.proofs.column_sums.ColumnSums.halved_part.Goals as goal

pub loop-k-preserved : goal.loop-k-preserved
loop-k-preserved c =
    fill-turn _ _ _ c.loop-k.invariant c.loop-k-test.true (again (even_is _ c.args.self.small (c.args.from + c.loop-k.k) (omega arith))).eq
