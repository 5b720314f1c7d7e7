-- `ColumnSums::kept`: a turn stores four times the average of its column.
use Rattle.std.proofs.Common.{arith}
use Rattle.laws.proofs.Fill.{fill-turn}
use Rattle.laws.proofs.Is.{again}
use Rattle.noise.proofs.Quarters.{kept-is}
use Rattle.noise.proofs.column_sums.ColumnSums.kept.Goals as goal

pub loop-k-preserved : goal.loop-k-preserved
loop-k-preserved c =
    fill-turn _ _ _ c.loop-k.invariant c.loop-k-test.true (again (kept-is _ c.args.self.small c.loop-k.k (omega arith))).eq
