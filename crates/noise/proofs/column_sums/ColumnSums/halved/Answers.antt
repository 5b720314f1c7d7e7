-- `ColumnSums::halved`: all pairs are filled after the last part, and a last column is counted twice.
use Rattle.std.proofs.Common.{◌≡◌, ◌/◌, length, arith}
use Rattle.laws.proofs.Fill.{fill-turn, fill-ends}
use Rattle.laws.proofs.Is.{again}
use Rattle.noise.proofs.FillPart.{fill-part}
use Rattle.noise.proofs.Quarters.{last-is}
use Rattle.noise.proofs.column_sums.ColumnSums.halved.Goals as goal

pub loop-part-preserved : goal.loop-part-preserved
loop-part-preserved c = fill-part c.loop-part.invariant _ (omega arith) _ (omega arith) c.halved_part.ensures

pub returns-then-pairs-line : goal.returns-then-pairs-line
returns-then-pairs-line c =
    let sums = c.args.self.sums.now in
    let pairs = length sums / 2 in
    let e : c.loop-part.part ≡ pairs / 16 = omega arith in
    let all = rw e at c.loop-part.invariant in
    let paired = fill-part all _ (omega arith) pairs (omega arith) c.halved_part-2.ensures in
    fill-ends _ _ (fill-turn _ _ _ paired (omega arith) (again (last-is sums c.args.self.small pairs (omega arith))).eq) (omega arith)

pub returns-else-pairs-line : goal.returns-else-pairs-line
returns-else-pairs-line c =
    let pairs = length c.args.self.sums.now / 2 in
    let e : c.loop-part.part ≡ pairs / 16 = omega arith in
    let all = rw e at c.loop-part.invariant in
    fill-ends _ _ (fill-part all _ (omega arith) pairs (omega arith) c.halved_part-2.ensures) (omega arith)
