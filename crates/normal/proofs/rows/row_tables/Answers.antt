-- `normal::rows::row_tables`: a block more; and after the last the tables are whole.
use Rattle.std.proofs.Common.{◌+◌, ◌<◌, min, arith}
use Rattle.normal.proofs.Filling.{tables-turn, tables_end}
use Rattle.normal.proofs.rows.row_tables.Goals as goal

pub loop-d-preserved : goal.loop-d-preserved
loop-d-preserved c =
    let H = c.loop-d.invariant in
    let above : c.loop-d.d < min (c.args.plane.now.lag.reach + 1) (c.args.r + 1) = omega arith in
    (H.0, rw c.side-side.ensures (tables-turn H.1 above c.pair_table.ensures))

pub returns : goal.returns
returns c = tables_end c.loop-d.invariant.1 (omega arith)
