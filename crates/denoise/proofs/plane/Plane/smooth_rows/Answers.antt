-- Each turn stores one row more of the denoised plane.
use Rattle.std.proofs.Common.{◌+◌, ◌*◌, ◌≤◌, arith}
use Rattle.denoise.proofs.Rows.{row_within, rows_more, rows_all}
use Rattle.denoise.proofs.plane.Plane.smooth_rows.Goals as goal

pub loop-row-preserved : goal.loop-row-preserved
loop-row-preserved c =
    let P = c.args.self.now in
    let L = c.loop-row in
    let fits : L.row * P.width + P.width ≤ P.width * P.height = row_within P.width P.height L.row (omega arith) in
    rows_more P.samples.now P.width P.height L.row L.dst _ _ (omega arith) L.invariant c.smooth_row.ensures

pub returns : goal.returns
returns c =
    let P = c.args.self.now in
    let L = c.loop-row in
    rows_all P.samples.now P.width P.height L.row L.dst (omega arith) (omega arith) (omega arith) L.invariant
