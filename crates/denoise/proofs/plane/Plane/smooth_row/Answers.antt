-- The line is filled from the three rows about the row, and its means are the row of the result.
use Rattle.std.proofs.Common.{◌≡◌, ◌∙◌}
use Rattle.denoise.proofs.Separable.{sums_about, means-smooth}
use Rattle.denoise.proofs.plane.Plane.smooth_row.Goals as goal

pub returns : goal.returns
returns c =
    let A = c.args in
    let P = A.self.now in
    let filled : c.column_sums.new.line ≡ sums_about P.samples.now P.width P.height A.row = cc in
    c.line_means.ensures ∙ rw (filled, c.requires.3) (means-smooth P.samples.now P.width P.height A.row c.requires.1)
