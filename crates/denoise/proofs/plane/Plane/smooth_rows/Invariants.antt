-- The rows so far.
use Rattle.std.proofs.Common.{◌≡◌, ◌*◌, take}
use Rattle.laws.specs.Table.{tabulate}
use Rattle.denoise.proofs.Rows.{entry}
use Rattle.denoise.proofs.plane.Plane.smooth_rows.Given as goal

abbrev pub invariant-loop-row : goal.invariant-loop-row
invariant-loop-row l =
    let p = l.self in
    take (l.row * p.width) l.dst ≡ tabulate (l.row * p.width) (entry p.samples.now p.width p.height)
