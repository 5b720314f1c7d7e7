-- `component`: the plane's sums, then the coefficients.
use Rattle.std.proofs.Common.{sym, arith, length-take-le}
use Rattle.normal.proofs.Sizes.{sums-few}
use Rattle.fit.proofs.Solutions.{exact-all}
use Rattle.fit.proofs.planes.component.Goals as goal

pub slice_bounds-sums-end : goal.slice_bounds-sums-end
slice_bounds-sums-end c = sym (length-take-le _ _ (omega (arith, sums-few c.args.plane.now.lag.few, c.sums_size-size.ensures)))

pub returns : goal.returns
returns c = exact-all _ _ _ _ _ _ _ (omega (arith, c.neighbours.ensures)) c.neighbour_sums.ensures.entries _ c.coefficients.ensures
