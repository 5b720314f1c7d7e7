-- `luma_fit`: the plane's sums, its energy, then the coefficients.
use Rattle.std.proofs.Common.{◌∙◌, sym}
use Rattle.noise.proofs.Over.{seen-samples}
use Rattle.fit.proofs.LumaSteps.{lag-zero, small, flat, solved, energy-read}
use Rattle.fit.proofs.planes.luma_fit.Goals as goal
use Rattle.fit.proofs.planes.luma_fit.Goals.{then-lag-eq0-via-then-lag-eq0, then-lag-eq0-via-else-lag-eq0+then-too_small}

pub returns-then-lag-eq0 : goal.returns-then-lag-eq0
returns-then-lag-eq0 c = elim c.then-lag-eq0.branch [
  | then-lag-eq0-via-then-lag-eq0 w ↦ lag-zero _ _ _ w.if-lag-eq0.true
  | then-lag-eq0-via-else-lag-eq0+then-too_small w ↦ small _ _ _ (sym w.too_small.ensures ∙ w.if-too_small.true)
]

pub returns-then-nearest_i64_to_f64 : goal.returns-then-nearest_i64_to_f64
returns-then-nearest_i64_to_f64 c =
    let r = c.neighbour_sum-energy in
    let S = seen-samples c.args.plane.now.seen in
    let energy = energy-read _ _ S _ c.neighbour_sums.ensures _ c.neighbours-unknowns.ensures _ (record { sfits = r.type_inv }) r.ensures _ c.nearest_i64_to_f64.ensures in
    flat _ _ _ c.if-lag-eq0.false (sym c.too_small.ensures ∙ c.if-too_small.false) _ energy c.if-nearest_i64_to_f64.true

pub returns : goal.returns
returns c =
    let r = c.neighbour_sum-energy in
    let S = seen-samples c.args.plane.now.seen in
    let energy = energy-read _ _ S _ c.neighbour_sums.ensures _ c.neighbours-unknowns.ensures _ (record { sfits = r.type_inv }) r.ensures _ c.nearest_i64_to_f64.ensures in
    solved _ _ _ c.if-lag-eq0.false (sym c.too_small.ensures ∙ c.if-too_small.false) _ energy c.if-nearest_i64_to_f64.false S
    _ c.neighbour_sums.ensures.entries _ _ _ c.neighbours-unknowns.ensures _ c.coefficients.ensures
