-- `ExactSums::right_sum`: as `cell_sum`, with the sample.
use Rattle.std.proofs.Common.{ap, ◌∙◌, arith, w64, rules}
use lib.Ieee.{Float, binary64, div, of_int}
use mir.ValLaws.{to_z-of_z}
use Rattle.laws.specs.Constants.{four}
use Rattle.laws.proofs.Constants.{four-bits}
use Rattle.noise.specs.Lines.{at}
use Rattle.normal.specs.Layout.{sum_at}
use Rattle.fit.proofs.Cells.{right-whole, right-quarters}
use Rattle.fit.proofs.equations.ExactSums.right_sum.Goals as goal

pub returns-then-i-n : goal.returns-then-i-n
returns-then-i-n c =
    let e = c.args.self.now in
    right-whole _ _ _ _ _ (omega arith)
    (c.nearest_i64_to_f64.ensures
    ∙ ap (of_int binary64) (to_z-of_z w64 _ (record { sfits = c.neighbour_sum-whole.type_inv }) ∙ c.neighbour_sum-whole.ensures ∙ ap (sum_at e.sums.now e.lag.reach c.args.i) c.neighbours-n.ensures))

pub returns-else-i-n : goal.returns-else-i-n
returns-else-i-n c =
    let e = c.args.self.now in
    right-quarters _ _ _ _ _ (omega arith) (rw four-bits (ap (λ (x : Float). div binary64 x four) (c.nearest_i64_to_f64-else-i-n.ensures ∙ ap (of_int binary64) (to_z-of_z w64 _ (search rules) ∙ ap (at e.taps.now) c.neighbours-n.ensures))))
