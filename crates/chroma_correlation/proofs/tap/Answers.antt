-- `chroma_correlation::tap`: the exact sums as f64, then one division.
use Rattle.std.proofs.Common.{◌∙◌}
use lib.Ieee.{binary64, div}
use Rattle.laws.proofs.Constants.{four-bits, sixteen-bits, tiny-bits}
use Rattle.float.specs.Reading.{both}
use Rattle.chroma_correlation.proofs.Averages.{in-sixteenths, in-quarters}
use Rattle.chroma_correlation.proofs.Taps.{flat, quotient}
use Rattle.chroma_correlation.proofs.tap.Goals as goal

pub returns-then-energy : goal.returns-then-energy
returns-then-energy c =
    flat both _ _ _ ((λ i. div binary64 (c.nearest_i64_to_f64-energy.ensures i) (sixteen-bits i)) ∙ in-sixteenths c.args.squares c.requires.1) (rw (← tiny-bits) c.if-energy.true)

pub returns : goal.returns
returns c =
    quotient both _ _ _ ((λ j. div binary64 (c.nearest_i64_to_f64-energy.ensures j) (sixteen-bits j)) ∙ in-sixteenths c.args.squares c.requires.1) _ _
    ((λ j. div binary64 (c.nearest_i64_to_f64-cross.ensures j) (four-bits j)) ∙ in-quarters c.args.products c.requires.0) (rw (← tiny-bits) c.if-energy.false) c.quant_ar.ensures
