-- `quantise`: each value in turn.
use Rattle.std.proofs.Common.{rules}
use Rattle.std.specs.Float.{nan}
use Rattle.float.specs.Reading.{quantise}
use Rattle.fit.specs.Steps.{quantised}
use Rattle.laws.proofs.Made.{mapped}
use Rattle.fit.proofs.coefficients.quantise.Goals as goal

pub returns : goal.returns
unfolding quantised
returns c = mapped _ _ quantise (λ x y q k. search (rules, k)) nan c.map.ensures.items
