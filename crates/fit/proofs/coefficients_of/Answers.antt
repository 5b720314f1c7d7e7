-- `coefficients_of`: each in turn.
use Rattle.std.proofs.Common.{◌∙◌, rules}
use Rattle.float.specs.Reading.{both}
use Rattle.laws.proofs.Made.{mapped, table-map}
use Rattle.fit.proofs.coefficients_of.Goals as goal

pub returns : goal.returns
returns g c = mapped _ _ (λ q. q.coefficient) (λ x y q k. search (rules, k)) both.unquantised c.map.ensures.items ∙ table-map (λ q. q.coefficient) both.unquantised c.args.x g.row.N (search rules)
