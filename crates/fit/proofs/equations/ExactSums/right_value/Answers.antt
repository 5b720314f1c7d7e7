-- `ExactSums::right_value`.
use Rattle.fit.proofs.Cells.{value-unused, value-used}
use Rattle.fit.proofs.equations.ExactSums.right_value.Goals as goal

pub returns-then-i-self : goal.returns-then-i-self
returns-then-i-self c = value-used _ _ _ c.if-i-self.true c.right_sum.ensures

pub returns-else-i-self : goal.returns-else-i-self
returns-else-i-self c = value-unused _ _ _ c.if-i-self.false
