-- `ExactSums::cell`: a used cell is the upper half's.
use Rattle.fit.proofs.Cells.{unused, used}
use Rattle.std.proofs.Common.{◌∙◌, arith}
use Rattle.fit.specs.ExactSums.{cell_in}
use Rattle.fit.proofs.equations.ExactSums.cell.Goals as goal

pub returns-then-max-self : goal.returns-then-max-self
returns-then-max-self c = used _ _ _ _ (omega arith) (c.cell_sum.ensures ∙ (λ t. cell_in c.args.self.now (c.min.ensures t) (c.max-then-max-self.ensures t)))

pub returns-else-max-self : goal.returns-else-max-self
returns-else-max-self c = unused _ _ _ _ (omega arith)
