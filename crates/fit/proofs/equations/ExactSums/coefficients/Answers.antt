-- `ExactSums::coefficients`: the calls' results in turn.
use Rattle.std.proofs.Common.{◌∙◌, sym}
use Rattle.fit.proofs.Solutions.{solution, no-solution, found-of, none-of}
use Rattle.fit.proofs.equations.ExactSums.coefficients.Goals as goal

pub returns-in-Some : goal.returns-in-Some
returns-in-Some c =
    let f = found-of _ _ (sym c.unwrap_or.ensures ∙ c.in-Some.is) in
    solution _ _ _ _ _ _ _ _ _ c.matrix.ensures c.right_side.ensures c.solve_normal-solved.ensures f.0 _ (rw f.1 c.quantise.ensures)

pub returns-in-None : goal.returns-in-None
returns-in-None c = no-solution _ _ _ _ _ _ _ _ _ c.matrix.ensures c.right_side.ensures c.solve_normal-solved.ensures (none-of _ (sym c.unwrap_or.ensures ∙ c.in-None.is))
