-- `ExactSums::matrix`: row by row.
use Rattle.std.proofs.Common.{rules}
use Rattle.fit.specs.Steps.{row_of, matrix_of}
use Rattle.fit.specs.ExactSums.{cell_in}
use Rattle.laws.proofs.Made.{made}
use Rattle.fit.proofs.equations.ExactSums.matrix.Goals as goal

pub returns : goal.returns
unfolding matrix_of
returns c =
    let e = c.args.self.now in
    made _ _ _ (row_of (cell_in e) e.unknowns) (λ j y q l k. search (rules, k)) c.from_fn.ensures.items
