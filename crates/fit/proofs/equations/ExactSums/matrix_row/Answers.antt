-- `ExactSums::matrix_row`: a cell for each column.
use Rattle.std.proofs.Common.{rules}
use Rattle.fit.specs.Steps.{cell_of, row_of}
use Rattle.fit.specs.ExactSums.{cell_in}
use Rattle.laws.proofs.Made.{made}
use Rattle.fit.proofs.equations.ExactSums.matrix_row.Goals as goal

pub returns : goal.returns
unfolding row_of
returns c =
    let e = c.args.self.now in
    made _ _ _ (cell_of (cell_in e) e.unknowns c.args.i) (λ j y q l k. search (rules, k)) c.from_fn.ensures.items
