-- `noise::sums::plane_plus`: each field is an i64, and so is each sum.
use Rattle.std.proofs.Common.{rules}
use Rattle.laws.proofs.Is.{again}
use Rattle.noise.proofs.RowSums.{sum_is}
use Rattle.noise.proofs.sums.plane_plus.Goals as goal

pub returns : goal.returns
returns c = λ i. record {
  squares = (again (sum_is c.args.a.squares c.args.b.squares (search rules) (search rules) c.requires.squares)).eq i;
  energy = (again (sum_is c.args.a.energy c.args.b.energy (search rules) (search rules) c.requires.energy)).eq i;
  lagged = (again (sum_is c.args.a.lagged c.args.b.lagged (search rules) (search rules) c.requires.lagged)).eq i;
}
