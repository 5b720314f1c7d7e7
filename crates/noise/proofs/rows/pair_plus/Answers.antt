-- `noise::rows::pair_plus`: each field is an i64, and so is each sum.
use Rattle.std.proofs.Common.{rules}
use Rattle.laws.proofs.Is.{again}
use Rattle.noise.proofs.RowSums.{sum_is}
use Rattle.noise.proofs.rows.pair_plus.Goals as goal

pub returns : goal.returns
returns c = λ i. record {
  second = (again (sum_is c.args.a.second c.args.b.second (search rules) (search rules) c.requires.second)).eq i;
  cross = (again (sum_is c.args.a.cross c.args.b.cross (search rules) (search rules) c.requires.cross)).eq i;
}
