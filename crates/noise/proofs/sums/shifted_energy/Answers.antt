-- `noise::sums::shifted_energy`: the shifted line is filled, and `dot` sums its squares; shifted by nothing, they are the line's own.
use Rattle.std.proofs.Common.{length, w64, ◌∙◌, rules}
use lib.Seq.{length-take-le}
use Rattle.laws.proofs.Is.{again, self}
use Rattle.noise.proofs.NoiseLines.{shifted-lines, shifted_sum}
use Rattle.noise.proofs.sums.shifted_energy.Goals as goal

pub dot-requires-clause-lines : goal.dot-requires-clause-lines
dot-requires-clause-lines c =
    let n = length-take-le (length c.args.line.now) c.args.out.now (search rules) in
    shifted-lines c.requires.noise c.args.shift.bits n c.shifted_line.ensures

pub returns : goal.returns
returns c =
    let n = length-take-le (length c.args.line.now) c.args.out.now (search rules) in
    (again {w = w64} (self (record { sfits = c.dot.type_inv }))).eq
    ∙ c.dot.ensures
    ∙ shifted_sum c.requires.noise c.args.shift.bits n c.shifted_line.ensures
