-- `noise::sums::lagged_dot`: it is the dot product of two parts, or nothing.
use Rattle.std.proofs.Common.{◌≡◌, ◌-◌, length, refl, w64, ◌∙◌, arith}
use Rattle.laws.specs.Sums.{total}
use Rattle.laws.proofs.Is.{again, self}
use Rattle.noise.proofs.NoiseLines.{lagged-lines, lagged-sum}
use Rattle.noise.proofs.sums.lagged_dot.Goals as goal

pub dot-requires-clause-lines : goal.dot-requires-clause-lines
dot-requires-clause-lines c = lagged-lines c.requires (omega arith)

pub returns-then-line-lag : goal.returns-then-line-lag
unfolding total
returns-then-line-lag c =
    let e : length c.args.line.now - c.args.lag ≡ 0 = omega arith in
    rw e refl

pub returns : goal.returns
returns c =
    (again {w = w64} (self (record { sfits = c.dot.type_inv }))).eq ∙ c.dot.ensures ∙ lagged-sum c.requires (omega arith)
