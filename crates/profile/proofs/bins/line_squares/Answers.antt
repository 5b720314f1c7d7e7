-- `profile::bins::line_squares`: `dot` of the line with itself is the sum of its squares.
use Rattle.std.proofs.Common.{nat_abs, w64, ap, ◌∙◌, arith}
use Rattle.laws.proofs.Is.{again, self}
use Rattle.profile.proofs.Squares.{square-lines, dot-squares, squares-le}
use Rattle.profile.proofs.bins.line_squares.Goals as goal

pub dot-requires-clause-lines : goal.dot-requires-clause-lines
dot-requires-clause-lines c = square-lines c.requires

pub overflow_cast-result : goal.overflow_cast-result
overflow_cast-result c =
    rw ((again {w = w64} (self (record { sfits = c.dot.type_inv }))).eq ∙ c.dot.ensures ∙ dot-squares c.args.line.now) (tt, record { fits = omega (arith, squares-le c.requires) })

pub returns : goal.returns
returns c = ap nat_abs ((again {w = w64} (self (record { sfits = c.dot.type_inv }))).eq ∙ c.dot.ensures ∙ dot-squares c.args.line.now)
