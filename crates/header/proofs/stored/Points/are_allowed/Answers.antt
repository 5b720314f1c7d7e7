-- `header::stored::Points::are_allowed`: rising values, and zeros past those that the syntax has. Assumes nothing.
use Rattle.header.proofs.Listed.{points-decided}
use Rattle.header.proofs.stored.Points.are_allowed.Goals as goal

pub returns : goal.returns
returns c =
    let A = c.args in
    let v = c.parted.ensures in
    let s = c.parted-2.ensures in
    points-decided A.n A.self.now.values.now A.self.now.scalings.now A.self.now.paired v.bytes s.bytes
    (rw v.first at c.is_rising.ensures)
    (rw v.others at c.are_zero.ensures)
    (rw s.others at c.are_zero-2.ensures)
