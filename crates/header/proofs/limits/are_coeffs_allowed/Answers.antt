-- `header::limits::are_coeffs_allowed`: zeros past those that the syntax has. Assumes nothing.
use Rattle.header.proofs.Listed.{coeffs-decided}
use Rattle.header.proofs.limits.are_coeffs_allowed.Goals as goal

pub returns : goal.returns
returns c =
    let v = c.parted.ensures in
    coeffs-decided c.args.n c.args.values.now v.bytes (rw v.others at c.are_zero.ensures)
