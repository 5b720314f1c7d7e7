-- `Header::put_luma`: the count, and the points. Assumes nothing.
use Rattle.header.specs.Params.{params}
use Rattle.header.proofs.Holding.{puts_then}
use Rattle.header.proofs.Parts.{luma-bits}
use Rattle.header.proofs.header.Header.put_luma.Goals as goal

pub returns : goal.returns
returns c =
    let h = c.args.self.now in
    let y = c.points.ensures in
    rw (luma-bits (params h) h.counts)
    (puts_then (rw c.from.ensures at c.put_field.ensures) (rw (y.places, y.values, y.scalings) at c.put_points.ensures))
