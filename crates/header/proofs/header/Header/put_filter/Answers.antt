-- `Header::put_filter`: field by field and list by list. Assumes nothing.
use Rattle.header.specs.Params.{params}
use Rattle.header.proofs.Holding.{puts_then}
use Rattle.header.proofs.Parts.{filter-bits}
use Rattle.header.proofs.header.Header.put_filter.Goals as goal

pub returns : goal.returns
returns c =
    let h = c.args.self.now in
    let y = c.coeffs.ensures in
    let cb = c.coeffs-2.ensures in
    let cr = c.coeffs-3.ensures in
    rw (filter-bits (params h) h.counts)
    (puts_then (rw (c.from.ensures, c.saturating_sub.ensures) at c.put_field.ensures)
    (puts_then (rw c.from-2.ensures at c.put_field-2.ensures)
    (puts_then (rw (y.places, y.values) at c.put_coeffs.ensures)
    (puts_then (rw (cb.places, cb.values) at c.put_coeffs-2.ensures)
    (rw (cr.places, cr.values) at c.put_coeffs-3.ensures)))))
