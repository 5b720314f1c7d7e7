-- `Header::put_opening`: field by field. Assumes nothing.
use Rattle.header.specs.Scalars.{scalars}
use Rattle.header.proofs.Holding.{puts_then}
use Rattle.header.proofs.Parts.{opening-bits}
use Rattle.header.proofs.Shapes.{flag-bit}
use Rattle.header.proofs.header.Header.put_opening.Goals as goal

pub returns : goal.returns
returns c =
    let h = c.args.self.now in
    rw (opening-bits (scalars h.fields) h.inter)
    (puts_then (rw (c.from.ensures, flag-bit h.fields.apply_grain) at c.put.ensures)
    (puts_then (rw c.from-2.ensures at c.put_field.ensures)
    (puts_then (rw (c.from-3.ensures, flag-bit h.fields.update_grain) at c.put_field-2.ensures)
    (rw c.from-4.ensures at c.put_field-3.ensures))))
