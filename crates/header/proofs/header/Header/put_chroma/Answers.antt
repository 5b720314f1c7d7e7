-- `Header::put_chroma`: field by field and list by list. Assumes nothing.
use Rattle.header.specs.Params.{params}
use Rattle.header.specs.Format.{format_number}
use Rattle.header.proofs.Formats.{is_monochrome}
use Rattle.header.proofs.Holding.{puts_then}
use Rattle.header.proofs.Parts.{chroma-bits}
use Rattle.header.proofs.Shapes.{flag-bit}
use Rattle.header.proofs.header.Header.put_chroma.Goals as goal

pub returns : goal.returns
returns c =
    let h = c.args.self.now in
    let cb = c.points.ensures in
    let cr = c.points-2.ensures in
    rw (chroma-bits (params h) h.counts (format_number h.format))
    (puts_then (rw (c.ne.ensures, is_monochrome h.format, c.from.ensures, flag-bit h.fields.chroma_scaling_from_luma) at c.put_field.ensures)
    (puts_then (rw c.from-2.ensures at c.put_field-2.ensures)
    (puts_then (rw (cb.places, cb.values, cb.scalings) at c.put_points.ensures)
    (puts_then (rw c.from-3.ensures at c.put_field-3.ensures)
    (rw (cr.places, cr.values, cr.scalings) at c.put_points-2.ensures)))))
