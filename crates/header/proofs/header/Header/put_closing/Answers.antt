-- `Header::put_closing`: field by field. Assumes nothing.
use Rattle.header.specs.Scalars.{scalars}
use Rattle.header.proofs.Holding.{puts_then}
use Rattle.header.proofs.Parts.{closing-bits}
use Rattle.header.proofs.Shapes.{flag-bit}
use Rattle.header.proofs.header.Header.put_closing.Goals as goal

pub returns : goal.returns
returns c =
    let h = c.args.self.now in
    rw (closing-bits (scalars h.fields) h.counts)
    (puts_then (rw (c.from.ensures, c.saturating_sub.ensures) at c.put_field.ensures)
    (puts_then (rw c.from-2.ensures at c.put_field-2.ensures)
    (puts_then c.put_mix.ensures
    (puts_then c.put_mix-2.ensures
    (puts_then (rw (c.from-3.ensures, flag-bit h.fields.overlap_flag) at c.put_field-3.ensures)
    (rw (c.from-4.ensures, flag-bit h.fields.clip_to_restricted_range) at c.put_field-4.ensures))))))
