-- `BitWriter::put_mix`: one after another. Assumes nothing.
use Rattle.header.proofs.Holding.{puts_then}
use Rattle.header.proofs.bits.BitWriter.put_mix.Goals as goal

pub returns : goal.returns
returns c =
    puts_then (rw c.from.ensures at c.put_field.ensures)
    (puts_then (rw c.from-2.ensures at c.put_field-2.ensures) (rw c.from-3.ensures at c.put_field-3.ensures))
