-- `header::bits::BitWriter::put_field`: nothing where it is not present; else its high bits, and then its low eight. Assumes nothing.
use Rattle.std.proofs.Common.{◌≡◌, ◌+◌, ◌-◌, arith}
use Rattle.header.specs.Bits.{digits}
use Rattle.header.proofs.Numbers.{digits-split}
use Rattle.header.proofs.Holding.{puts-none, puts_then}
use Rattle.header.proofs.bits.BitWriter.put_field.Goals as goal

pub returns-then-not-present : goal.returns-then-not-present
unfolding digits
returns-then-not-present c = rw c.if-not-present.true puts-none

pub returns-else-bits-le8 : goal.returns-else-bits-le8
returns-else-bits-le8 c =
    let e : c.args.bits ≡ c.args.bits - 8 + 8 = omega arith in
    rw (c.if-not-present.false, e, digits-split (c.args.bits - 8) 8 c.args.value)
    (puts_then c.put-else-bits-le8.ensures c.put-else-bits-le8-2.ensures)
