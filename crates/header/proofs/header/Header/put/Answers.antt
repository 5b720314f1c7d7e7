-- `Header::put`: the first part, the rest, and zeros to the end of the last byte. Assumes nothing.
use Rattle.std.proofs.Common.{◌≡◌, ◌^◌, ◌<◌, ◌∙◌, length, arith, rules}
use Rattle.header.specs.Scalars.{record_of}
use Rattle.header.specs.Stored.{stored}
use Rattle.header.specs.Text.{opening, table}
use Rattle.header.specs.Bits.{bits_of, packed}
use Rattle.header.specs.Calls.{header_bits}
use Rattle.header.specs.Format.{format_number}
use Rattle.header.proofs.Bytes.{rows_are}
use Rattle.header.proofs.Sizes.{most-bits}
use Rattle.header.proofs.Holding.{puts_then, puts-packed}
use Rattle.header.proofs.Parts.{table-bits}
use Rattle.header.proofs.header.Header.put.Goals as goal

pub returns : goal.returns
unfolding opening header_bits
returns c =
    let h = c.args.self.now in
    let p = record_of h.fields h.bytes.now in
    let format = format_number h.format in
    let o = c.put_opening.ensures in
    let r = c.put_rest.ensures in
    let z = c.put.ensures in
    let read = rows_are h.fields h.bytes.now h.inter format h.counts h.read h.counted in
    let few : length (bits_of (table p h.inter format h.counts)) < 2 ^ 32 = omega (arith, rw read at (most-bits (stored h.bytes.now) h.inter format)) in
    let whole : c.put.new.self.bytes.now ≡ packed (bits_of (table p h.inter format h.counts)) c.args.bytes.now =
    puts-packed c.new-w.result _ _ (bits_of (table p h.inter format h.counts)) few c.new-w.ensures.held (rw (table-bits p h.counts h.inter format) (puts_then o r)) z in
    let same : c.put.new.self.bytes.ghost_name ≡ c.new-w.result.bytes.ghost_name = z.same ∙ (r.same ∙ o.same) in
    rw (read, ← whole) (search (rules, same))
