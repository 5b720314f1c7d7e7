-- `Header::is_allowed`: the first part, and the rest. Assumes nothing.
use Rattle.header.specs.Scalars.{record_of}
use Rattle.header.specs.Text.{opening, rest, table}
use Rattle.header.specs.Format.{format_number}
use Rattle.header.proofs.Folds.{allowed-append}
use Rattle.header.proofs.Bytes.{rows_are}
use Rattle.header.proofs.header.Header.is_allowed.Goals as goal

pub returns : goal.returns
unfolding opening table
returns c =
    let h = c.args.self.now in
    let p = record_of h.fields h.bytes.now in
    rw (
      rows_are h.fields h.bytes.now h.inter (format_number h.format) h.counts h.read h.counted,
      c.is_rest_allowed.ensures,
      c.is_opening_allowed.ensures,
      allowed-append (opening p h.inter) (rest p (format_number h.format) h.counts),
    )
