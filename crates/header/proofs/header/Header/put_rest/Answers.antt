-- `Header::put_rest`: nothing where nothing is coded, else part after part. Assumes nothing.
use Rattle.header.specs.Scalars.{scalars}
use Rattle.header.specs.Params.{params}
use Rattle.header.specs.Text.{luma_part, chroma_part, filter_part, closing}
use Rattle.header.specs.Format.{format_number}
use Rattle.header.proofs.Holding.{puts-none, puts_then}
use Rattle.header.proofs.Parts.{rest-bits}
use Rattle.header.proofs.Short.{uncoded-counts, rest-none}
use Rattle.header.proofs.header.Header.put_rest.Goals as goal

pub returns-then-not-self : goal.returns-then-not-self
returns-then-not-self c =
    let h = c.args.self.now in
    rw (uncoded-counts (scalars h.fields) (format_number h.format) h.counts h.counted c.if-not-self.true)
    (rw (rest-none (params h) (format_number h.format)) puts-none)

pub returns : goal.returns
unfolding luma_part chroma_part filter_part closing
returns c =
    let h = c.args.self.now in
    rw (rest-bits (params h) h.counts (format_number h.format))
    (puts_then c.put_luma.ensures (puts_then c.put_chroma.ensures (puts_then c.put_filter.ensures c.put_closing.ensures)))
