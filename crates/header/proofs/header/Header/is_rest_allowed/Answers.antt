-- `Header::is_rest_allowed`: 0 where nothing is coded, else part by part. Assumes nothing.
use mathlib.Core.Bool.{and_assoc}
use Rattle.header.specs.Scalars.{scalars}
use Rattle.header.specs.Text.{luma_part, chroma_part, filter_part, closing}
use Rattle.header.specs.Format.{format_number}
use Rattle.header.proofs.Folds.{allowed-append}
use Rattle.header.proofs.Short.{uncoded-counts}
use Rattle.header.proofs.Bytes.{record_is}
use Rattle.header.proofs.header.Header.is_rest_allowed.Goals as goal

pub returns-then-not-self : goal.returns-then-not-self
returns-then-not-self c =
    let h = c.args.self.now in
    rw (uncoded-counts (scalars h.fields) (format_number h.format) h.counts h.counted c.if-not-self.true, record_is h.fields h.bytes.now h.read) (c.is_rest_skipped.ensures (format_number h.format))

pub returns : goal.returns
unfolding luma_part chroma_part filter_part closing
returns c =
    rw (
      c.is_closing_allowed.ensures,
      c.is_filter_allowed.ensures,
      c.is_chroma_allowed.ensures,
      c.is_luma_allowed.ensures,
      and_assoc _ _ _,
      and_assoc _ _ _,
      allowed-append _ _,
      allowed-append _ _,
      allowed-append _ _,
    )
