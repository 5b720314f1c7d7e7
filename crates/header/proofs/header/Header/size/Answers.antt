-- `Header::size`: the first part alone where nothing is coded, else each term as it is kept, and small. Assumes nothing.
use Rattle.std.proofs.Common.{◌∙◌, arith}
use Rattle.header.specs.Scalars.{scalars}
use Rattle.header.specs.Size.{size_of}
use Rattle.header.specs.Format.{format_number}
use Rattle.header.proofs.Formats.{is_monochrome}
use Rattle.header.proofs.Short.{uncoded-counts, uncoded-size}
use Rattle.header.proofs.header.Header.size.Goals as goal

pub returns-then-not-self : goal.returns-then-not-self
returns-then-not-self c =
    let h = c.args.self.now in
    let o = c.opening_size-opening.ensures in
    (rw (uncoded-counts (scalars h.fields) (format_number h.format) h.counts h.counted c.if-not-self.true) (o.0 ∙ uncoded-size (scalars h.fields) h.inter (format_number h.format)), omega arith)

pub returns : goal.returns
unfolding size_of
returns c = (
  rw (
    c.kept-4.ensures.0,
    c.kept-3.ensures.0,
    c.min-6.ensures,
    c.min-5.ensures,
    c.min-4.ensures,
    c.min-3.ensures,
    c.min-2.ensures,
    c.min.ensures,
    c.kept-2.ensures.0,
    c.kept.ensures.0,
    c.opening_size-opening.ensures.0,
    c.ne.ensures,
    is_monochrome _,
    c.if-not-self.false,
  ),
  omega arith,
)
