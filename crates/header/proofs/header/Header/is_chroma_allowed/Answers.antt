-- `Header::is_chroma_allowed`: field by field and list by list. Assumes nothing.
use mathlib.Core.Bool.{and_assoc}
use Rattle.header.specs.Text.{chroma_part}
use Rattle.header.specs.Bits.{all_allowed}
use Rattle.header.proofs.Formats.{is_monochrome, is_yuv420}
use Rattle.header.proofs.Folds.{allowed-append}
use Rattle.header.proofs.Shapes.{flag-bit}
use Rattle.header.proofs.header.Header.is_chroma_allowed.Goals as goal

pub returns : goal.returns
unfolding chroma_part all_allowed
returns c =
    let cb = c.points.ensures in
    let cr = c.points-2.ensures in
    rw (
      c.are_allowed-2.ensures,
      cr.places,
      cr.values,
      cr.scalings,
      c.is_allowed-3.ensures,
      c.from-3.ensures,
      c.are_allowed.ensures,
      cb.places,
      cb.values,
      cb.scalings,
      c.is_allowed-2.ensures,
      c.from-2.ensures,
      c.is_allowed.ensures,
      c.from.ensures,
      c.most_cr_points-most.ensures,
      c.from-least.ensures,
      c.eq.ensures,
      is_yuv420 _,
      c.ne.ensures,
      is_monochrome _,
      flag-bit _,
      flag-bit _,
      and_assoc _ _ _,
      and_assoc _ _ _,
      and_assoc _ _ _,
      allowed-append _ _,
    )
