-- `Header::is_filter_allowed`: field by field and list by list. Assumes nothing.
use mathlib.Core.Bool.{and_assoc}
use Rattle.header.specs.Text.{filter_part}
use Rattle.header.specs.Bits.{all_allowed}
use Rattle.header.proofs.Folds.{allowed-append}
use Rattle.header.proofs.header.Header.is_filter_allowed.Goals as goal

pub returns : goal.returns
unfolding filter_part all_allowed
returns c =
    let y = c.coeffs.ensures in
    let cb = c.coeffs-2.ensures in
    let cr = c.coeffs-3.ensures in
    rw (
      c.are_coeffs_allowed-3.ensures,
      cr.places,
      cr.values,
      c.are_coeffs_allowed-2.ensures,
      cb.places,
      cb.values,
      c.are_coeffs_allowed.ensures,
      y.places,
      y.values,
      c.is_allowed-2.ensures,
      c.from-2.ensures,
      c.is_allowed.ensures,
      c.from.ensures,
      and_assoc _ _ _,
      and_assoc _ _ _,
      and_assoc _ _ _,
      allowed-append _ _,
      allowed-append _ _,
    )
