-- `Header::is_opening_allowed`: row by row. Assumes nothing.
use mathlib.Core.Bool.{and-true, and_assoc}
use Rattle.header.specs.Text.{opening}
use Rattle.header.specs.Bits.{all_allowed}
use Rattle.header.proofs.Shapes.{flag-bit, update-most}
use Rattle.header.proofs.header.Header.is_opening_allowed.Goals as goal

pub returns : goal.returns
unfolding opening all_allowed
returns c =
    rw (
      c.is_allowed-4.ensures,
      c.from-5.ensures,
      c.is_allowed-3.ensures,
      c.from-4.ensures,
      c.from-3.ensures,
      c.is_allowed-2.ensures,
      c.from-2.ensures,
      c.is_allowed.ensures,
      c.from.ensures,
      flag-bit _,
      flag-bit _,
      flag-bit _,
      and_assoc _ _ _,
      and_assoc _ _ _,
      update-most c.args.self.now.inter,
      and-true _,
    )
