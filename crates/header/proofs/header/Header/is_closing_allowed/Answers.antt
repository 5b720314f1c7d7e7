-- `Header::is_closing_allowed`: row by row. Assumes nothing.
use mathlib.Core.Bool.{and-true, and_assoc}
use Rattle.header.specs.Text.{closing}
use Rattle.header.specs.Bits.{all_allowed}
use Rattle.header.proofs.Shapes.{flag-bit}
use Rattle.header.proofs.header.Header.is_closing_allowed.Goals as goal

pub returns : goal.returns
unfolding closing all_allowed
returns c =
    rw (
      c.is_allowed-4.ensures,
      c.from-4.ensures,
      c.is_allowed-3.ensures,
      c.from-3.ensures,
      c.is_mix_allowed-2.ensures,
      c.is_mix_allowed.ensures,
      c.is_allowed-2.ensures,
      c.from-2.ensures,
      c.is_allowed.ensures,
      c.from.ensures,
      flag-bit _,
      flag-bit _,
    ) (simp (and_assoc, and-true))
