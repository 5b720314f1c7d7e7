-- `Header::is_luma_allowed`: the count, and the points. Assumes nothing.
use Rattle.header.specs.Text.{luma_part}
use Rattle.header.specs.Bits.{all_allowed}
use Rattle.header.proofs.header.Header.is_luma_allowed.Goals as goal

pub returns : goal.returns
unfolding luma_part all_allowed
returns c =
    let y = c.points.ensures in
    rw (c.are_allowed.ensures, y.places, y.values, y.scalings, c.is_allowed.ensures, c.from.ensures)
