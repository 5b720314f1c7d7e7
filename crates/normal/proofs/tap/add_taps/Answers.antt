-- `normal::tap::add_taps`: the row's sums are added to those before.
use Rattle.normal.proofs.TapRows.{taps-addable, taps-added}
use Rattle.normal.proofs.tap.add_taps.Goals as goal

pub add_to-requires : goal.add_to-requires
add_to-requires c = taps-addable c.requires c.tap_row.ensures

pub returns : goal.returns
returns c = taps-added c.requires c.tap_row.ensures c.add_to.ensures
