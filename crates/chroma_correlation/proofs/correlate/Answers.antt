-- `chroma_correlation::correlate`: the luma tap's sums at lag 0, then a tap for each component.
use Rattle.std.proofs.Common.{◌∙◌}
use Rattle.float.specs.Reading.{both}
use Rattle.normal.proofs.SumsOf.{cr-over, cr-squares}
use Rattle.chroma_correlation.proofs.Averages.{sums-small, tap-held}
use Rattle.chroma_correlation.proofs.correlate.Goals as goal

pub tap-requires : goal.tap-requires
tap-requires c =
    let F = c.args.frame.now in
    let T = c.tap_sums-squares.ensures in
    sums-small F.over F.luma.seen F.cb.seen T.cb-are T.squares-are

pub tap-requires-2 : goal.tap-requires-2
tap-requires-2 c =
    let F = c.args.frame.now in
    let T = c.tap_sums-squares.ensures in
    sums-small (cr-over F) F.luma.seen F.cr.seen T.cr-are (cr-squares F T)

pub returns-clause-cb : goal.returns-clause-cb
returns-clause-cb c =
    let F = c.args.frame.now in
    let T = c.tap_sums-squares.ensures in
    c.tap.ensures ∙ tap-held F.over F.luma.seen F.cb.seen T.cb-are T.squares-are both

pub returns-clause-cr : goal.returns-clause-cr
returns-clause-cr c =
    let F = c.args.frame.now in
    let T = c.tap_sums-squares.ensures in
    c.tap-2.ensures ∙ tap-held (cr-over F) F.luma.seen F.cr.seen T.cr-are (cr-squares F T) both
