-- `gate::row_correlation::row_correlation`: plus zero, or the sums and then the quotient.
use Rattle.std.proofs.Common.{sym}
use Rattle.gate.proofs.PlusZero.{lag-zero, narrow-zero}
use Rattle.gate.proofs.Rows.{row_is}
use Rattle.gate.proofs.row_correlation.row_correlation.Goals as goal
use Rattle.gate.proofs.row_correlation.row_correlation.Goals.{then-lag-eq0-via-then-lag-eq0, then-lag-eq0-via-else-lag-eq0+then-view-lag}

pub returns-then-lag-eq0 : goal.returns-then-lag-eq0
returns-then-lag-eq0 c = elim c.then-lag-eq0.branch [
  | then-lag-eq0-via-then-lag-eq0 w ↦ sym (lag-zero _ _ w.if-lag-eq0.true)
  | then-lag-eq0-via-else-lag-eq0+then-view-lag w ↦ sym (narrow-zero _ _ w.if-view-lag.true)
]

pub returns : goal.returns
returns c =
    let s = c.of_plane-sums.ensures in
    row_is _ _ s.energy s.lagged c.correlation_of.ensures
