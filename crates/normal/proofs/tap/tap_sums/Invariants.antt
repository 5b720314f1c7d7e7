-- `normal::tap::tap_sums`: the sums hold what the rows passed have added.
use Rattle.std.proofs.Common.{◌≡◌, length}
use Rattle.normal.proofs.TapSums.{TapsHeld}
use Rattle.normal.proofs.tap.tap_sums.Given as goal

abbrev pub invariant-loop-r : goal.invariant-loop-r
invariant-loop-r l =
    (length l.averages ≡ l.frame.shown.cb.view.width)
    × TapsHeld l.frame.shown l.frame.lag.reach l.r l.squares l.cbtaps l.crtaps
