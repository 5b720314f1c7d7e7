-- `normal::tap::tap_row`: the line holds row y + u, and its neighbours have their sums.
use Rattle.std.proofs.Common.{◌≤◌, ◌∙◌, arith}
use native.Mathlib.Nat.{le_trans, le_of_eq, lt_of_lt_of_le}
use Rattle.normal.proofs.Stored.{part_length}
use Rattle.normal.proofs.TapRows.{tapping-ends, columns-in, part_end, tapping-turn, line-noisy, line-taps}
use Rattle.normal.proofs.tap.tap_row.Goals as goal

pub start_line-requires : goal.start_line-requires
start_line-requires c =
    let H = c.loop-u.invariant in
    let row : c.loop-u.u ≤ c.args.plane.now.lag.reach = omega arith in
    let count = rw (c.requires.row-length, c.side-side.ensures) at c.min.ensures in
    let filled = rw H.0 at c.noise_row.ensures in
    let size = part_length c.loop-u.row _ c.min.result (part_end H.1 row count) in
    rw (c.side-side.ensures, c.columns-n.ensures) (λ k l. line-noisy c.args.plane.now.pair.seen c.args.plane.now.window c.requires row filled k (lt_of_lt_of_le l (le_trans (le_of_eq size) (columns-in H.1 row count))))

pub loop-u-preserved : goal.loop-u-preserved
loop-u-preserved c =
    let H = c.loop-u.invariant in
    let row : c.loop-u.u ≤ c.args.plane.now.lag.reach = omega arith in
    let count = rw (c.requires.row-length, c.side-side.ensures) at c.min.ensures in
    let filled = rw H.0 at c.noise_row.ensures in
    let size = part_length c.loop-u.row _ c.min.result (part_end H.1 row count) in (
      c.noise_row.auto.line ∙ H.0,
      rw c.side-side.ensures (tapping-turn H.1 row count (line-taps c.args.plane.now.pair.seen c.args.plane.now.window c.requires row filled _ c.min.result size (columns-in H.1 row count) (rw (c.side-side.ensures, c.columns-n.ensures) at c.start_line.ensures))),
    )

pub returns : goal.returns
returns c = tapping-ends c.loop-u.invariant.1 c.loop-u-test.false
