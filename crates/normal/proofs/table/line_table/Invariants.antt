-- `normal::table::line_table`: the table is filled in row order.
use Rattle.std.proofs.Common.{◌≡◌, ◌+◌, ◌-◌, ◌*◌, length}
use Rattle.noise.specs.Lines.{at}
use Rattle.positions.specs.Counts.{side}
use Rattle.normal.specs.Starts.{start_sum, by_blocks, upper}
use Rattle.normal.proofs.Reached.{Reached}
use Rattle.normal.proofs.table.line_table.Given as goal

abbrev pub invariant-loop-b : goal.invariant-loop-b
invariant-loop-b l =
    (length l.table ≡ side l.lag.reach * side l.lag.reach)
    × Reached (by_blocks (side l.lag.reach) (start_sum (at (upper l.up l.lo)) (at l.lo) (length l.lo - 2 * l.lag.reach))) l.fn.table l.table (l.a * side l.lag.reach + l.b)

abbrev pub invariant-loop-a : goal.invariant-loop-a
invariant-loop-a l =
    (length l.table ≡ side l.lag.reach * side l.lag.reach)
    × Reached (by_blocks (side l.lag.reach) (start_sum (at (upper l.up l.lo)) (at l.lo) (length l.lo - 2 * l.lag.reach))) l.fn.table l.table (l.a * side l.lag.reach)
