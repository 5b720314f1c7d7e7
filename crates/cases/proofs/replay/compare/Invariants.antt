-- `cases::replay::compare`: a line takes a byte of the list, and has one difference at most.
use Rattle.std.proofs.Common.{◌+◌, ◌≤◌, length}
use Rattle.cases.proofs.replay.compare.Given as goal

abbrev pub invariant-loop-line : goal.invariant-loop-line
invariant-loop-line g l =
    (l.calls + length l.line-iterator.0.now ≤ length l.list) × (l.differences ≤ l.calls)
