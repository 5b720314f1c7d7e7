-- `normal::blocks::add_row`: the blocks passed have their tables added.
use Rattle.std.proofs.Common.{◌+◌, ◌*◌}
use Rattle.normal.proofs.Passing.{passing}
use Rattle.normal.proofs.Reached.{Reached}
use Rattle.normal.proofs.blocks.add_row.Given as goal

abbrev pub invariant-loop-above : goal.invariant-loop-above
invariant-loop-above l =
    Reached (passing l.tables l.fn.sums l.starts l.rows l.r l.k) l.fn.sums l.sums ((l.apart * l.starts + l.above) * l.k)

abbrev pub invariant-loop-apart : goal.invariant-loop-apart
invariant-loop-apart l = Reached (passing l.tables l.fn.sums l.starts l.rows l.r l.k) l.fn.sums l.sums (l.apart * l.starts * l.k)
