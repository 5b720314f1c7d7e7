-- `pivot` is the pivot among the rows from i up to r.
use Rattle.std.proofs.Common.{◌+◌, ◌<◌}
use Rattle.laws.proofs.Turns.{Turned}
use Rattle.solve.specs.Elimination.{larger}
use Rattle.solve.proofs.equations.Equations.pivot.Given as goal

abbrev pub invariant-loop-r : goal.invariant-loop-r
invariant-loop-r l = (l.pivot < l.self.order) × Turned (larger l.self.matrix l.i) (l.i + 1) l.self.order l.i l.r l.pivot
