-- A turn clears one row more below row i, and leaves row i, the pivot's.
use Rattle.std.proofs.Common.{◌≡◌, ◌+◌, [], get_or}
use Rattle.laws.proofs.Turns.{Turned}
use Rattle.solve.specs.Elimination.{System, row_cleared}
use Rattle.solve.specs.Parts.{system_of}
use Rattle.solve.proofs.equations.Equations.eliminate_below.Given as goal

abbrev pub invariant-loop-r : goal.invariant-loop-r
invariant-loop-r l =
    (l.self.order ≡ l.initial.self.order) × (l.pivot ≡ get_or l.self.matrix l.i []) × Turned {S = System} (row_cleared l.initial.self.order l.i) (l.i + 1) l.initial.self.order (system_of l.initial.self) l.r (system_of l.self)
