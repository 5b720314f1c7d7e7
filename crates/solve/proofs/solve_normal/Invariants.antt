-- The columns before i are cleared, and no pivot was too small.
use Rattle.std.proofs.Common.{◌≡◌}
use Rattle.laws.proofs.Turns.{Turned}
use Rattle.solve.specs.Elimination.{going, column}
use Rattle.solve.specs.Parts.{system_of}
use Rattle.solve.proofs.solve_normal.Given as goal

abbrev pub invariant-loop-i : goal.invariant-loop-i
invariant-loop-i l =
    (l.equations.order ≡ l.order) × Turned (column l.order) 0 l.order (going (system_of l.initial.equations)) l.i (going (system_of l.equations))
