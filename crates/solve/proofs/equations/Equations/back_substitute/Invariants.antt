-- A turn gives one unknown more.
use Rattle.std.proofs.Common.{◌-◌}
use Rattle.laws.proofs.Turns.{Turned}
use Rattle.solve.specs.Elimination.{placed}
use Rattle.solve.specs.Parts.{system_of}
use Rattle.solve.proofs.equations.Equations.back_substitute.Given as goal

abbrev pub invariant-loop-i : goal.invariant-loop-i
invariant-loop-i l = Turned (placed l.self.order (system_of l.self)) 0 l.self.order l.initial.x (l.self.order - l.i) l.x
