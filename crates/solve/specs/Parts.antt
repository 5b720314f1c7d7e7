-- The equations as the code has them, which know their order, are a system of the definitions.
use Rattle.solve.specs.Elimination.{System}
use Rattle.solve.specs.declared.equations.Equations.{Equations}

abbrev pub system_of : Equations → System
system_of e = record { matrix = e.matrix; right = e.right }
