-- The state after i turns.
use Rattle.float.proofs.root.Loop.{State}
use Rattle.float.proofs.root.root_digits.Given as goal

abbrev pub invariant-loop-i : goal.invariant-loop-i
invariant-loop-i l = State l.m l.root l.rest l.left l.i
