-- `normal::blocks::add_to`: the places passed have their numbers added.
use Rattle.noise.specs.Lines.{at}
use Rattle.normal.proofs.Reached.{Reached, plus}
use Rattle.normal.proofs.blocks.add_to.Given as goal

abbrev pub invariant-loop-i : goal.invariant-loop-i
invariant-loop-i l = Reached (plus l.initial.sums (at l.more)) l.initial.sums l.sums l.i
