-- `noise::blocks::dot`: the sum is that of the blocks passed.
use Rattle.std.proofs.Common.{◌≡◌, ◌*◌}
use Rattle.laws.specs.Sums.{sum_to}
use Rattle.noise.specs.Lines.{product}
use Rattle.noise.proofs.blocks.dot.Given as goal

abbrev pub invariant-loop-k : goal.invariant-loop-k
invariant-loop-k g l = l.sum ≡ sum_to (product l.p l.q) (l.k * g.row.SIZE)
