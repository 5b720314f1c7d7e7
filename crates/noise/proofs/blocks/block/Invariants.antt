-- `noise::blocks::block`: the sum is that of the products passed.
use Rattle.std.proofs.Common.{◌≡◌, length}
use Rattle.laws.specs.Sums.{sum_to}
use Rattle.noise.specs.Lines.{product}
use Rattle.noise.proofs.blocks.block.Given as goal

abbrev pub invariant-loop-x : goal.invariant-loop-x
invariant-loop-x l = l.sum ≡ sum_to (product l.p l.q) (length l.yielded)
