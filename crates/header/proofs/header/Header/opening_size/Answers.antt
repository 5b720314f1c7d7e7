-- `Header::opening_size`: each term is as it is kept, and small. Assumes nothing.
use Rattle.std.proofs.Common.{arith}
use Rattle.header.specs.Size.{opening_size}
use Rattle.header.proofs.header.Header.opening_size.Goals as goal

pub returns : goal.returns
unfolding opening_size
returns c = (rw (c.kept-3.ensures.0, c.kept-2.ensures.0, c.kept.ensures.0), omega arith)
