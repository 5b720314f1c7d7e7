-- `normal::starts::start_sum`: it is the dot product of two parts.
use Rattle.std.proofs.Common.{w64, ◌∙◌}
use lib.Dec.{lit<}
use Rattle.normal.proofs.Overlaps.{kept, overlap-lines, overlap-sum}
use Rattle.normal.proofs.starts.start_sum.Goals as goal

pub dot-requires-clause-lines : goal.dot-requires-clause-lines
dot-requires-clause-lines c = overlap-lines c.requires 32 (lit< tt)

pub returns : goal.returns
returns c = kept {w = w64} (record { sfits = c.dot.type_inv }) (c.dot.ensures ∙ overlap-sum c.requires)
