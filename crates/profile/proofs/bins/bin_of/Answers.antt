-- `profile::bins::bin_of`: nothing is outside the range, everything in a range of one bin, and else the bin's numbers are kept.
use Rattle.std.proofs.Common.{inl, inr, ◌∙◌, arith}
use Rattle.profile.proofs.Kept.{kept-line-small, kept-squares, nothing, everything}
use Rattle.profile.proofs.bins.bin_of.Goals as goal

pub line_squares-squares-requires-else-range : goal.line_squares-squares-requires-else-range
line_squares-squares-requires-else-range c = kept-line-small c.args.j c.requires.binned _ c.requires.own_fits c.keep_bin.ensures.kept

pub returns-then-range-j-clause-count : goal.returns-then-range-j-clause-count
returns-then-range-j-clause-count c = elim c.if-range-j.either [
  | inl h ↦ (nothing c.args.line.now c.requires.range (inl h)).0
  | inr h ↦ (nothing c.args.line.now c.requires.range (inr h.1)).0
]

pub returns-then-range-j-clause-squares : goal.returns-then-range-j-clause-squares
returns-then-range-j-clause-squares c = elim c.if-range-j.either [
  | inl h ↦ (nothing c.args.line.now c.requires.range (inl h)).1
  | inr h ↦ (nothing c.args.line.now c.requires.range (inr h.1)).1
]

pub returns-then-range-clause-count : goal.returns-then-range-clause-count
returns-then-range-clause-count c = (everything c.args.line.now c.requires.range (omega arith) (omega arith) c.if-range.true c.requires.binned.same).0

pub returns-then-range-clause-squares : goal.returns-then-range-clause-squares
returns-then-range-clause-squares c =
    c.line_squares-squares.ensures ∙ (everything c.args.line.now c.requires.range (omega arith) (omega arith) c.if-range.true c.requires.binned.same).1

pub returns-else-range-clause-squares : goal.returns-else-range-clause-squares
returns-else-range-clause-squares c = c.line_squares-squares-else-range.ensures ∙ kept-squares c.args.j c.requires.binned _ c.requires.own_fits c.keep_bin.ensures.kept
