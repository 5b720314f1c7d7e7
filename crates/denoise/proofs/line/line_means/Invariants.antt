-- The means so far.
use Rattle.std.proofs.Common.{◌≡◌, take}
use Rattle.laws.specs.Table.{tabulate}
use Rattle.denoise.specs.Line.{line_mean}
use Rattle.denoise.proofs.line.line_means.Given as goal

abbrev pub invariant-loop-c : goal.invariant-loop-c
invariant-loop-c l = take l.c l.out ≡ tabulate l.c (line_mean l.line)
