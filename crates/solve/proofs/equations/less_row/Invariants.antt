-- A turn takes one entry of the part more.
use Rattle.std.proofs.Common.{◌+◌, ◌-◌}
use borrow.Rule.Slice.PartMut.{put_mid}
use Rattle.laws.proofs.Turns.{Turned}
use Rattle.solve.specs.Elimination.{value}
use Rattle.solve.specs.Rows.{entry_less}
use Rattle.solve.proofs.equations.less_row.Given as goal

abbrev pub invariant-loop-c : goal.invariant-loop-c
invariant-loop-c l =
    Turned (λ c left. entry_less left c l.f (value l.fn.pivot c)) l.from l.to l.fn.row (l.from + l.c) (put_mid l.from (l.to - l.from) l.fn.row l.part)
