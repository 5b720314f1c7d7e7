-- `normal::neighbours::neighbour_sum`: the place that it reads lies in the sums.
use Rattle.std.proofs.Common.{◌+◌, ◌<◌, arith}
use native.Mathlib.Nat.{lt_of_lt_of_le}
use Rattle.positions.specs.Counts.{side, factors}
use Rattle.positions.proofs.Counts.{factors-le}
use Rattle.normal.proofs.Ordered.{PairIn, pair-in}
use Rattle.normal.proofs.neighbours.neighbour_sum.Goals as goal

facts : (c : goal.After-max-last) → PairIn (c.args.lag + 1) (side c.args.lag) c.min-first.result c.max-last.result
facts c =
    let l : c.max-last.result < factors c.args.lag = omega arith in
    pair-in (c.args.lag + 1) (side c.args.lag) c.min-first.result c.max-last.result (omega arith) (lt_of_lt_of_le l (factors-le c.args.lag))

pub overflow_mul-result-3 : goal.overflow_mul-result-3
overflow_mul-result-3 c = let F = facts c in record { fits = omega arith }

pub overflow_add-result-4 : goal.overflow_add-result-4
overflow_add-result-4 c = let F = facts c in record { fits = omega arith }

pub offset_bounds-sums-apart : goal.offset_bounds-sums-apart
offset_bounds-sums-apart c = let F = facts c in record { fits = omega arith }

pub bounds-sums-apart : goal.bounds-sums-apart
bounds-sums-apart c = let F = facts c in omega arith
