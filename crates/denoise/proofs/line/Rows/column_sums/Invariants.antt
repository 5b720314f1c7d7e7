-- The sums so far, and that they are low.
use Rattle.std.proofs.Common.{◌≡◌, ◌*◌, ◌<◌, ◌≤◌, ℕ, take}
use Rattle.laws.specs.Table.{tabulate}
use Rattle.denoise.specs.Line.{column_sum}
use Rattle.denoise.proofs.line.Rows.column_sums.Given as goal

abbrev pub invariant-loop-c : goal.invariant-loop-c
invariant-loop-c l =
    let sum = column_sum l.self.up.now l.self.mid.now l.self.down.now in
    record { stored : take l.c l.inner ≡ tabulate l.c sum; low : (c : ℕ) → c < l.c → sum c ≤ 4 * 65535 }
