-- `normal::rows::pair_table`: the lines hold the two rows.
use Rattle.std.proofs.Common.{◌≡◌, ℕ, ◌-◌, ◌*◌, ◌∙◌, ap, arith, length-take-le, rules}
use Rattle.noise.specs.Lines.{at}
use Rattle.noise.specs.PlanePair.{noise_in}
use Rattle.noise.proofs.LineSums.{size}
use Rattle.positions.specs.Counts.{side}
use Rattle.normal.specs.Starts.{start_sum, by_rows}
use Rattle.normal.proofs.Entries.{window-plot}
use Rattle.normal.proofs.RowLines.{rows-strip, rows-table}
use Rattle.normal.proofs.rows.pair_table.Goals as goal

pub line_table-requires-clause-strip : goal.line_table-requires-clause-strip
line_table-requires-clause-strip c =
    let R = c.requires in
    let P = window-plot _ _ _ c.args.plane.now.window c.args.plane.now.pair.seen in
    rw (size c.args.plane.now.pair.view.width (noise_in c.args.plane.now.pair c.args.r) R.lo_is) (rows-strip P c.args.r c.args.r R.shown R.shown R.lo_is R.lo_is)

pub line_table-requires-else-d-eq0-clause-strip : goal.line_table-requires-else-d-eq0-clause-strip
line_table-requires-else-d-eq0-clause-strip c =
    let R = c.requires in
    let up = length-take-le c.args.plane.now.pair.view.width c.args.up.now (search rules) in
    let P = window-plot _ _ _ c.args.plane.now.window c.args.plane.now.pair.seen in
    rw (size c.args.plane.now.pair.view.width (noise_in c.args.plane.now.pair c.args.r) R.lo_is) (rows-strip P (c.args.r - c.args.d) c.args.r (omega arith) R.shown (rw up at c.noise_row.ensures) R.lo_is)

pub returns-then-d-eq0 : goal.returns-then-d-eq0
returns-then-d-eq0 c =
    let A = c.args in
    let R = c.requires in
    let P = window-plot _ _ _ A.plane.now.window A.plane.now.pair.seen in
    let f = noise_in A.plane.now.pair in
    let same : A.r ≡ A.r - A.d = omega arith in
    c.line_table.ensures
    ∙ ap (λ (m : ℕ). by_rows (side A.plane.now.lag.reach) (start_sum (at A.lo.now) (at A.lo.now) (m - 2 * A.plane.now.lag.reach))) (size _ _ R.lo_is)
    ∙ rows-table P A.r A.r R.shown R.shown R.lo_is R.lo_is
    ∙ ap (λ (u : ℕ). by_rows (side A.plane.now.lag.reach) (start_sum (f u) (f A.r) (A.plane.now.pair.view.width - 2 * A.plane.now.lag.reach))) same

pub returns-else-d-eq0 : goal.returns-else-d-eq0
returns-else-d-eq0 c =
    let A = c.args in
    let R = c.requires in
    let up = length-take-le A.plane.now.pair.view.width A.up.now (search rules) in
    let P = window-plot _ _ _ A.plane.now.window A.plane.now.pair.seen in
    c.line_table-else-d-eq0.ensures
    ∙ ap (λ (m : ℕ). by_rows (side A.plane.now.lag.reach) (start_sum (at c.noise_row.new.line) (at A.lo.now) (m - 2 * A.plane.now.lag.reach))) (size _ _ R.lo_is)
    ∙ rows-table P (A.r - A.d) A.r (omega arith) R.shown (rw up at c.noise_row.ensures) R.lo_is
