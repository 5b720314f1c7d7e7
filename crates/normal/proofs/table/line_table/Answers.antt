-- `normal::table::line_table`: a place more; and after the last the table is whole.
use Rattle.std.proofs.Common.{ℕ, ◌+◌, ◌-◌, ◌*◌, ◌<◌, ◌∙◌, w64, sym, ap, length, rules}
use native.Mathlib.Nat.{le_trans, le_of_eq, lt_of_lt_of_le, mul-le-mul_right, add_assoc}
use lib.Arith.{digits_lt}
use Rattle.laws.specs.Table.{tabulate}
use Rattle.noise.specs.Lines.{at}
use Rattle.positions.specs.Counts.{side}
use Rattle.normal.specs.Starts.{start_sum, by_blocks, upper}
use Rattle.normal.proofs.Overlaps.{kept}
use Rattle.normal.proofs.Places.{block-at}
use Rattle.normal.proofs.Reached.{reached-turn, reached-ends}
use Rattle.normal.proofs.table.line_table.Goals as goal

pub loop-b-preserved : goal.loop-b-preserved
loop-b-preserved c =
    let A = c.args in
    let H = c.loop-b.invariant in
    let s = c.side-side.ensures in
    let start = rw s at c.loop-b-test.true in
    let place : c.loop-a.a * side A.lag.reach + c.loop-b.b < length A.table.now = lt_of_lt_of_le (digits_lt (rw s at c.loop-a-test.true) start) (le_of_eq (sym c.requires.fits)) in (
      search rules,
      rw (s, ← add_assoc (c.loop-a.a * side A.lag.reach) c.loop-b.b 1)
          (reached-turn _ _ (c.loop-a.a * side A.lag.reach + c.loop-b.b) H.1 _ place
          (kept {w = w64} (record { sfits = c.next_sum.type_inv }) c.next_sum.ensures ∙ sym (block-at (side A.lag.reach) (start_sum (at (upper A.up A.lo.now)) (at A.lo.now) (length A.lo.now - 2 * A.lag.reach)) c.loop-a.a c.loop-b.b start))),
    )

pub returns : goal.returns
returns c =
    let A = c.args in
    reached-ends _ _ (c.loop-a.a * side A.lag.reach) c.loop-a.invariant.1 (le_trans (le_of_eq c.requires.fits) (mul-le-mul_right (side A.lag.reach) (rw c.side-side.ensures at c.loop-a-test.false)))
    ∙ ap (λ (k : ℕ). tabulate k (by_blocks (side A.lag.reach) (start_sum (at (upper A.up A.lo.now)) (at A.lo.now) (length A.lo.now - 2 * A.lag.reach)))) c.requires.fits
