-- `normal::blocks::add_passed`: row r is one of those rows, or comes before or after them.
use Rattle.std.proofs.Common.{ℤ, ◌+ℤ◌, length, sym, ap, ◌∙◌}
use Rattle.laws.proofs.Table.{tabulate-same}
use Rattle.noise.specs.Lines.{at}
use Rattle.normal.proofs.Passing.{passed-before, passed-now, passed-after}
use Rattle.normal.proofs.Reached.{unchanged}
use Rattle.normal.proofs.blocks.add_passed.Goals as goal
use Rattle.normal.proofs.blocks.add_passed.Goals.{else-low-r-via-then-low-r+else-r-low, else-low-r-via-else-low-r}

pub returns-then-r-low : goal.returns-then-r-low
returns-then-r-low c =
    let A = c.args in
    c.add_to.ensures
    ∙ tabulate-same (length A.block.now) _ _ (λ i l. ap (λ (x : ℤ). at A.block.now i +ℤ x) (sym (passed-now A.rows A.r A.low (at A.table.now i) c.if-low-r.true c.if-r-low.true)))

pub returns-else-low-r : goal.returns-else-low-r
returns-else-low-r c =
    elim c.else-low-r.branch [
      | else-low-r-via-then-low-r+else-r-low w ↦ unchanged c.args.block.now _ (λ i. passed-after _ _ _ _ w.if-low-r.true w.if-r-low.false)
      | else-low-r-via-else-low-r w ↦ unchanged c.args.block.now _ (λ i. passed-before _ _ _ _ w.if-low-r.false)
    ]
