-- The code's row is the definition's, and the pivot's row stays.
use Rattle.std.proofs.Common.{refl, arith}
use Rattle.laws.proofs.Turns.{turned-starts, turned_more, turned-ends}
use Rattle.solve.specs.Elimination.{cleared}
use Rattle.solve.proofs.Rows.{pivot-stays, row-cleared-is}
use Rattle.solve.proofs.equations.Equations.eliminate_below.Goals as goal

pub loop-r-init : goal.loop-r-init
loop-r-init c = (refl, refl, turned-starts _ _ _ _ (omega arith))

pub loop-r-preserved : goal.loop-r-preserved
loop-r-preserved c =
    let l = c.loop-r in (
      l.invariant.0,
      pivot-stays c.args.i l.r l.self.matrix _ c.less_row.new.row (omega arith) l.invariant.1,
      turned_more _ _ _ _ _ l.invariant.2 (omega arith)
          (row-cleared-is c.args.self.now.order c.args.i l.r l.self.matrix l.self.right _ c.less_row.new.row _ c.requires (omega arith) l.invariant.1 refl (rw l.invariant.0 at c.less_row.ensures)),
    )

pub returns-clause-system : goal.returns-clause-system
unfolding cleared
returns-clause-system c = turned-ends _ _ _ _ c.loop-r.invariant.2 c.loop-r-test.false
