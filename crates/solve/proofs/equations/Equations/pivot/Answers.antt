-- A turn takes row r where its magnitude is the larger; std's exchange is the definition's, of rows and of right sides.
use Rattle.std.proofs.Common.{◌≡◌, ◌≤◌, true, false, [], sym, ◌∙◌, arith}
use Rattle.std.specs.Float.{nan}
use Rattle.std.proofs.lemmas.List.Edits.{swap_is}
use Rattle.laws.proofs.Turns.{turned-starts, turned_more, turned-ends}
use Rattle.solve.specs.Elimination.{larger, pivot_of, pivoted, swapped}
use Rattle.solve.proofs.Column.{picked}
use Rattle.solve.proofs.equations.Equations.pivot.Goals as goal
use Rattle.solve.proofs.equations.Equations.pivot.Goals.{then-magnitude, else-magnitude}

pub loop-r-init : goal.loop-r-init
loop-r-init c = (omega arith, turned-starts _ _ _ _ (omega arith))

pub loop-r-preserved : goal.loop-r-preserved
unfolding larger
loop-r-preserved c =
    let m = c.magnitude.ensures in
    let m2 = c.magnitude-in-loop-r.ensures in (
      elim c.if-magnitude.branch [ then-magnitude w ↦ omega arith | else-magnitude w ↦ omega arith ],
      turned_more _ _ _ _ _ c.loop-r.invariant.1 (omega arith)
          (elim c.if-magnitude.branch [
            | then-magnitude w ↦ picked _ _ _ _ true _ _ _ m2 m w.if-magnitude.true w.pivot-is
            | else-magnitude w ↦ picked _ _ _ _ false _ _ _ m2 m w.if-magnitude.false w.pivot-is
          ]),
    )

pub returns-clause-system : goal.returns-clause-system
unfolding pivoted pivot_of
returns-clause-system c =
    let s = c.args.self.now in
    let i = c.args.i in
    let k = c.loop-r.pivot in
    let f : s.order ≤ 25 = s.few in
    let e : c.swap.new.self ≡ swapped [] s.matrix i k = c.swap.ensures.after ∙ sym (swap_is s.matrix i k [] (omega arith) (omega arith)) in
    let d : c.swap-2.new.self ≡ swapped nan s.right i k = c.swap-2.ensures.after ∙ sym (swap_is s.right i k nan (omega arith) (omega arith)) in
    rw (e, d, turned-ends _ _ _ _ c.loop-r.invariant.1 c.loop-r-test.false)
