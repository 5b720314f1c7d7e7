-- The answer is the definition's where the call is refused, at a small pivot, and at the end.
use Rattle.std.proofs.Common.{true, false, refl, ◌∙◌, arith}
use Rattle.std.proofs.lemmas.Grind.{common_steps}
use Rattle.laws.proofs.Constants.{tiny-bits}
use Rattle.laws.proofs.Turns.{turned-starts, turned-ends}
use Rattle.frame.proofs.FirstNo.{number-above}
use Rattle.solve.proofs.Column.{column-turn}
use Rattle.solve.proofs.Answer.{refused-is, none_is, found-is}
use Rattle.solve.proofs.solve_normal.Goals as goal

pub returns-in_err-ask_order : goal.returns-in_err-ask_order
returns-in_err-ask_order c =
    let h = refused-is c.args.a c.args.b c.args.order _ c.in_err-ask_order.ensures (number-above c.in_err-ask_order.field-0.0) in
    grind (arith, common_steps, h)

pub loop-i-init : goal.loop-i-init
loop-i-init c = (refl, turned-starts _ _ _ _ (omega arith))

pub loop-i-preserved : goal.loop-i-preserved
loop-i-preserved c =
    let l = c.loop-i in
    let same = c.pivot.ensures.order ∙ l.invariant.0 in (
      c.eliminate_below.ensures.order ∙ same,
      rw (c.eliminate_below.ensures.system, same)
          (column-turn _ _ _ _ _ _ false l.invariant.1 (omega arith) (rw l.invariant.0 at c.pivot.ensures.system)
          (rw c.pivot.ensures.pivot at c.magnitude.ensures) (rw (← tiny-bits) c.if-magnitude.false)),
    )

pub returns-then-magnitude : goal.returns-then-magnitude
returns-then-magnitude c =
    let l = c.loop-i in
    none_is _ _ _ _ c.in_ok-ask_order.ensures refl _
    (column-turn _ _ _ _ _ _ true l.invariant.1 (omega arith) (rw l.invariant.0 at c.pivot.ensures.system)
    (rw c.pivot.ensures.pivot at c.magnitude.ensures) (rw (← tiny-bits) c.if-magnitude.true))

pub returns : goal.returns
returns c =
    found-is _ _ _ _ c.in_ok-ask_order.ensures refl _ _ _
    (turned-ends _ _ _ _ c.loop-i.invariant.1 c.loop-i-test.false) (rw c.loop-i.invariant.0 at c.back_substitute-values.ensures)
