-- Turn n gives unknown order - 1 - n.
use Rattle.std.proofs.Common.{◌≡◌, ◌+◌, ◌-◌, arith}
use Rattle.laws.proofs.Turns.{turned-starts, turned_more, turned-ends}
use Rattle.solve.specs.Elimination.{unknown_of, placed, substituted}
use Rattle.solve.proofs.equations.Equations.back_substitute.Goals as goal

pub loop-i-init : goal.loop-i-init
loop-i-init c =
    let e : c.args.self.now.order - c.args.self.now.order ≡ 0 = omega arith in
    rw e (turned-starts _ _ _ _ (omega arith))

pub loop-i-preserved : goal.loop-i-preserved
unfolding placed unknown_of
loop-i-preserved c =
    let order = c.args.self.now.order in
    let i = c.loop-i.i in
    let n : order - (i - 1) ≡ order - i + 1 = omega arith in
    let d : order - 1 - (order - i) ≡ i - 1 = omega arith in
    rw n (turned_more _ _ _ _ _ c.loop-i.invariant (omega arith) (rw (d, c.less_known.ensures)))

pub returns : goal.returns
unfolding substituted
returns c = turned-ends _ _ _ _ c.loop-i.invariant (omega arith)
