use Rattle.float.proofs.root.Loop.{start, zero-digit, one-digit, ended, done}
use Rattle.float.proofs.root.root_digits.Goals as goal
use Rattle.float.proofs.root.root_digits.Goals.{then-step-rest, else-step-rest}

pub loop-i-init : goal.loop-i-init
loop-i-init c = start c.args.m c.requires.0 c.requires.1

pub returns-then-rest-left-eq0 : goal.returns-then-rest-left-eq0
returns-then-rest-left-eq0 c =
    let l = c.loop-i in
    ended c.args.m l.root l.rest l.left l.i c.requires.0 l.invariant c.if-rest-left-eq0.true

pub loop-i-preserved : goal.loop-i-preserved
loop-i-preserved c =
    let l = c.loop-i in
    let m = c.args.m in
    elim c.if-step-rest.branch [
      | then-step-rest w ↦ rw (w.root-is, w.rest-is) (one-digit m l.root l.rest l.left l.i l.invariant c.loop-i-test.true w.if-step-rest.true)
      | else-step-rest w ↦ rw (w.root-is, w.rest-is) (zero-digit m l.root l.rest l.left l.i l.invariant c.loop-i-test.true c.if-rest-left-eq0.false w.if-step-rest.false)
    ]

pub returns : goal.returns
returns c =
    let l = c.loop-i in
    done c.args.m l.root l.rest l.left l.i c.requires.0 l.invariant c.loop-i-test.false
