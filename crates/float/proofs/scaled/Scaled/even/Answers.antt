use Rattle.float.proofs.root.Normal.{even-part, odd_part}
use Rattle.float.proofs.scaled.Scaled.even.Goals as goal
use Rattle.float.proofs.scaled.Scaled.even.Goals.{then-self-eq0, else-self-eq0}

pub returns : goal.returns
returns c =
    elim c.if-self-eq0.branch [
      | then-self-eq0 w ↦ rw w.m-is (even-part c.args.self.m c.args.self.s w.if-self-eq0.true)
      | else-self-eq0 w ↦ rw w.m-is (odd_part c.args.self.m c.args.self.s w.if-self-eq0.false)
    ]
