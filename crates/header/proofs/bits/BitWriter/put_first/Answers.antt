-- `header::bits::BitWriter::put_first`: a byte more is stored, or there is no room for it. Assumes nothing.
use Rattle.std.proofs.Common.{arith}
use lib.Pow.{shr_lt}
use Rattle.header.proofs.Holding.{next, held-stored, held-past}
use Rattle.header.proofs.bits.BitWriter.put_first.Goals as goal
use Rattle.header.proofs.bits.BitWriter.put_first.Goals.{then-at-self, else-at-self}

pub overflow_cast-self-then-at-self : goal.overflow_cast-self-then-at-self
overflow_cast-self-then-at-self c = omega (arith, shr_lt {n = c.args.pending} 8 c.args.rest c.requires.1)

pub returns-clause-held : goal.returns-clause-held
returns-clause-held c =
    let e = c.power.ensures.0 in
    elim c.if-at-self.branch [
      | then-at-self w ↦ λ from bs l h. rw (w.self-is, e, next c.args.rest h l) (held-stored c.args.rest h)
      | else-at-self w ↦ λ from bs l h. rw (w.self-is, e, next c.args.rest h l) (held-past c.args.rest h w.if-at-self.false)
    ]
