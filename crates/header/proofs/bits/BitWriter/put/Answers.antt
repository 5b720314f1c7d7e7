-- `header::bits::BitWriter::put`: the bits go behind those that wait, and a byte is stored where there are eight. Assumes nothing.
use Rattle.std.proofs.Common.{◌≡◌, refl, ◌+◌, ◌-◌, ◌++◌, arith}
use Rattle.header.specs.Bits.{digits}
use Rattle.header.proofs.Holding.{held_more, put_low}
use Rattle.header.proofs.bits.BitWriter.put.Goals as goal

pub invariant_of-self : goal.invariant_of-self
invariant_of-self c =
    let w = c.args.self.now.cursor in
    record { short = c.if-count-lt8.true; low = (put_low w.count w.pending c.args.bits c.args.value _ w.short w.low c.requires c.power-p.ensures.0).0 }

pub put_first-requires : goal.put_first-requires
put_first-requires c =
    let w = c.args.self.now.cursor in
    let h = (put_low w.count w.pending c.args.bits c.args.value _ w.short w.low c.requires c.power-p.ensures.0).0 in
    let l : 8 + (w.count + c.args.bits - 8) ≡ w.count + c.args.bits = omega arith in
    (omega arith, rw l h)

pub returns-then-count-lt8 : goal.returns-then-count-lt8
returns-then-count-lt8 c =
    let e = c.power-p.ensures.0 in
    record { same = refl; put = λ from bs l h. rw e (held_more h c.args.bits c.args.value) }

pub returns-else-count-lt8 : goal.returns-else-count-lt8
returns-else-count-lt8 c =
    let w = c.args.self.now.cursor in
    let e = c.power-p.ensures.0 in
    let l : w.count + c.args.bits ≡ w.count + c.args.bits - 8 + 8 = omega arith in
    record {
      same = c.put_first.ensures.same;
      put = λ from bs q h. c.put_first.ensures.held from (bs ++ digits c.args.bits c.args.value) q (rw e (rw l at (held_more h c.args.bits c.args.value)));
    }
