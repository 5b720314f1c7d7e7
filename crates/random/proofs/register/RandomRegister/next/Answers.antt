-- Past the question, the text's answer is the register's top bits: nothing stands above them.
use Rattle.std.proofs.Common.{◌<◌, ◌^◌, sym, rules}
use Rattle.frame.proofs.Known.{bits_fit}
use Rattle.random.proofs.Agree.{moved-is}
use Rattle.random.proofs.Draws.{step-accepted, answer-top}
use Rattle.random.proofs.register.RandomRegister.next.Goals as goal

pub returns-clause-draw : goal.returns-clause-draw
returns-clause-draw c =
    let g = c.args.self.now in
    let l = bits_fit c.args.bits (sym c.in_ok-ask_bits.ensures) in
    let h : g.state < 2 ^ 16 = search rules in
    rw (step-accepted g c.args.bits l, answer-top g.state c.args.bits h l, ← moved-is g.state h) (cc)

pub returns-clause-register : goal.returns-clause-register
returns-clause-register c =
    let g = c.args.self.now in
    let l = bits_fit c.args.bits (sym c.in_ok-ask_bits.ensures) in
    let h : g.state < 2 ^ 16 = search rules in
    rw (step-accepted g c.args.bits l, ← moved-is g.state h) (cc)
