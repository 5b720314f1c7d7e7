-- `gate::finding::luma_finding`: each return is one of the laws of its tests.
use Rattle.laws.proofs.Constants.{three-quarters-bits}
use Rattle.profile.proofs.ViewSquares.{sigma-is}
use Rattle.gate.proofs.Findings.{luma-low, luma-first, luma-row, luma-last}
use Rattle.gate.proofs.finding.luma_finding.Goals as goal

pub returns-then-sigma16-lt16 : goal.returns-then-sigma16-lt16
returns-then-sigma16-lt16 c =
    let p = c.args.frames.now.first in
    let k = sigma-is p.view c.args.shift.bits p.source.now p.denoised.now c.of_plane-sums.ensures.squares c.samples.ensures c.sigma16-sigma16.ensures in
    luma-low _ _ _ _ k c.if-sigma16-lt16.true

pub returns-then-e0 : goal.returns-then-e0
returns-then-e0 c =
    let p = c.args.frames.now.first in
    let k = sigma-is p.view c.args.shift.bits p.source.now p.denoised.now c.of_plane-sums.ensures.squares c.samples.ensures c.sigma16-sigma16.ensures in
    luma-first _ _ _ _ k c.if-sigma16-lt16.false _ c.of_plane-sums.ensures.energy c.if-e0.true

pub returns-then-magnitude : goal.returns-then-magnitude
returns-then-magnitude c =
    let p = c.args.frames.now.first in
    let s = c.of_plane-sums.ensures in
    let k = sigma-is p.view c.args.shift.bits p.source.now p.denoised.now s.squares c.samples.ensures c.sigma16-sigma16.ensures in
    luma-row _ _ _ _ k c.if-sigma16-lt16.false _ s.energy c.if-e0.false _ _ s.lagged c.magnitude.ensures (rw (← three-quarters-bits) c.if-magnitude.true)

pub returns-else-magnitude : goal.returns-else-magnitude
returns-else-magnitude c =
    let p = c.args.frames.now.first in
    let s = c.of_plane-sums.ensures in
    let k = sigma-is p.view c.args.shift.bits p.source.now p.denoised.now s.squares c.samples.ensures c.sigma16-sigma16.ensures in
    luma-last _ _ _ _ k c.if-sigma16-lt16.false _ s.energy c.if-e0.false _ _ s.lagged c.magnitude.ensures (rw (← three-quarters-bits) c.if-magnitude.false) _ c.second_finding.ensures
