-- `profile::parts::part_squares`: where the samples are low, the noise is taken, then shifted, and its squares added up.
use Rattle.std.proofs.Common.{◌-◌, Some, length, ap, ◌∙◌, rules}
use lib.Seq.{length-take-le}
use Rattle.profile.specs.Shifted.{shifted_noise}
use Rattle.profile.proofs.LowParts.{is-low, asked-both, part-run, shift_line, part_small}
use Rattle.profile.proofs.PartBins.{run-places}
use Rattle.profile.proofs.Squares.{line-sum}
use Rattle.profile.proofs.parts.part_squares.Goals as goal

pub returns-then-not-low : goal.returns-then-not-low
returns-then-not-low c =
    let p = c.args.part in
    let e = asked-both c.args.depth p.source.now p.denoised.now c.samples_low.ensures c.samples_low-2.ensures c.if-not-low.true in
    rw e

pub noise_line-requires : goal.noise_line-requires
noise_line-requires c =
    let p = c.args.part in
    let e = asked-both c.args.depth p.source.now p.denoised.now c.samples_low.ensures c.samples_low-2.ensures c.if-not-low.false in
    run-places (part-run c.requires (is-low _ _ _ e) _ (length-take-le (length p.source.now) _ (search rules)))

pub line_squares-requires : goal.line_squares-requires
line_squares-requires c =
    let p = c.args.part in
    let e = asked-both c.args.depth p.source.now p.denoised.now c.samples_low.ensures c.samples_low-2.ensures c.if-not-low.false in
    let plain = length-take-le (length p.source.now) _ (search rules) in
    let shifted = length-take-le (length p.source.now) _ (search rules) in
    part_small c.requires (is-low _ _ _ e) (shift_line p.source.now p.denoised.now (c.args.depth - 8) _ _ plain shifted c.noise_line.ensures (rw c.depth_shift.ensures at c.shifted_line.ensures))

pub returns : goal.returns
returns c =
    let p = c.args.part in
    let e = asked-both c.args.depth p.source.now p.denoised.now c.samples_low.ensures c.samples_low-2.ensures c.if-not-low.false in
    let plain = length-take-le (length p.source.now) _ (search rules) in
    let shifted = length-take-le (length p.source.now) _ (search rules) in
    let line = shift_line p.source.now p.denoised.now (c.args.depth - 8) _ _ plain shifted c.noise_line.ensures (rw c.depth_shift.ensures at c.shifted_line.ensures) in
    rw e (ap Some (c.line_squares.ensures ∙ line-sum (length p.source.now) (shifted_noise (c.args.depth - 8) p.source.now p.denoised.now) line))
