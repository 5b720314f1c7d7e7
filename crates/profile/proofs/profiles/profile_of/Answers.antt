-- `profile::profiles::profile_of`: the figures follow from the bins.
use Rattle.std.proofs.Common.{◌≡◌, ℕ, ◌-◌, ◌*◌, ◌^◌, ◌<◌, sum, sym, ap, ◌∙◌, le_trans, le_of_eq, rules}
use Rattle.std.proofs.iter.runs.Made.{chains}
use lib.ListN.{length-replicate}
use Rattle.laws.proofs.Fill.{fill-ends}
use Rattle.float.specs.Steps.{sigma16_of}
use Rattle.frame.specs.View.{viewed}
use Rattle.frame.proofs.Viewed.{viewed-length}
use Rattle.profile.proofs.Figures.{bins-fit, added-up, figures}
use Rattle.profile.proofs.Rows.{shown-low}
use Rattle.profile.proofs.profiles.profile_of.Goals as goal

pub sum-requires-clause-fits : goal.sum-requires-clause-fits
sum-requires-clause-fits g c =
    let h : sum c.view_bins-bins.result.squares < 2 ^ 64 = rw added-up (bins-fit (shown-low c.args.low.now.low) c.args.split.bits c.view_bins-bins.ensures.squares) in
    search (rules, chains)

pub returns : goal.returns
returns g c =
    let a = c.args in
    let p = a.low.now in
    let v = p.view in
    let squares : c.sum.result ≡ sum c.view_bins-bins.result.squares = search (rules, chains) in
    figures a.split.bits a.least (p.depth - 8) (viewed v p.source.now) (viewed v p.denoised.now) c.view_bins-bins.ensures.count c.view_bins-bins.ensures.squares (sym (viewed-length v p.source.now))
    (c.sigma16-sigma16.ensures ∙ ap (λ (s : ℕ). sigma16_of s (v.width * v.height)) (squares ∙ added-up _)) c.max-enough.ensures (length-replicate _ _ ∙ a.split.number) (fill-ends _ _ c.loop-j.invariant (le_trans (le_of_eq (length-replicate _ _)) c.loop-j-test.false))
