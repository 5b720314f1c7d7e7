-- The sums with the luma tap of a frame: what is said of Cb's view holds of Cr's. Assumes nothing.
use Rattle.std.proofs.Common.{◌≡◌, ℕ, List, ℤ, sym, ap, ◌∙◌, subst}
use Rattle.frame.specs.declared.view.View.{View}
use Rattle.noise.specs.PlanePair.{shown}
use Rattle.noise.specs.Seen.{Over}
use Rattle.noise.specs.Average.{quarters}
use Rattle.normal.specs.Normal.{tap_square}
use Rattle.normal.specs.Calls.{TapSums}
use Rattle.normal.specs.ShownFrame.{luma_in}
use Rattle.normal.specs.declared.shown_frame.ShownFrame.{ShownFrame}

module _ (f : ShownFrame) where
  pub cr-over : Over (record { luma = f.luma.view; chroma = f.cr.view; sampling = f.sampling })
  cr-over = subst (λ (v : View). Over (record { luma = f.luma.view; chroma = v; sampling = f.sampling })) (sym f.alike) f.over

  pub cr-squares : {lag : ℕ} {squares : ℤ} {cb-taps cr-taps : List ℤ} → TapSums (luma_in f) (shown f.cb) (shown f.cr) lag squares cb-taps cr-taps
      → squares ≡ tap_square (quarters (luma_in f)) f.cr.view.width f.cr.view.height lag
  cr-squares {lag} T = T.squares-are ∙ ap (λ (v : View). tap_square (quarters (luma_in f)) v.width v.height lag) (sym f.alike)
