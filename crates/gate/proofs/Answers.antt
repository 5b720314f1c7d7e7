-- The answers of the calls, from the number of their questions and from what they find. Assumes nothing.
use Rattle.std.proofs.Common.{Ok, Err, ◌≡◌, ℕ, zero, suc, ◌-◌, List, sym, refl}
use lib.Ieee.{Float}
use Rattle.frame.specs.View.{whole}
use Rattle.frame.specs.Planes.{view_of}
use Rattle.frame.specs.Calls.{pair_refusal, gate_refusal}
use Rattle.frame.specs.declared.Shape.{Shape}
use Rattle.frame.specs.declared.view.View.{View}
use Rattle.frame.specs.declared.view.Component.TheVariants.{Y, CbCr}
use Rattle.frame.proofs.FirstNo as refusal
use Rattle.noise.specs.Seen.{seen}
use Rattle.gate.specs.RowCorrelation.{row_correlation}
use Rattle.gate.specs.Answers.{rho, rho_answer, refused_gate, found_gate, luma_answer, chroma_answer}
use Rattle.gate.specs.Tests.{luma_of, chroma_finding}

rho-refused : (n : ℕ) (x : Float) → (n ≡ 0 → ⊥) → Err n ≡ rho n x
rho-refused zero x h = absurd (h refl)
rho-refused (suc n) x h = refl

module _ (a b : List ℕ) (w h lag depth n : ℕ) (asked : n ≡ pair_refusal w h depth a b) where
  pub refused : (n ≡ 0 → ⊥) → Err n ≡ rho_answer a b w h lag depth
  unfolding rho_answer
  refused z = rw (← asked) (rho-refused n _ z)

  pub answered : {x : Float} → n ≡ 0 → x ≡ row_correlation (seen (whole w h) a b) lag → Ok x ≡ rho_answer a b w h lag depth
  unfolding rho_answer
  answered z e = rw (← asked, z, e)

module _ (s : Shape) (a b c d : List ℕ) {n : ℕ} where
  module _ (asked : n ≡ gate_refusal s Y a b c d) where
    pub luma-refused : (n ≡ 0 → ⊥) → refused_gate n ≡ luma_answer s a b c d
    unfolding luma_answer
    luma-refused z = rw (← asked) (sym (refusal.refused n _ (refused_gate n) z))

    pub luma-answered : {v : View} → n ≡ 0 → v ≡ view_of s Y → found_gate (luma_of (s.depth - 8) (seen v a b) (seen v c d)) ≡ luma_answer s a b c d
    unfolding luma_answer
    luma-answered z e = rw (← asked, e) (sym (refusal.granted n _ (refused_gate n) z))

  module _ (sigma16 : ℕ) (asked : n ≡ gate_refusal s CbCr a b c d) where
    pub chroma-refused : (n ≡ 0 → ⊥) → refused_gate n ≡ chroma_answer s a b c d sigma16
    unfolding chroma_answer
    chroma-refused z = rw (← asked) (sym (refusal.refused n _ (refused_gate n) z))

    pub chroma-answered : {v : View} → n ≡ 0 → v ≡ view_of s CbCr → found_gate (chroma_finding sigma16 (seen v a b) (seen v c d)) ≡ chroma_answer s a b c d sigma16
    unfolding chroma_answer
    chroma-answered z e = rw (← asked, e) (sym (refusal.granted n _ (refused_gate n) z))
