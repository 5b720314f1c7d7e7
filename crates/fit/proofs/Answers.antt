-- The answer of the call, from the number of its questions, luma's coefficients and chroma's. Assumes nothing.
use Rattle.std.proofs.Common.{◌≡◌, ℕ, Bool, true, false, List, ℤ, Some, Ok, sym, ap, ◌∙◌}
use Rattle.float.specs.Reading.{coefficients, marks, both}
use Rattle.float.specs.declared.quant.Quantised.{Quantised}
use Rattle.frame.specs.Calls.{fit_refusal}
use Rattle.frame.specs.declared.Shape.{Shape}
use Rattle.frame.proofs.FirstNo as refusal
use Rattle.noise.specs.Noise.{Pair}
use Rattle.noise.specs.Average.{Luma}
use Rattle.positions.specs.Counts.{neighbours}
use Rattle.fit.specs.Steps.{chroma_fit}
use Rattle.fit.specs.Answer.{all_zero, luma_first, unfit, found_of, fit_of, luma_of, plane_of, fit_answer}
use Rattle.fit.specs.Record.{coefficients_in, marks_in, record_of}
use Rattle.fit.proofs.Readings.{luma-read, chroma-read}

-- what is found
module _ (luma : Luma) (cb cr : Pair) (lag : ℕ) (x : List ℤ) (e : x ≡ luma_first coefficients luma lag) where
  no-fit : all_zero x (neighbours lag) ≡ true → unfit 0 ≡ fit_of luma cb cr lag
  unfolding fit_of
  no-fit t = rw (← e, t)

  fitted : all_zero x (neighbours lag) ≡ false → found_of luma cb cr lag ≡ fit_of luma cb cr lag
  unfolding fit_of
  fitted t = rw (← e, t)

module _ (s : Shape) (y cb cr y-denoised cb-denoised cr-denoised : List ℕ) (lag : ℕ) where
  pub refused : (n : ℕ) → n ≡ fit_refusal s y cb cr y-denoised cb-denoised cr-denoised lag → (n ≡ 0 → ⊥) → unfit n ≡ fit_answer s y cb cr y-denoised cb-denoised cr-denoised lag
  unfolding fit_answer
  refused n asked z = rw (← asked) (sym (refusal.refused n _ _ z))

  module _ (asked : 0 ≡ fit_refusal s y cb cr y-denoised cb-denoised cr-denoised lag) where
    pub accepted-is : fit_of (luma_of s y y-denoised) (plane_of s cb cb-denoised) (plane_of s cr cr-denoised) lag ≡ fit_answer s y cb cr y-denoised cb-denoised cr-denoised lag
    unfolding fit_answer
    accepted-is = sym (refusal.granted (fit_refusal s y cb cr y-denoised cb-denoised cr-denoised lag) _ _ (sym asked))

    -- as the code comes to it: the luma that it sees, luma's first coefficients and marks, how many there are, and whether all are 0
    module _ (luma : Luma) (luma-is : luma ≡ luma_of s y y-denoised) (count : ℕ) (counted : count ≡ neighbours lag)
        (first : List Quantised) (solved : first ≡ luma_first both luma lag) (b : Bool) (tested : b ≡ all_zero (coefficients_in first) count) where
      read : (coefficients_in first ≡ luma_first coefficients (luma_of s y y-denoised) lag) × (marks_in first ≡ luma_first marks (luma_of s y y-denoised) lag)
      read = luma-read (luma_of s y y-denoised).plane lag first (solved ∙ ap (λ (l : Luma). luma_first both l lag) luma-is)

      test : all_zero (coefficients_in first) (neighbours lag) ≡ b
      test = ap (all_zero (coefficients_in first)) (sym counted) ∙ sym tested

      pub none : b ≡ true → unfit 0 ≡ fit_answer s y cb cr y-denoised cb-denoised cr-denoised lag
      none t = no-fit (luma_of s y y-denoised) (plane_of s cb cb-denoised) (plane_of s cr cr-denoised) lag (coefficients_in first) read.0 (test ∙ t) ∙ accepted-is

      -- a chroma plane's
      chroma : (plane seen : Pair) → plane ≡ seen → (x : List Quantised) → x ≡ chroma_fit both luma plane lag
          → (coefficients_in x ≡ chroma_fit coefficients (luma_of s y y-denoised) seen lag) × (marks_in x ≡ chroma_fit marks (luma_of s y y-denoised) seen lag)
      chroma plane seen p x e = chroma-read (luma_of s y y-denoised) seen lag x (e ∙ (λ t. chroma_fit both (luma-is t) (p t) lag))

      pub some : b ≡ false → (blue red : Pair) → blue ≡ plane_of s cb cb-denoised → red ≡ plane_of s cr cr-denoised
          → (v w : List Quantised) → v ≡ chroma_fit both luma blue lag → w ≡ chroma_fit both luma red lag
          → record_of (Ok (Some (record { count = count; luma = first; cb = v; cr = w }))) ≡ fit_answer s y cb cr y-denoised cb-denoised cr-denoised lag
      some t blue red p q v w d e =
          let x = chroma blue (plane_of s cb cb-denoised) p v d in
          let z = chroma red (plane_of s cr cr-denoised) q w e in
          (λ i. record { refusal = 0; found = true; count = counted i; luma = read.0 i; cb = x.0 i; cr = z.0 i; luma_marks = read.1 i; cb_marks = x.1 i; cr_marks = z.1 i })
          ∙ fitted (luma_of s y y-denoised) (plane_of s cb cb-denoised) (plane_of s cr cr-denoised) lag (coefficients_in first) read.0 (test ∙ t)
          ∙ accepted-is
