-- "Chroma of monochrome, of too small a plane or without a solution is all zeros", each of them inside: in every call's answer. Assumes nothing.
use Rattle.std.proofs.Common.{◌≡◌, ℕ, List, sym, refl, zero-le}
use Rattle.float.specs.Reading.{Reading, coefficients, marks}
use Rattle.frame.specs.Size.{chroma_width}
use Rattle.frame.specs.declared.Shape.{Shape}
use Rattle.noise.specs.Average.{Luma}
use Rattle.fit.specs.Steps.{zeros, coefficients_of, chroma_fit}
use Rattle.fit.specs.Answer.{luma_of, plane_of, fit_answer}
use Rattle.fit.specs.Words.{NoChroma, Zeros, monochrome, narrow, short, unsolved}
use Rattle.fit.proofs.ChromaSteps as steps
use Rattle.fit.proofs.EachFit.{chroma-case, answer-case}

no-columns : (format w : ℕ) → format ≡ 0 → chroma_width format w ≡ 0
unfolding chroma_width
no-columns format w e = rw e

none : {A : Type 0} (R : Reading A) (s : Shape) (luma : Luma) (source denoised : List ℕ) (lag : ℕ) → NoChroma s.format luma (plane_of s source denoised) lag → chroma_fit R luma (plane_of s source denoised) lag ≡ zeros R
unfolding coefficients_of
none R s luma source denoised lag (monochrome e) = sym (steps.narrow R luma (plane_of s source denoised) lag (rw (no-columns s.format s.active.width e) zero-le))
none R s luma source denoised lag (narrow n) = sym (steps.narrow R luma (plane_of s source denoised) lag n)
none R s luma source denoised lag (short n) = sym (steps.short R luma (plane_of s source denoised) lag n)
none R s luma source denoised lag (unsolved e) = chroma-case R (λ x. x ≡ zeros R) refl luma (plane_of s source denoised) lag (rw e)

module _ (s : Shape) (y cb cr y-denoised cb-denoised cr-denoised : List ℕ) (lag : ℕ) where
  pub no-cb : NoChroma s.format (luma_of s y y-denoised) (plane_of s cb cb-denoised) lag → Zeros (fit_answer s y cb cr y-denoised cb-denoised cr-denoised lag).cb (fit_answer s y cb cr y-denoised cb-denoised cr-denoised lag).cb_marks
  no-cb n =
      answer-case (λ f. Zeros f.cb f.cb_marks) (λ n. (refl, refl)) s y cb cr y-denoised cb-denoised cr-denoised lag
      (none coefficients s _ cb cb-denoised lag n, none marks s _ cb cb-denoised lag n)

  pub no-cr : NoChroma s.format (luma_of s y y-denoised) (plane_of s cr cr-denoised) lag → Zeros (fit_answer s y cb cr y-denoised cb-denoised cr-denoised lag).cr (fit_answer s y cb cr y-denoised cb-denoised cr-denoised lag).cr_marks
  no-cr n =
      answer-case (λ f. Zeros f.cr f.cr_marks) (λ n. (refl, refl)) s y cb cr y-denoised cb-denoised cr-denoised lag
      (none coefficients s _ cr cr-denoised lag n, none marks s _ cr cr-denoised lag n)
