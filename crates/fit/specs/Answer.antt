-- "'No fit' is an accepted result". "A refused call returns its number, with every other field of the answer zero": the answer of `fit_ar_lag`.
use Rattle.std.specs.Prelude.{ℕ, zero, suc, Bool, true, false, cond, ◌&&◌, List, get_or, replicate, ℤ, pos, ◌==◌, slice_index_or, unsigned_abs}
use Rattle.laws.specs.Table.{tabulate}
use Rattle.float.specs.Reading.{Reading, coefficients, marks}
use Rattle.frame.specs.Questions.{accepted}
use Rattle.frame.specs.Calls.{fit_refusal}
use Rattle.frame.specs.Planes.{geometry_of}
use Rattle.frame.specs.declared.Shape.{Shape}
use Rattle.noise.specs.Noise.{Pair}
use Rattle.noise.specs.Average.{Luma, luma_seen}
use Rattle.noise.specs.Seen.{seen}
use Rattle.positions.specs.Counts.{neighbours}
use Rattle.fit.specs.Steps.{luma_fit, chroma_fit}
use Rattle.fit.specs.declared.Fit.{Fit}

-- `y.iter().all(|&c| c == 0)`, of the first n
unfoldable pub all_zero : List ℤ → ℕ → Bool
all_zero x zero = true
all_zero x (suc n) = all_zero x n && unsigned_abs (slice_index_or x n (pos 0)) == 0

-- luma's at most 24
unfoldable pub first_of : {A : Type 0} → Reading A → List A → List A
first_of R x = tabulate 24 (λ i. get_or x i R.unquantised)

abbrev pub luma_first : {A : Type 0} → Reading A → Luma → ℕ → List A
luma_first R luma lag = first_of R (luma_fit R luma.plane lag)

-- refused with this number, or, with 0, no fit
abbrev pub unfit : ℕ → Fit
unfit n =
    record {
      refusal = n;
      found = false;
      count = 0;
      luma = replicate 24 (pos 0);
      cb = replicate 25 (pos 0);
      cr = replicate 25 (pos 0);
      luma_marks = replicate 24 0;
      cb_marks = replicate 25 0;
      cr_marks = replicate 25 0;
    }

-- a fit of a luma plane and two chroma planes
abbrev pub found_of : Luma → Pair → Pair → ℕ → Fit
found_of luma cb cr lag =
    record {
      refusal = 0;
      found = true;
      count = neighbours lag;
      luma = luma_first coefficients luma lag;
      cb = chroma_fit coefficients luma cb lag;
      cr = chroma_fit coefficients luma cr lag;
      luma_marks = luma_first marks luma lag;
      cb_marks = chroma_fit marks luma cb lag;
      cr_marks = chroma_fit marks luma cr lag;
    }

-- what is found: no fit where luma's coefficients are all 0
unfoldable pub fit_of : Luma → Pair → Pair → ℕ → Fit
fit_of luma cb cr lag = cond (all_zero (luma_first coefficients luma lag) (neighbours lag)) (unfit 0) (found_of luma cb cr lag)

-- the luma of a frame, and a chroma plane, as a call sees them
abbrev pub luma_of : Shape → List ℕ → List ℕ → Luma
luma_of s source denoised = luma_seen (geometry_of s) source denoised

abbrev pub plane_of : Shape → List ℕ → List ℕ → Pair
plane_of s source denoised = seen (geometry_of s).chroma source denoised

unfoldable pub fit_answer : Shape → List ℕ → List ℕ → List ℕ → List ℕ → List ℕ → List ℕ → ℕ → Fit
fit_answer s y cb cr y-denoised cb-denoised cr-denoised lag =
    let n = fit_refusal s y cb cr y-denoised cb-denoised cr-denoised lag in
    accepted n (fit_of (luma_of s y y-denoised) (plane_of s cb cb-denoised) (plane_of s cr cr-denoised) lag) (unfit n)
