-- 5.9.30: each coefficient of every answer, plus 128, is a field of 8 bits. Assumes nothing.
use Rattle.std.proofs.Common.{ℕ, zero, suc, Bool, true, false, cond, List, replicate, ℤ, pos, sym, refl, subst, lt_of_not-le, lit<}
use native.Mathlib.Decide.{dec_le}
use lib.ListN.{get_or-eq_default}
use Rattle.laws.specs.Table.{tabulate}
use Rattle.laws.proofs.Table.{get_d_tabulate, length-tabulate}
use Rattle.frame.specs.declared.Shape.{Shape}
use Rattle.float.specs.Coefficient.{Written}
use Rattle.float.specs.Reading.{coefficients}
use Rattle.float.proofs.Coefficient.{quant-written}
use Rattle.solve.specs.Elimination.{value}
use Rattle.solve.specs.declared.Solved.{Solved}
use Rattle.fit.specs.Steps.{zeros, quantised, coefficients_of, chroma_fit}
use Rattle.fit.specs.Answer.{first_of, luma_of, plane_of, fit_answer}
use Rattle.fit.specs.Words.{luma_solved, chroma_solved, AllWritten, FitWritten}
use Rattle.fit.proofs.EachFit.{luma-case, chroma-case, answer-case}

zero-written : Written (pos 0)
zero-written = record { field = 128; bits = lit< tt; is = refl }

zeros-written : (n : ℕ) → AllWritten (replicate n (pos 0))
zeros-written zero i = zero-written
zeros-written (suc n) zero = zero-written
zeros-written (suc n) (suc i) = zeros-written n i

table-written : (n : ℕ) (f : ℕ → ℤ) → ((i : ℕ) → Written (f i)) → AllWritten (tabulate n f)
table-written n f h i =
    elim (dec_le n i) [
      | yes l ↦ subst Written (sym (get_or-eq_default (tabulate n f) (pos 0) (rw (length-tabulate n f) l))) zero-written
      | no l ↦ subst Written (sym (get_d_tabulate n f i (pos 0) (lt_of_not-le l))) (h i)
    ]

solved-written : (r : Solved) → AllWritten (coefficients_of coefficients r)
unfolding coefficients_of quantised
solved-written r = go r.found
  where
    go : (b : Bool) → AllWritten (cond b (quantised coefficients r.solution.values) (zeros coefficients))
    go true = table-written 25 _ (λ i. quant-written (value r.solution.values i))
    go false = zeros-written 25

-- of an answer
pub fit_written : (s : Shape) (y cb cr y-denoised cb-denoised cr-denoised : List ℕ) (lag : ℕ) → FitWritten (fit_answer s y cb cr y-denoised cb-denoised cr-denoised lag)
unfolding first_of
fit_written s y cb cr y-denoised cb-denoised cr-denoised lag =
    answer-case FitWritten (λ n. record { luma = zeros-written 24; cb = zeros-written 25; cr = zeros-written 25 }) s y cb cr y-denoised cb-denoised cr-denoised lag
    (record {
      luma = table-written 24 _ (luma-case coefficients AllWritten (zeros-written 25) _ lag (solved-written (luma_solved (luma_of s y y-denoised).plane lag)));
      cb = chroma cb cb-denoised;
      cr = chroma cr cr-denoised;
    })
  where
    chroma : (source denoised : List ℕ) → AllWritten (chroma_fit coefficients (luma_of s y y-denoised) (plane_of s source denoised) lag)
    chroma source denoised = chroma-case coefficients AllWritten (zeros-written 25) _ _ lag (solved-written (chroma_solved (luma_of s y y-denoised) (plane_of s source denoised) lag))
