-- "Width 2 at lag 1: no fit. Lag 4: 7." Then fits that are plain to see: where every sample is the one to its left, that neighbour's coefficient is 1, kept as 64, and the others are 0; where it is three times that, the coefficient is 3, held at 127. The same inside an active rectangle whose frame says otherwise.
use Rattle.std.specs.Prelude.{true, List, [], ◌∷◌, ◌++◌, ℕ, ℤ, pos, replicate}
use Rattle.table.specs.Cases.{Case, row}
use Rattle.table.specs.Questions.{shape, at, within}
use Rattle.frame.specs.Planes.{samples_of}
use Rattle.frame.specs.declared.Shape.{Shape}
use Rattle.frame.specs.declared.view.Component.TheVariants.{Y}
use Rattle.float.specs.Mark.{number}
use Rattle.float.specs.declared.quant.Mark.{Mark}
use Rattle.float.specs.declared.quant.Mark.TheVariants.{Inside, HeldHigh}
use Rattle.fit.specs.Answer.{unfit, fit_answer}
use Rattle.fit.specs.declared.Fit.{Fit}

-- a monochrome frame of 8 bits, denoised to 0
pub record Noise : Type 0 where
  pub shape : Shape
  pub luma : List ℕ
  pub lag : ℕ

abbrev pub fit : Noise → Fit
fit n = fit_answer n.shape n.luma [] [] (replicate (samples_of n.shape Y) 0) [] [] n.lag

-- a fit at lag 1 with this coefficient and this mark for the sample to the left
abbrev on_left : ℤ → Mark → Fit
on_left coefficient mark =
    record {
      refusal = 0;
      found = true;
      count = 4;
      luma = pos 0 ∷ pos 0 ∷ pos 0 ∷ coefficient ∷ replicate 20 (pos 0);
      cb = replicate 25 (pos 0);
      cr = replicate 25 (pos 0);
      luma_marks = 0 ∷ 0 ∷ 0 ∷ number mark ∷ replicate 20 0;
      cb_marks = replicate 25 0;
      cr_marks = replicate 25 0;
    }

abbrev pub cases : List (Case Noise Fit)
cases =
    row (record { shape = shape 2 3 8 0; luma = 1 ∷ 2 ∷ 3 ∷ 4 ∷ 5 ∷ 6 ∷ []; lag = 1 }) (unfit 0) ∷
    row (record { shape = shape 1 1 8 0; luma = 1 ∷ []; lag = 4 }) (unfit 7) ∷
    row (record { shape = shape 6 2 8 0; luma = 0 ∷ 0 ∷ 0 ∷ 1 ∷ 0 ∷ 0 ∷ replicate 6 1; lag = 1 }) (on_left (pos 64) Inside) ∷
    row (record { shape = shape 6 2 8 0; luma = 0 ∷ 0 ∷ 0 ∷ 1 ∷ 0 ∷ 0 ∷ 1 ∷ 3 ∷ 9 ∷ 27 ∷ 81 ∷ 243 ∷ []; lag = 1 }) (on_left (pos 127) HeldHigh) ∷
    row (record { shape = within 8 3 0 (at 1 1 6 2); luma = replicate 8 9 ++ (5 ∷ 0 ∷ 0 ∷ 0 ∷ 1 ∷ 0 ∷ 0 ∷ 7 ∷ 8 ∷ replicate 6 1 ++ (6 ∷ [])); lag = 1 }) (on_left (pos 64) Inside) ∷
    row (record { shape = within 4 3 0 (at 1 0 2 3); luma = replicate 12 1; lag = 1 }) (unfit 0) ∷
    []
