-- "Chroma correlation, 4:2:0, width 3, height 1, luma noise 0,4,8, Cb noise 1,1: averages 2 and 8, result 9." Then the same in a frame of width 5 whose active rectangle ends there, "and the luma average repeats its last row and column"; one that is held, and one that is set to zero.
use Rattle.std.specs.Prelude.{List, [], ◌∷◌, ℕ, ◌*◌, ℤ, pos}
use Rattle.table.specs.Cases.{Case, row}
use Rattle.table.specs.Questions.{shape, at, within, flat}
use Rattle.laws.specs.Table.{tabulate}
use Rattle.frame.specs.Planes.{samples_of, geometry_of}
use Rattle.frame.specs.declared.Shape.{Shape}
use Rattle.frame.specs.declared.view.Component.TheVariants.{Y, CbCr}
use Rattle.float.specs.Mark.{number}
use Rattle.float.specs.declared.quant.Mark.{Mark}
use Rattle.float.specs.declared.quant.Mark.TheVariants.{Inside, HeldHigh}
use Rattle.noise.specs.Average.{luma_seen, quarters}
use Rattle.chroma_correlation.specs.Answer.{corr_answer}
use Rattle.chroma_correlation.specs.declared.ChromaCorr.{ChromaCorr}

-- luma and chroma, the same of both components, denoised to 0
pub record Noises : Type 0 where
  pub shape : Shape
  pub luma-noise : List ℕ
  pub chroma-noise : List ℕ

pub record Figures : Type 0 where
  -- four times each average of the first chroma row
  pub averages : List ℤ
  pub answer : ChromaCorr

abbrev pub figures : Noises → Figures
figures i =
    let s = i.shape in
    let g = geometry_of s in
    let luma-copy = flat (samples_of s Y) in
    let copy = flat (samples_of s CbCr) in
    record {
      averages = tabulate g.chroma.width (quarters (luma_seen g i.luma-noise luma-copy) 0);
      answer = corr_answer s i.luma-noise i.chroma-noise i.chroma-noise luma-copy copy copy;
    }

-- of both components
abbrev tap : ℤ → Mark → ChromaCorr
tap coefficient mark = record { refusal = 0; cb = coefficient; cr = coefficient; cb_mark = number mark; cr_mark = number mark }

-- one place of 4:4:4: luma noise, chroma noise
abbrev place : ℕ → ℕ → Noises
place luma chroma = record { shape = shape 1 1 8 3; luma-noise = luma ∷ []; chroma-noise = chroma ∷ [] }

-- averages 2 and 8, result 9
abbrev worked : Figures
worked = record { averages = pos (4 * 2) ∷ pos (4 * 8) ∷ []; answer = tap (pos 9) Inside }

abbrev pub cases : List (Case Noises Figures)
cases =
    row (record { shape = shape 3 1 8 1; luma-noise = 0 ∷ 4 ∷ 8 ∷ []; chroma-noise = 1 ∷ 1 ∷ [] }) worked ∷
    row (record { shape = within 5 1 1 (at 0 0 3 1); luma-noise = 0 ∷ 4 ∷ 8 ∷ 100 ∷ 200 ∷ []; chroma-noise = 1 ∷ 1 ∷ 7 ∷ [] }) worked ∷
    row (record { shape = within 5 1 1 (at 2 0 3 1); luma-noise = 100 ∷ 200 ∷ 0 ∷ 4 ∷ 8 ∷ []; chroma-noise = 7 ∷ 1 ∷ 1 ∷ [] }) worked ∷
    row (place 1 3) (record { averages = pos 4 ∷ []; answer = tap (pos 127) HeldHigh }) ∷
    row (place 0 3) (record { averages = pos 0 ∷ []; answer = tap (pos 0) Inside }) ∷ []
