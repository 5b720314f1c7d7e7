-- What is said of the answer, in the documents' words.
use Rattle.std.specs.Prelude.{◌≡◌}
use Rattle.float.specs.Mark.{number}
use Rattle.float.specs.declared.quant.Mark.TheVariants.{NotANumber}
use Rattle.chroma_correlation.specs.declared.ChromaCorr.{ChromaCorr}

-- "every luma and Cb result is the same"
pub record SameButCr (a b : ChromaCorr) : Type 0 where
  pub cb : a.cb ≡ b.cb
  pub cb-mark : a.cb_mark ≡ b.cb_mark

-- of "inside, held at the low end, held at the high end, or NaN", never the last
pub record NeverNaN (a : ChromaCorr) : Type 0 where
  pub cb : a.cb_mark ≡ number NotANumber → ⊥
  pub cr : a.cr_mark ≡ number NotANumber → ⊥
