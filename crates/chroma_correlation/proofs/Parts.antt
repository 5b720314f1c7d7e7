-- A part of what a reading tells is told by the reading of that part: the coefficient and the mark of a correlation. Assumes nothing.
use Rattle.std.proofs.Common.{◌≡◌, Bool, true, false, cond, eqb, length, refl, ap, ◌∙◌}
use lib.Ieee.{le}
use Rattle.laws.specs.Constants.{tiny}
use Rattle.float.specs.Mark.{number}
use Rattle.float.specs.Reading.{Reading, coefficients, marks, both}
use Rattle.float.proofs.Reading.{part}
use Rattle.float.specs.declared.quant.Quantised.{Quantised}
use Rattle.noise.specs.Noise.{Pair}
use Rattle.noise.specs.Average.{Luma}
use Rattle.chroma_correlation.specs.Steps.{squares_f, corr}

either : {A B : Type 0} (f : A → B) (a b : Bool) (x y : A) → f (cond a x (cond b x y)) ≡ cond a (f x) (cond b (f x) (f y))
either f true b x y = refl
either f false true x y = refl
either f false false x y = refl

module _ (luma : Luma) (chroma : Pair) where
  part-told : {A B : Type 0} (R : Reading A) (f : A → B) → f (corr R luma chroma) ≡ corr (part f R) luma chroma
  unfolding corr
  part-told R f = either f (eqb (length chroma.source) 0) (le (squares_f luma chroma) tiny) _ _

  module _ {q : Quantised} (is : q ≡ corr both luma chroma) where
    pub coefficient-is : q.coefficient ≡ corr coefficients luma chroma
    coefficient-is = ap (λ (p : Quantised). p.coefficient) is ∙ part-told both (λ p. p.coefficient)

    pub mark-is : number q.mark ≡ corr marks luma chroma
    mark-is = ap (λ (p : Quantised). number p.mark) is ∙ part-told both (λ p. number p.mark)
