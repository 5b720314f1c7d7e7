-- "One set to zero without quantising counts as inside": of an empty plane, and where the squares are at most 1e-9. Each reading has it as `unquantised`: the coefficient 0, the mark inside. Assumes nothing.
use Rattle.std.proofs.Common.{◌≡◌, Bool, true, false, cond, eqb, length, refl, eq-eqb}
use lib.Ieee.{le}
use Rattle.laws.specs.Constants.{tiny}
use Rattle.float.specs.Reading.{Reading}
use Rattle.noise.specs.Noise.{Pair}
use Rattle.noise.specs.Average.{Luma}
use Rattle.chroma_correlation.specs.Steps.{squares_f, corr}

module _ {A : Type 0} (R : Reading A) (luma : Luma) (chroma : Pair) where
  pub empty : length chroma.source ≡ 0 → corr R luma chroma ≡ R.unquantised
  unfolding corr
  empty e = rw (eq-eqb _ _ e)

  pub flat : le (squares_f luma chroma) tiny ≡ true → corr R luma chroma ≡ R.unquantised
  unfolding corr
  flat t = rw t (same (eqb (length chroma.source) 0))
    where
      same : (b : Bool) → cond b R.unquantised R.unquantised ≡ R.unquantised
      same true = refl
      same false = refl
