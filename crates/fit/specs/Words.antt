-- "'No fit' is an accepted result, given if lag is 0, w ≤ 2×lag, h ≤ lag, the sum of squares over the target samples is 0, the luma solver has no solution, or all luma coefficients are 0, and otherwise not."
-- "Chroma of monochrome, of too small a plane or without a solution is all zeros." The cases, in these words.
use Rattle.std.specs.Prelude.{◌≡◌, ℕ, ◌*◌, ◌<◌, ◌≤◌, false, List, ℤ, pos, slice_index, slice_index_or}
use Rattle.float.specs.Steps.{quant_ar}
use Rattle.float.specs.Coefficient.{Written}
use Rattle.float.specs.Mark.{mark, number}
use Rattle.float.specs.Reading.{Reading, coefficients, marks}
use Rattle.noise.specs.Noise.{Pair, noise_of}
use Rattle.noise.specs.Average.{Luma}
use Rattle.positions.specs.Counts.{neighbours, factors}
use Rattle.normal.specs.Normal.{window_sum}
use Rattle.solve.specs.Elimination.{value}
use Rattle.solve.specs.declared.Solved.{Solved}
use Rattle.fit.specs.Steps.{neighbour_of, with_tap, solved_fit, zeros}
use Rattle.fit.specs.declared.Fit.{Fit}

-- the exact sum of squares over the target samples
abbrev pub energy : Pair → ℕ → ℤ
energy plane lag = window_sum plane.width plane.height lag (noise_of plane) (noise_of plane)

-- what the solver says of luma, and of a chroma plane
abbrev pub luma_solved : Pair → ℕ → Solved
luma_solved plane lag = solved_fit plane lag (neighbour_of plane lag) (neighbours lag)

abbrev pub chroma_solved : Luma → Pair → ℕ → Solved
chroma_solved luma plane lag = solved_fit plane lag (with_tap luma plane lag) (factors lag)

pub data NoFit (plane : Pair) (lag : ℕ) : Type 0 where
  lag_zero : lag ≡ 0 → NoFit plane lag
  narrow : plane.width ≤ 2 * lag → NoFit plane lag
  short : plane.height ≤ lag → NoFit plane lag
  still : energy plane lag ≡ pos 0 → NoFit plane lag
  unsolved : (luma_solved plane lag).found ≡ false → NoFit plane lag
  white : ((i : ℕ) → i < neighbours lag → quant_ar (value (luma_solved plane lag).solution.values i) ≡ pos 0) → NoFit plane lag

pub data NoChroma (format : ℕ) (luma : Luma) (plane : Pair) (lag : ℕ) : Type 0 where
  monochrome : format ≡ 0 → NoChroma format luma plane lag
  narrow : plane.width ≤ 2 * lag → NoChroma format luma plane lag
  short : plane.height ≤ lag → NoChroma format luma plane lag
  unsolved : (chroma_solved luma plane lag).found ≡ false → NoChroma format luma plane lag

-- "The luma fit, the chroma fit .. carry this for each coefficient": coefficient i of p and its mark are those of value i of the solution
pub record Carried (x : List ℤ) (m : List ℕ) (solution : Solved) (p : ℕ) : Type 0 where
  pub quantised : (i : ℕ) → i < p → slice_index_or x i (pos 0) ≡ quant_ar (value solution.solution.values i)
  pub marked : (i : ℕ) → i < p → slice_index m i ≡ number (mark (value solution.solution.values i))

-- coefficients "set to zero without quantising", and so "inside"
abbrev pub Zeros : List ℤ → List ℕ → Type 0
Zeros x y = (x ≡ zeros coefficients) × (y ≡ zeros marks)

-- "2×lag×(lag+1) of them", "Chroma has one coefficient more", "One set to zero without quantising counts as inside": zero, and inside, from p on, of the first m
abbrev pub ZeroFrom : {A : Type 0} → Reading A → ℕ → ℕ → List A → Type 0
ZeroFrom R p m x = (i : ℕ) → p ≤ i → i < m → slice_index_or x i R.unquantised ≡ R.unquantised

pub record UnusedZero (lag : ℕ) (f : Fit) : Type 0 where
  pub luma : ZeroFrom coefficients (neighbours lag) 24 f.luma
  pub cb : ZeroFrom coefficients (factors lag) 25 f.cb
  pub cr : ZeroFrom coefficients (factors lag) 25 f.cr
  pub luma-marks : ZeroFrom marks (neighbours lag) 24 f.luma_marks
  pub cb-marks : ZeroFrom marks (factors lag) 25 f.cb_marks
  pub cr-marks : ZeroFrom marks (factors lag) 25 f.cr_marks

-- 5.9.30: every coefficient of a list can be written, and so those of an answer
abbrev pub AllWritten : List ℤ → Type 0
AllWritten x = (i : ℕ) → Written (slice_index_or x i (pos 0))

pub record FitWritten (f : Fit) : Type 0 where
  pub luma : AllWritten f.luma
  pub cb : AllWritten f.cb
  pub cr : AllWritten f.cr

-- "every luma and Cb result is the same": every result but Cr's
pub record SameButCr (f g : Fit) : Type 0 where
  pub found : f.found ≡ g.found
  pub count : f.count ≡ g.count
  pub luma : f.luma ≡ g.luma
  pub luma-marks : f.luma_marks ≡ g.luma_marks
  pub cb : f.cb ≡ g.cb
  pub cb-marks : f.cb_marks ≡ g.cb_marks
