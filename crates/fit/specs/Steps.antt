-- "Chroma has one coefficient more, for the luma tap: the average of the 1, 2 or 4 luma noises at the chroma place". "Chroma of monochrome, of too small a plane or without a solution is all zeros."
-- The steps of the Rust's `ls_fit_ar` and of the closure `fit_chroma` in `fit_ar_lag`, each under its line; p is the order. Its matrix is the used part of 25 rows of 25 f64.
use Rattle.std.specs.Prelude.{ℕ, ◌-◌, ◌*◌, Bool, cond, ◌||◌, List, length, replicate, ◌==◌, nat_le, nat_lt, slice_index_or, Float}
use Rattle.std.specs.Float.Ieee.{le}
use Rattle.laws.specs.Scaled.{plus_zero}
use Rattle.laws.specs.Table.{tabulate}
use Rattle.float.specs.Reading.{Reading}
use Rattle.noise.specs.Average.{Luma}
use Rattle.noise.specs.Noise.{Pair}
use Rattle.noise.specs.Products.{Factor, noise_from, average, own}
use Rattle.noise.specs.Steps.{window_f}
use Rattle.positions.specs.Counts.{neighbours, factors}
use Rattle.positions.specs.Positions.{positions}
use Rattle.positions.specs.Neighbours.{sample}
use Rattle.solve.specs.Elimination.{Row, Matrix, value}
use Rattle.solve.specs.Answer.{solved_of}
use Rattle.solve.specs.declared.Solved.{Solved}

-- `pos[i]`: the noise of neighbour i, by its row and column from the sample; past the last neighbour the sample's own
abbrev pub neighbour_of : Pair → ℕ → ℕ → Factor
neighbour_of plane lag i = let p = slice_index_or (positions lag) i sample in noise_from plane p.0 p.1

-- `row.push(luma_at(y0, x0));`
abbrev pub with_tap : Luma → Pair → ℕ → ℕ → Factor
with_tap luma plane lag i = cond (nat_lt i (neighbours lag)) (neighbour_of plane lag i) (average luma)

-- `for y in lag..h { for x in lag..w - lag { sum += u * v; } }`
unfoldable pub fit_f : Pair → ℕ → Factor → Factor → Float
fit_f plane lag u v = window_f u v lag plane.height lag (plane.width - lag)

-- ---- the equations

-- `ata[i][j] += row[i] * row[j];` for j from i on, and `ata[i][j] = ata[j][i];` for j below i; plus zero where not used
unfoldable pub cell_of : (ℕ → ℕ → Float) → ℕ → ℕ → ℕ → Float
cell_of sum p i j = cond (nat_le p i) plus_zero (cond (nat_le p j) plus_zero (cond (nat_le i j) (sum i j) (sum j i)))

unfoldable pub row_of : (ℕ → ℕ → Float) → ℕ → ℕ → Row
row_of sum p i = tabulate 25 (cell_of sum p i)

unfoldable pub matrix_of : (ℕ → ℕ → Float) → ℕ → Matrix
matrix_of sum p = tabulate 25 (row_of sum p)

-- `atb[i] += row[i] * t;`
unfoldable pub value_of : (ℕ → Float) → ℕ → ℕ → Float
value_of sum p i = cond (nat_le p i) plus_zero (sum i)

unfoldable pub right_of : (ℕ → Float) → ℕ → Row
right_of sum p = tabulate 25 (value_of sum p)

-- the Rust's own `ata`, once its lower half is copied, and `atb`: p rows of p, and p values; a theorem gives both the same solution
abbrev pub ata_of : (ℕ → ℕ → Float) → ℕ → Matrix
ata_of sum p = tabulate p (λ i. tabulate p (λ j. cond (nat_le i j) (sum i j) (sum j i)))

abbrev pub atb_of : (ℕ → Float) → ℕ → Row
atb_of sum p = tabulate p sum

-- `solve_normal(ata, atb)`
unfoldable pub solved_fit : Pair → ℕ → (ℕ → Factor) → ℕ → Solved
solved_fit plane lag row p =
    solved_of (matrix_of (λ i j. fit_f plane lag (row i) (row j)) p) (right_of (λ i. fit_f plane lag (row i) (own plane)) p) p

-- ---- the coefficients: 25, of which p are used; as a reading tells them, the coefficient, its mark or both

-- set to zero without quantising
abbrev pub zeros : {A : Type 0} → Reading A → List A
zeros R = replicate 25 R.unquantised

-- `sol.iter().map(|&c| quant_ar(c))`
unfoldable pub quantised : {A : Type 0} → Reading A → Row → List A
quantised R x = tabulate 25 (λ i. R.of (value x i))

-- and zeros where there is no solution
unfoldable pub coefficients_of : {A : Type 0} → Reading A → Solved → List A
coefficients_of R r = cond r.found (quantised R r.solution.values) (zeros R)

-- `w <= 2 * lag || h <= lag`
abbrev pub too_small : Pair → ℕ → Bool
too_small plane lag = nat_le plane.width (2 * lag) || nat_le plane.height lag

-- `var += t * t;`
unfoldable pub energy_f : Pair → ℕ → Float
energy_f plane lag = fit_f plane lag (own plane) (own plane)

-- luma: `lag == 0`, then `ls_fit_ar`; zeros for its `None`. (`count == 0` is no case of its own: a plane that is not too small has a window.)
unfoldable pub luma_fit : {A : Type 0} → Reading A → Pair → ℕ → List A
luma_fit R plane lag =
    cond (lag == 0 || too_small plane lag) (zeros R)
    (cond (le (energy_f plane lag) plus_zero) (zeros R)
    (coefficients_of R (solved_fit plane lag (neighbour_of plane lag) (neighbours lag))))

-- chroma: `src.is_empty()`, then the size
unfoldable pub chroma_fit : {A : Type 0} → Reading A → Luma → Pair → ℕ → List A
chroma_fit R luma plane lag =
    cond (length plane.source == 0 || too_small plane lag) (zeros R)
    (coefficients_of R (solved_fit plane lag (with_tap luma plane lag) (factors lag)))
