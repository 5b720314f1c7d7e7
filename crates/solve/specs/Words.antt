-- "Gaussian elimination on a matrix of 25 rows of 25 f64, of which `order` are used .. The pivot is the first of largest magnitude by `>` .. The solution is a count with 25 f64 values, unused ones plus zero." What these words say of two matrices, of a row and of an answer.
use Rattle.std.specs.Prelude.{◌≡◌, true, false, List, [], map, ◌⊎◌, ℕ, ◌≤◌, ◌<◌, length, get_or, take, Float}
use Rattle.std.specs.Float.{nan}
use Rattle.std.specs.Float.Ieee.{lt, le}
use Rattle.laws.specs.Limits.{order_limit}
use Rattle.laws.specs.Scaled.{plus_zero}
use Rattle.float.specs.Magnitude.{magnitude_of}
use Rattle.solve.specs.Elimination.{Row, Matrix, System, value, cell}
use Rattle.solve.specs.declared.Solved.{Solved}

-- ---- "of which `order` are used"

-- both lists have p entries or more, and the first p stand in R
pub record Alike {A : Type 0} (R : A → A → Type 0) (d : A) (p : ℕ) (xs ys : List A) : Type 0 where
  pub long : p ≤ length xs
  pub long' : p ≤ length ys
  pub each : (i : ℕ) → i < p → R (get_or xs i d) (get_or ys i d)

-- the first p entries of two rows are equal; the first p of the first p rows of two matrices
abbrev pub RowAlike : ℕ → Row → Row → Type 0
RowAlike = Alike ◌≡◌ nan

abbrev pub MatrixAlike : ℕ → Matrix → Matrix → Type 0
MatrixAlike p = Alike (RowAlike p) [] p

-- two systems with the same used part
pub record Agree (p : ℕ) (s t : System) : Type 0 where
  pub matrix : MatrixAlike p s.matrix t.matrix
  pub right : RowAlike p s.right t.right

-- the used part of a matrix, which is the Rust's whole one
abbrev pub used_part : ℕ → Matrix → Matrix
used_part p a = map (take p) (take p a)

-- ---- "the first of largest magnitude by `>`"

-- the magnitude in row r of column i
abbrev pub size_at : Matrix → ℕ → ℕ → Float
size_at a i r = magnitude_of (cell a r i)

-- of the rows from i up to k, row v is the first of largest magnitude in column i: row i, or above it, and no later row is above v, no earlier one as large
pub record FirstLargest (a : Matrix) (i k v : ℕ) : Type 0 where
  pub from : i ≤ v
  pub below : v < k
  pub above : (v ≡ i) ⊎ (lt (size_at a i i) (size_at a i v) ≡ true)
  pub largest : (r : ℕ) → i ≤ r → r < k → lt (size_at a i v) (size_at a i r) ≡ false
  pub first : (r : ℕ) → i ≤ r → r < v → le (size_at a i v) (size_at a i r) ≡ false

-- ---- "a count with 25 f64 values, unused ones plus zero"

-- 25 values, plus zero from n on
pub record Padded (n : ℕ) (x : Row) : Type 0 where
  pub full : length x ≡ order_limit
  pub unused : (k : ℕ) → n ≤ k → k < order_limit → value x k ≡ plus_zero

-- what holds of every answer: its number, its count where a solution is found, and its values
pub record Whole (refusal order : ℕ) (r : Solved) : Type 0 where
  pub numbered : r.refusal ≡ refusal
  pub counted : r.found ≡ true → r.solution.order ≡ order
  pub padded : Padded r.solution.order r.solution.values
