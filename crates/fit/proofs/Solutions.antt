-- The coefficients from the solver's answer; and equal sums make equal equations. Assumes nothing.
use Rattle.std.proofs.Common.{◌≡◌, ℕ, ◌+◌, ◌<◌, ◌≤◌, Bool, true, false, cond, Option, Some, None, Result, Ok, Err, ltb, leb, List, ℤ, refl, ap, ◌∙◌, le_refl, le_of_lt, arith, leb-false, leb-true}
use lib.Ieee.{Float, binary64, div, of_int}
use Rattle.laws.specs.Constants.{four}
use Rattle.laws.specs.Scaled.{plus_zero}
use Rattle.laws.proofs.Table.{tabulate-same}
use Rattle.float.specs.Reading.{Reading}
use Rattle.positions.specs.Counts.{neighbours, factors}
use Rattle.solve.specs.Elimination.{Row, Matrix}
use Rattle.solve.specs.Answer.{solved_of, record_of}
use Rattle.solve.specs.declared.Solved.{Solved}
use Rattle.solve.specs.declared.Solution.{Solution}
use Rattle.frame.specs.declared.refusal.Refusal.{Refusal}
use Rattle.std.specs.Result.{result_unwrap_or}
use Rattle.fit.specs.Steps.{cell_of, row_of, matrix_of, value_of, right_of, zeros, quantised, coefficients_of}
use Rattle.fit.specs.Sums.{cell_sum, right_sum, exact_fit}

-- the solver's answer, as C has it, where it has a solution or none
pub found-of : (o : Result (Option Solution) Refusal) (s : Solution) → result_unwrap_or o None ≡ Some s → ((record_of o).found ≡ true) × ((record_of o).solution ≡ s)
found-of (Ok (Some x)) s e = (refl, cc)
found-of (Ok None) s e = absurd (cc)
found-of (Err x) s e = absurd (cc)

pub none-of : (o : Result (Option Solution) Refusal) → result_unwrap_or o None ≡ None → (record_of o).found ≡ false
none-of (Ok (Some x)) e = absurd (cc)
none-of (Ok None) e = refl
none-of (Err x) e = refl

module _ {A : Type 0} (R : Reading A) (entries : ℕ → ℕ → ℤ) (taps : ℕ → ℤ) (squares : Float) (lag p : ℕ) (a : Matrix) (b : Row) (r : Solved)
    (ea : a ≡ matrix_of (cell_sum entries taps squares lag) p) (eb : b ≡ right_of (right_sum entries taps lag) p) (er : r ≡ solved_of a b p) where
  pub solution : r.found ≡ true → (x : List A) → x ≡ quantised R r.solution.values → x ≡ exact_fit R entries taps squares lag p
  unfolding exact_fit coefficients_of
  solution f x e = rw (← ea, ← eb, ← er, f) e

  pub no-solution : r.found ≡ false → zeros R ≡ exact_fit R entries taps squares lag p
  unfolding exact_fit coefficients_of
  no-solution f = rw (← ea, ← eb, ← er, f)

-- ---- the same sums
module _ (sum sum' : ℕ → ℕ → Float) (p : ℕ) (same : (i j : ℕ) → i ≤ j → j < p → sum i j ≡ sum' i j) where
  cell_same : (i j : ℕ) → cell_of sum p i j ≡ cell_of sum' p i j
  unfolding cell_of
  cell_same i j = go (leb p i) (leb p j) (leb i j) refl refl refl
    where
      go : (a b c : Bool) → leb p i ≡ a → leb p j ≡ b → leb i j ≡ c
          → cond a plus_zero (cond b plus_zero (cond c (sum i j) (sum j i))) ≡ cond a plus_zero (cond b plus_zero (cond c (sum' i j) (sum' j i)))
      go true b c d e f = refl
      go false true c d e f = refl
      go false false true d e f = same i j (leb-true i j f) (leb-false p j e)
      go false false false d e f = same j i (le_of_lt (leb-false i j f)) (leb-false p i d)

  row_same : (i : ℕ) → row_of sum p i ≡ row_of sum' p i
  unfolding row_of
  row_same i = tabulate-same 25 (cell_of sum p i) (cell_of sum' p i) (λ j l. cell_same i j)

  pub matrix-same : matrix_of sum p ≡ matrix_of sum' p
  unfolding matrix_of
  matrix-same = tabulate-same 25 (row_of sum p) (row_of sum' p) (λ i l. row_same i)

module _ (sum sum' : ℕ → Float) (p : ℕ) (same : (i : ℕ) → i < p → sum i ≡ sum' i) where
  value_same : (i : ℕ) → value_of sum p i ≡ value_of sum' p i
  unfolding value_of
  value_same i = go (leb p i) refl
    where
      go : (a : Bool) → leb p i ≡ a → cond a plus_zero (sum i) ≡ cond a plus_zero (sum' i)
      go true e = refl
      go false e = same i (leb-false p i e)

  pub right-same : right_of sum p ≡ right_of sum' p
  unfolding right_of
  right-same = tabulate-same 25 (value_of sum p) (value_of sum' p) (λ i l. value_same i)

exact_same : {A : Type 0} (R : Reading A) (entries entries' : ℕ → ℕ → ℤ) (taps : ℕ → ℤ) (squares : Float) (lag p : ℕ) → p ≤ factors lag
    → ((i j : ℕ) → i < factors lag → j < factors lag → entries i j ≡ entries' i j) → exact_fit R entries taps squares lag p ≡ exact_fit R entries' taps squares lag p
unfolding exact_fit cell_sum right_sum
exact_same R entries entries' taps squares lag p few same =
    λ t. coefficients_of R (solved_of (matrix-same (cell_sum entries taps squares lag) (cell_sum entries' taps squares lag) p cells t) (right-same (right_sum entries taps lag) (right_sum entries' taps lag) p values t) p)
  where
    cells : (i j : ℕ) → i ≤ j → j < p → cell_sum entries taps squares lag i j ≡ cell_sum entries' taps squares lag i j
    cells i j a b =
        let k : i < factors lag = omega arith in
        let l : j < factors lag = omega arith in
        λ t. cond (ltb j (neighbours lag)) (of_int binary64 (same i j k l t)) (cond (ltb i (neighbours lag)) (div binary64 (of_int binary64 (taps i)) four) squares)

    values : (i : ℕ) → i < p → right_sum entries taps lag i ≡ right_sum entries' taps lag i
    values i a =
        let k : i < factors lag = omega arith in
        let l : neighbours lag < factors lag = omega arith in
        λ t. cond (ltb i (neighbours lag)) (of_int binary64 (same i (neighbours lag) k l t)) (div binary64 (of_int binary64 (taps (neighbours lag))) four)

-- with the sums of every factor
pub exact-all : {A : Type 0} (R : Reading A) (entries entries' : ℕ → ℕ → ℤ) (taps : ℕ → ℤ) (squares : Float) (lag p : ℕ) → p + 1 ≡ factors lag
    → ((i j : ℕ) → i < factors lag → j < factors lag → entries i j ≡ entries' i j) → (r : List A) → r ≡ exact_fit R entries taps squares lag (p + 1) → r ≡ exact_fit R entries' taps squares lag (factors lag)
exact-all R entries entries' taps squares lag p e same r d =
    d ∙ ap (exact_fit R entries taps squares lag) e ∙ exact_same R entries entries' taps squares lag (factors lag) (le_refl (factors lag)) same
