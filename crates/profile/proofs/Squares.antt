-- Squares of small numbers: no number's square is negative, those of a line fit an i32 by blocks of 32, and `dot` of a line with itself is their sum. Assumes nothing.
use mathlib.Core.Path.{◌≡◌, refl, ap, ◌∙◌}
use mathlib.Core.List.{List}
use Prim.Native.Nat.{ℕ, ◌*◌, ◌≤◌, ◌<◌}
use native.Mathlib.Nat.{le_trans, le_of_eq, lt_of_le_of_lt, lt_of_lt_of_le, mul-le-mul_left}
use native.Mathlib.Omega.{arith}
use lib.Dec.{lit≤, lit<}
use lib.IntN.{ℤ, pos, negsuc, nat_abs, ◌*ℤ◌}
use lib.ListN.{length}
use Rattle.laws.specs.Sums.{sum_to, sum_n}
use Rattle.laws.specs.Table.{tabulate}
use Rattle.laws.proofs.Table.{length-tabulate}
use Rattle.laws.proofs.Sums.{sum-ext as sum-extZ}
use Rattle.laws.proofs.Whole.{abs-mul-le}
use Rattle.noise.specs.Lines.{at, product, Lines}
use Rattle.noise.proofs.LineSums.{entry}
use Rattle.profile.specs.Shifted.{square_of}
use Rattle.profile.specs.Parts.{part_limit, shifted_limit, square_limit, ShiftedLine}
use Rattle.laws.proofs.SumsN.{sum-ext, sum-pos, sum_bound}

pub square-pos : (d : ℤ) → d *ℤ d ≡ pos (square_of d)
square-pos (pos n) = refl
square-pos (negsuc n) = refl

pub square_le : (d : ℤ) → nat_abs d ≤ shifted_limit → square_of d ≤ square_limit
square_le d h = abs-mul-le d d shifted_limit shifted_limit h h

pub square-lines : {line : List ℤ} → ShiftedLine line → Lines 32 line line
square-lines {line} S =
    record {
      same = refl;
      few = le_trans S.few (lit≤ tt);
      small = λ i l. lt_of_le_of_lt (mul-le-mul_left 32 (square_le (at line i) (S.small i l))) (lit< tt);
    }

pub dot-squares : (line : List ℤ) → sum_to (product line line) (length line) ≡ pos (sum_n (λ i. square_of (at line i)) (length line))
dot-squares line =
    sum-extZ (product line line) (λ i. pos (square_of (at line i))) (length line) (λ i l. square-pos (at line i))
    ∙ sum-pos (λ i. square_of (at line i)) (length line)

pub squares-le : {line : List ℤ} → ShiftedLine line → sum_n (λ i. square_of (at line i)) (length line) ≤ square_limit * part_limit
squares-le {line} S = omega (arith, S.few, sum_bound square_limit (λ i. square_of (at line i)) (length line) (λ i l. square_le (at line i) (S.small i l)))

-- ---- a line given by its entries

module _ (n : ℕ) (f : ℕ → ℤ) {line : List ℤ} (e : line ≡ tabulate n f) where
  size : length line ≡ n
  size = rw e (length-tabulate n f)

  pub line_small : n ≤ part_limit → ((i : ℕ) → i < n → nat_abs (f i) ≤ shifted_limit) → ShiftedLine line
  line_small h small =
      record {
        few = le_trans (le_of_eq size) h;
        small = λ i l. let k = lt_of_lt_of_le l (le_of_eq size) in le_trans (le_of_eq (ap nat_abs (entry n f e i k))) (small i k);
      }

  pub line-sum : sum_n (λ i. square_of (at line i)) (length line) ≡ sum_n (λ i. square_of (f i)) n
  line-sum =
      ap (sum_n (λ i. square_of (at line i))) size
      ∙ sum-ext (λ i. square_of (at line i)) (λ i. square_of (f i)) n (λ i l. ap square_of (entry n f e i l))
