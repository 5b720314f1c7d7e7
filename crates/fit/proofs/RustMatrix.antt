-- The Rust's matrix has p rows and columns and its right side p values, p the order; the definition's have 25 of each. The solver gives the same for both. Assumes nothing.
use Rattle.std.proofs.Common.{◌≡◌, ℕ, ◌<◌, ◌≤◌, cond, leb, [], lt_of_lt_of_le, arith}
use lib.Ieee.{Float, nan}
use borrow.Author.Tests.{lt-leb}
use Rattle.laws.specs.Table.{tabulate}
use Rattle.laws.proofs.Table.{get_d_tabulate, length-tabulate}
use Rattle.noise.specs.Noise.{Pair}
use Rattle.noise.specs.Products.{Factor, own}
use Rattle.solve.specs.Answer.{solved_of}
use Rattle.solve.specs.Words.{Alike, RowAlike}
use Rattle.solve.proofs.Used.{used-alone}
use Rattle.fit.specs.Steps.{fit_f, cell_of, row_of, matrix_of, value_of, right_of, ata_of, atb_of, solved_fit}

tables-alike : {A : Type 0} (R : A → A → Type 0) (d : A) (p : ℕ) → p ≤ 25 → (f g : ℕ → A) → ((i : ℕ) → i < p → R (f i) (g i)) → Alike R d p (tabulate 25 f) (tabulate p g)
tables-alike R d p h f g e = record {
  long = rw (length-tabulate 25 f) h;
  long' = rw (length-tabulate p g) (omega arith);
  each = λ i l. rw (get_d_tabulate 25 f i d (lt_of_lt_of_le l h), get_d_tabulate p g i d l) (e i l);
}

pub rust-solved : (plane : Pair) (lag : ℕ) (row : ℕ → Factor) (p : ℕ) → p ≤ 25
    → solved_fit plane lag row p ≡ solved_of (ata_of (λ i j. fit_f plane lag (row i) (row j)) p) (atb_of (λ i. fit_f plane lag (row i) (own plane)) p) p
unfolding solved_fit matrix_of row_of cell_of right_of value_of
rust-solved plane lag row p h =
    used-alone p _ _ _ _
    (record {
      matrix = tables-alike (RowAlike p) [] p h (row_of sum p) (λ i. tabulate p (λ j. cond (leb i j) (sum i j) (sum j i)))
          (λ i l. tables-alike ◌≡◌ nan p h (cell_of sum p i) (λ j. cond (leb i j) (sum i j) (sum j i)) (λ j m. rw (lt-leb p i l, lt-leb p j m)));
      right = tables-alike ◌≡◌ nan p h (value_of right p) right (λ i l. rw (lt-leb p i l));
    })
  where
    sum : ℕ → ℕ → Float
    sum i j = fit_f plane lag (row i) (row j)

    right : ℕ → Float
    right i = fit_f plane lag (row i) (own plane)
